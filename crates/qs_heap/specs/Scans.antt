-- What a scan of the heap does.
use Rattle.std.specs.Prelude.{◌≡◌, ℕ, ◌+◌, ◌^◌, ◌<◌, List, length, All, Option, MatchOption, swap_remove}
use Rattle.qs_heap.specs.declared.entry.Entry.{Entry}
use Rattle.qs_heap.specs.Entries.{RemovesEntry, entry_at, entry_of}
use Rattle.qs_heap.specs.Moves.{MovesInLine}

-- each entry's task is below the limit
abbrev pub AreBelow : ℕ → List Entry → Type 0
AreBelow limit = All (λ entry. entry.task < limit)

-- each entry before a place of the list was refused
abbrev pub RefusedBefore : (ℕ → Type 0) → List Entry → ℕ → Type 0
RefusedBefore refused entries end = (place : ℕ) → place < end → refused (entry_at entries place).task

-- every entry was refused
abbrev pub AllRefused : (ℕ → Type 0) → List Entry → Type 0
AllRefused refused entries = RefusedBefore refused entries (length entries)

-- the entry at a place has this task, each before it was refused, and just that one is gone: the last one took its place and moved from there
pub record TakesFirst (refused : ℕ → Type 0) (task : ℕ) (old new : List Entry) : Type 0 where
  pub place : ℕ
  pub inside : place < length old
  pub taken : (entry_at old place).task ≡ task
  pub before : RefusedBefore refused old place
  pub rest : RemovesEntry (entry_at old place) old new
  pub moved : MovesInLine (swap_remove old place (entry_of 0 0)) new place

-- a count of 64 bits rose by so much, where it didn't overflow
abbrev pub RoseBy : ℕ → ℕ → ℕ → Type 0
RoseBy more old new = old + more < 2 ^ 64 → new ≡ old + more

-- the entry at a place has this task, each before it was refused, and there was one try for each of them and for this one
pub record TriesUpTo (refused : ℕ → Type 0) (task : ℕ) (entries : List Entry) (old new : ℕ) : Type 0 where
  pub place : ℕ
  pub inside : place < length entries
  pub taken : (entry_at entries place).task ≡ task
  pub before : RefusedBefore refused entries place
  pub once : RoseBy (place + 1) old new

-- each entry was tried just once, up to the one that was taken
abbrev pub TriesOnce : (ℕ → Type 0) → Option ℕ → List Entry → ℕ → ℕ → Type 0
TriesOnce refused taken entries old new = MatchOption taken (RoseBy (length entries) old new) (λ task. TriesUpTo refused task entries old new)
