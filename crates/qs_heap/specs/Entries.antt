-- Entries, which of two goes first, and lists with just one entry more or fewer.
use Rattle.std.specs.Prelude.{ℕ, ◌==◌, ◌&&◌, ◌||◌, Bool, nat_lt, List, ◌∷◌, slice_index_or, IsPermutation}
use Rattle.qs_heap.specs.declared.entry.Entry.{Entry}

abbrev pub entry_of : ℕ → ℕ → Entry
entry_of weight task = record { weight = weight; task = task }

-- the entry at a place of the list, and one of weight 0 behind its end
abbrev pub entry_at : List Entry → ℕ → Entry
entry_at entries place = slice_index_or entries place (entry_of 0 0)

-- one entry goes before another: its weight is greater, or the weights are equal and its task is smaller
abbrev pub goes_before : Entry → Entry → Bool
goes_before one other = nat_lt other.weight one.weight || (one.weight == other.weight && nat_lt one.task other.task)

-- the new entries are the old ones and this one, in another order
abbrev pub AddsEntry : Entry → List Entry → List Entry → Type 0
AddsEntry entry old new = IsPermutation (entry ∷ old) new

-- the old entries are the new ones and this one, in another order
abbrev pub RemovesEntry : Entry → List Entry → List Entry → Type 0
RemovesEntry entry old new = IsPermutation old (entry ∷ new)
