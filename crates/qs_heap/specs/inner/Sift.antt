-- A list in which one entry may be out of the heap's order.
use Rattle.std.specs.Prelude.{◌≡◌, ◌≢◌, ℕ, ◌<◌, true, false, List, length}
use Rattle.qs_heap.specs.declared.entry.Entry.{Entry}
use Rattle.qs_heap.specs.Entries.{entry_at, goes_before}
use Rattle.qs_heap.specs.Heap.{IsRightBelow}
use Rattle.qs_heap.specs.Moves.{place_above}

-- the list would be a heap, were the entry at the place taken out
pub record IsHeapBesides (entries : List Entry) (place : ℕ) : Type 0 where
  pub others : (above below : ℕ) → IsRightBelow above below → below < length entries → above ≢ place → below ≢ place → goes_before (entry_at entries below) (entry_at entries above) ≡ false
  pub across : (above below : ℕ) → IsRightBelow above place → IsRightBelow place below → below < length entries → goes_before (entry_at entries below) (entry_at entries above) ≡ false

-- no entry right below the place goes before the one there
pub record IsBeforeThoseBelow (entries : List Entry) (place : ℕ) : Type 0 where
  pub none : (below : ℕ) → IsRightBelow place below → below < length entries → goes_before (entry_at entries below) (entry_at entries place) ≡ false

-- the entry at the place goes before the one that it stands right below
pub record GoesBeforeThatAbove (entries : List Entry) (place : ℕ) : Type 0 where
  pub some : 0 < place
  pub before : goes_before (entry_at entries place) (entry_at entries (place_above place)) ≡ true

-- the entry at the place doesn't go before the one that it stands right below
pub record IsBehindThatAbove (entries : List Entry) (place : ℕ) : Type 0 where
  pub none : (above : ℕ) → IsRightBelow above place → goes_before (entry_at entries place) (entry_at entries above) ≡ false

-- of the entries right below a place, none goes before this one
pub record IsFirstBelow (entries : List Entry) (place first : ℕ) : Type 0 where
  pub below : IsRightBelow place first
  pub inside : first < length entries
  pub none : (other : ℕ) → IsRightBelow place other → other < length entries → goes_before (entry_at entries other) (entry_at entries first) ≡ false
