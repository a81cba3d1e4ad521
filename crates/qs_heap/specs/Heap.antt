-- The heap's order.
use Rattle.std.specs.Prelude.{◌≡◌, ℕ, ◌+◌, ◌*◌, ◌<◌, ◌≤◌, false, List, length}
use Rattle.qs_heap.specs.declared.entry.Entry.{Entry}
use Rattle.qs_heap.specs.Entries.{entry_at, goes_before}

-- what a heap is seen as: its list, and how many entries it has room for
pub record Heap : Type 0 where
  pub entries : List Entry
  pub room : ℕ

-- right below place k stand the places 2k + 1 and 2k + 2
pub record IsRightBelow (place below : ℕ) : Type 0 where
  pub from : 2 * place + 1 ≤ below
  pub to : below ≤ 2 * place + 2

-- no entry goes before the one that it stands right below
pub record IsHeap (entries : List Entry) : Type 0 where
  pub ordered : (place below : ℕ) → IsRightBelow place below → below < length entries → goes_before (entry_at entries below) (entry_at entries place) ≡ false
