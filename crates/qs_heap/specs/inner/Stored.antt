-- What a heap keeps.
use Rattle.std.specs.Prelude.{ℕ, ◌≤◌, List, length}
use Rattle.qs_heap.specs.declared.entry.Entry.{Entry}
use Rattle.qs_heap.specs.Heap.{IsHeap}

-- the list is a heap, it isn't longer than the room, and there is memory for the room
pub record IsKept (entries : List Entry) (room capacity : ℕ) : Type 0 where
  pub heap : IsHeap entries
  pub fits : length entries ≤ room
  pub reserved : room ≤ capacity
