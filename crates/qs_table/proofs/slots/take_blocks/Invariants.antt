use Rattle.std.proofs.Common.{◌≡◌, ◌≤◌, ◌<◌, ℕ, false, true, take, length, slice_index_or, vec_capacity}
use Rattle.std.specs.Mem.Slots.{slots_items, slots_filled, slots_len}
use Rattle.qs_table.specs.inner.Slots.{blocks_in}
use Rattle.qs_table.proofs.slots.take_blocks.Given as goal

abbrev pub invariant-loop-leaf : goal.invariant-loop-leaf
invariant-loop-leaf g l =
    (l.closed.words ≡ l.fn.closed.words)
    × (slots_items l.closed.slots ≡ slots_items l.fn.closed.slots)
    × (slots_len l.closed.slots ≡ slots_len l.fn.closed.slots)
    × (l.blocks.items ≡ blocks_in (take l.leaf (slots_items l.fn.closed.slots)))
    × (length l.blocks.items ≤ l.leaf)
    × (vec_capacity l.blocks ≡ vec_capacity l.fn.blocks)
    × ((k : ℕ) → k < l.leaf → slice_index_or (slots_filled l.closed.slots) k false ≡ false)
    × ((k : ℕ) → l.leaf ≤ k → k < slots_len l.closed.slots → slice_index_or (slots_filled l.closed.slots) k false ≡ true)
