use Rattle.std.proofs.Common.{◌≡◌, ◌≤◌, ◌+◌, ◌++◌, map, reverse, length, Some, vec_capacity}
use Rattle.qs_table.proofs.slots.fill_slots.Given as goal

abbrev pub invariant-loop-block : goal.invariant-loop-block
invariant-loop-block g l =
    (map Some l.fn.blocks.items ≡ map Some l.blocks.items ++ reverse l.slots.items) × (length l.blocks.items + length l.slots.items ≤ vec_capacity l.slots) × (vec_capacity l.blocks ≡ vec_capacity l.fn.blocks)

abbrev pub decreases-loop-block : goal.decreases-loop-block
decreases-loop-block g l = length l.blocks.items
