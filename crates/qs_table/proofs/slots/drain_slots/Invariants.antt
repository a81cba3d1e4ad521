use Rattle.std.proofs.Common.{◌≡◌, ◌≤◌, ◌+◌, ◌++◌, length, reverse, vec_capacity}
use Rattle.qs_table.specs.inner.Slots.{blocks_in}
use Rattle.qs_table.proofs.slots.drain_slots.Given as goal

abbrev pub invariant-loop-slot : goal.invariant-loop-slot
invariant-loop-slot g l =
    (blocks_in l.fn.slots.items ≡ blocks_in l.slots.items ++ reverse l.blocks.items) × (length l.slots.items + length l.blocks.items ≤ vec_capacity l.blocks)

abbrev pub decreases-loop-slot : goal.decreases-loop-slot
decreases-loop-slot g l = length l.slots.items
