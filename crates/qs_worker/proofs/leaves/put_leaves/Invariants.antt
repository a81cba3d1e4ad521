use Rattle.std.proofs.Common.{◌≡◌, ℕ, List, ◌+◌, ◌≤◌, length, vec_capacity}
use Rattle.qs_table.specs.Seats.{IsSeatOf}
use Rattle.qs_worker.specs.inner.Leaves.{CanPut, HasPut}
use Rattle.qs_worker.proofs.leaves.put_leaves.Given as goal

abbrev pub invariant-loop-block : goal.invariant-loop-block
invariant-loop-block g l =
    IsSeatOf l.fn.table l.seat
    × HasPut (l.fn.from + length l.blocks.items) (l.fn.from + length l.fn.blocks.items) l.fn.seat.view l.seat.view
    × ((task : ℕ) (others successors : List ℕ) → CanPut (g.W.Work.fits l.fn.table.plan) g.W.Work.done task others successors l.fn.from l.fn.seat.view l.fn.blocks.items
    → CanPut (g.W.Work.fits l.fn.table.plan) g.W.Work.done task others successors l.fn.from l.seat.view l.blocks.items)
    × (length l.blocks.items ≤ length l.fn.blocks.items)
    × (vec_capacity l.blocks ≡ vec_capacity l.fn.blocks)

abbrev pub decreases-loop-block : goal.decreases-loop-block
decreases-loop-block g l = length l.blocks.items
