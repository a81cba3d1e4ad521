use Rattle.std.proofs.Common.{◌≡◌, ◌+◌, ◌≤◌, length, vec_capacity}
use Rattle.qs_table.specs.Seats.{IsSeatOf}
use Rattle.qs_worker.specs.inner.Leaves.{AreFetched}
use Rattle.qs_worker.proofs.leaves.fetch_leaves.Given as goal

abbrev pub invariant-loop-leaf : goal.invariant-loop-leaf
invariant-loop-leaf g l =
    IsSeatOf l.fn.table l.seat
    × AreFetched (g.W.Work.shape l.fn.table.plan) (g.W.Work.fits l.fn.table.plan) g.W.Work.done l.fn.range.from l.fn.seat.view l.seat.view l.blocks.items
    × (l.fn.range.from + length l.blocks.items ≡ l.leaf)
    × (l.leaf ≤ l.fn.range.to)
    × (vec_capacity l.blocks ≡ vec_capacity l.fn.blocks)
