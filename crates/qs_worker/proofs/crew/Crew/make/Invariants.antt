use Rattle.std.proofs.Common.{◌≡◌, ◌+◌, ◌≤◌, All, Some, length, reverse, vec_capacity}
use Rattle.qs_core.specs.Core.{empty_view}
use Rattle.qs_worker.proofs.Making.{AreMade}
use Rattle.qs_worker.proofs.crew.Crew.make.Given as goal

abbrev pub invariant-loop-seat : goal.invariant-loop-seat
invariant-loop-seat g l =
    AreMade l.fn.seats.items l.fn.queue_seats.items l.seats.items l.queue_seats.items (reverse l.workers.items)
    × All (λ s. s.plan ≡ Some (g.W.Work.plan l.fn.work)) l.seats.items
    × All (λ s. s.view.holds ≡ empty_view) l.seats.items
    × (length l.queue_seats.items ≡ length l.seats.items)
    × (length l.seats.items + length l.workers.items ≡ length l.fn.seats.items)
    × (length l.fn.seats.items ≤ vec_capacity l.workers)
    × (vec_capacity l.seats ≡ vec_capacity l.fn.seats)

abbrev pub decreases-loop-seat : goal.decreases-loop-seat
decreases-loop-seat g l = length l.seats.items
