use Rattle.std.proofs.Common.{◌≡◌, ◌+◌, ◌≤◌, ◌++◌, All, length, reverse, vec_capacity}
use Rattle.qs_core.specs.Core.{empty_view}
use Rattle.qs_worker.specs.Crews.{lock_seats_of}
use Rattle.qs_worker.proofs.crew.put_seats.Given as goal

abbrev pub invariant-loop-worker : goal.invariant-loop-worker
invariant-loop-worker g l =
    (l.fn.seats.items ++ reverse (lock_seats_of l.fn.workers.items) ≡ l.seats.items ++ reverse (lock_seats_of l.workers.items))
    × (All (λ s. s.view.holds ≡ empty_view) l.fn.seats.items → All (λ s. s.view.holds ≡ empty_view) l.seats.items)
    × (length l.seats.items + length l.workers.items ≤ vec_capacity l.seats)
    × (vec_capacity l.seats ≡ vec_capacity l.fn.seats)

abbrev pub decreases-loop-worker : goal.decreases-loop-worker
decreases-loop-worker g l = length l.workers.items
