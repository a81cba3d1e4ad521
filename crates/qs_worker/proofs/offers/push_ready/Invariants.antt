use Rattle.std.proofs.Common.{◌≡◌, ◌<◌, ℕ, All, length, vec_capacity}
use Rattle.qs_queues.specs.Seats.{IsQueueSeatOf}
use Rattle.qs_worker.specs.Turns.{entry_in}
use Rattle.qs_worker.proofs.Emptied.{Leaving}
use Rattle.qs_worker.proofs.offers.push_ready.Given as goal

abbrev pub invariant-loop-task : goal.invariant-loop-task
invariant-loop-task g l =
    IsQueueSeatOf l.fn.queues l.seat
    × All (λ (task : ℕ). task < l.fn.queues.tasks) l.ready.items
    × (vec_capacity l.ready ≡ vec_capacity l.fn.ready)
    × Leaving l.fn.queues.room l.fn.queues.queues l.fn.own (entry_in (g.W.Work.shape (g.W.Work.plan l.fn.work))) l.fn.ready.items l.ready.items l.fn.seat.view l.seat.view

abbrev pub decreases-loop-task : goal.decreases-loop-task
decreases-loop-task g l = length l.ready.items
