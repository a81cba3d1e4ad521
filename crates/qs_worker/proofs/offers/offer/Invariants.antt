use Rattle.std.proofs.Common.{◌≤◌}
use Rattle.qs_heap.specs.Entries.{entry_of}
use Rattle.qs_queues.specs.Seats.{IsQueueSeatOf}
use Rattle.qs_worker.proofs.Offered.{Refusals}
use Rattle.qs_worker.proofs.offers.offer.Given as goal

abbrev pub invariant-loop-k : goal.invariant-loop-k
invariant-loop-k l =
    IsQueueSeatOf l.fn.queues l.seat
    × (l.k ≤ l.fn.queues.queues)
    × Refusals l.fn.queues.room l.fn.queues.queues l.fn.own (entry_of l.fn.weight l.fn.task) l.k l.fn.seat.view l.seat.view
