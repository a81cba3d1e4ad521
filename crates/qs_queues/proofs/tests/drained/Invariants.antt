use Rattle.qs_queues.specs.Seats.{IsQueueSeatOf}
use Rattle.qs_queues.proofs.tests.drained.Given as goal

abbrev pub invariant-loop-round : goal.invariant-loop-round
invariant-loop-round l = IsQueueSeatOf l.queues l.seat
