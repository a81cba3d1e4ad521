use Rattle.std.proofs.Common.{◌≡◌, ◌≤◌, Some, replicate}
use Rattle.qs_queues.specs.inner.Plays.{empty_heap}
use Rattle.qs_queues.proofs.make.heaps.Given as goal

abbrev pub invariant-loop-queue : goal.invariant-loop-queue
invariant-loop-queue l = (l.heaps.items ≡ replicate l._queue (Some (empty_heap l.fn.room))) × (l.queues ≡ l.fn.queues) × (l.room ≡ l.fn.room) × (l._queue ≤ l.fn.queues)
