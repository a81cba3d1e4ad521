use Rattle.std.proofs.Common.{◌≡◌, ◌<◌, ◌⊎◌, ◌+◌, ◌*◌}
use Rattle.qs_table.specs.Seats.{IsSeatOf}
use Rattle.qs_queues.specs.Seats as queue
use Rattle.qs_worker.specs.ReadyLists.{IsReadyList}
use Rattle.qs_worker.proofs.Stopping.{Going, unclaimed}
use Rattle.qs_worker.proofs.worker.Worker.work.Given as goal

abbrev pub invariant-loop-left : goal.invariant-loop-left
invariant-loop-left g l =
    IsSeatOf l.fn.table l.self.lock_seat
    × queue.IsQueueSeatOf l.fn.queues l.self.queue_seat
    × (l.self.number ≡ l.fn.self.number)
    × Going (g.W.Work.shape l.fn.table.plan) l.fn.queues l.left l.fn.self l.self
    × ((0 < l.left) ⊎ IsReadyList (g.W.Work.shape l.fn.table.plan) l.self.lock_seat.view.notes l.self.ready)

abbrev pub decreases-loop-left : goal.decreases-loop-left
decreases-loop-left g l = unclaimed (g.W.Work.shape l.fn.table.plan) l.self.lock_seat.view.notes * 65536 + l.left
