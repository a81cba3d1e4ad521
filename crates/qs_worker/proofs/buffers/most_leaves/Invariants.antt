use Rattle.qs_worker.specs.inner.Rooms.{HasBlockRoomBelow}
use Rattle.qs_worker.proofs.buffers.most_leaves.Given as goal

abbrev pub invariant-loop-task : goal.invariant-loop-task
invariant-loop-task g l = HasBlockRoomBelow (g.W.Work.shape (g.W.Work.plan l.fn.work)) l.task l.most.0 l.most.1
