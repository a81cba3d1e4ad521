use Rattle.qs_worker.specs.inner.Sharing.{AreShared}
use Rattle.qs_worker.proofs.shares.share_out.Given as goal

abbrev pub invariant-loop-task : goal.invariant-loop-task
invariant-loop-task g l = AreShared (g.W.Work.shape (g.W.Work.plan l.fn.work)) l.task l.fn.workers l.workers
