use Rattle.qs_run.proofs.Progress.{HasPassed}
use Rattle.qs_run.proofs.ordered.finish_rest.Given as goal

abbrev pub invariant-loop-task : goal.invariant-loop-task
invariant-loop-task g l = HasPassed (g.W.Work.shape (g.W.Work.plan l.fn.work)) (g.W.Work.fits (g.W.Work.plan l.fn.work)) g.W.Work.done l.fn.closed.words l.task l.closed
