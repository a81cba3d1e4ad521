use Rattle.std.proofs.Common.{◌≡◌, take}
use Rattle.qs_play.proofs.layout.tasks_of.Given as goal

abbrev pub invariant-loop-task : goal.invariant-loop-task
invariant-loop-task g l = l.tasks.items ≡ take l.task (g.W.Work.shape (g.W.Work.plan l.work)).tasks
