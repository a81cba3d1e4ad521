use Rattle.std.proofs.Common.{◌<◌, subst}
use Rattle.qs_core.specs.Shape.{no_task}
use Rattle.qs_play.proofs.Copied.{copied_more}
use Rattle.qs_play.proofs.layout.tasks_of.Goals as goal

pub loop-task-preserved : goal.loop-task-preserved
loop-task-preserved g c =
    copied_more no_task (g.W.Work.shape (g.W.Work.plan c.args.work.now)).tasks c.loop-task.tasks.items c.push.new.self.items c.loop-task.task c.in_ok-task_of.field-0
    (subst (λ n. c.loop-task.task < n) c.tasks-task-end.ensures c.loop-task-test.true) c.in_ok-task_of.ensures c.in_ok-push.ensures.items c.loop-task.invariant
