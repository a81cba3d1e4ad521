use Rattle.std.proofs.Common.{◌∙◌}
use Rattle.qs_core.proofs.Waiting.{words_more}
use Rattle.qs_core.proofs.start.opening_words.Goals as goal

pub loop-task-preserved : goal.loop-task-preserved
loop-task-preserved g c =
    words_more (g.W.Work.shape (g.W.Work.plan c.args.work.now)) c.loop-task.task c.from.result c.loop-task.words.items c.push.new.self.items (c.from.ensures ∙ c.waits.ensures)
    c.in_ok-push.ensures.items c.loop-task.invariant
