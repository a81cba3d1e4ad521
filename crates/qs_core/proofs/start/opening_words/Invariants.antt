use Rattle.std.proofs.Common.{◌≡◌}
use Rattle.qs_core.proofs.Waiting.{words_to}
use Rattle.qs_core.proofs.start.opening_words.Given as goal

abbrev pub invariant-loop-task : goal.invariant-loop-task
invariant-loop-task g l = l.words.items ≡ words_to (g.W.Work.shape (g.W.Work.plan l.work)) l.task
