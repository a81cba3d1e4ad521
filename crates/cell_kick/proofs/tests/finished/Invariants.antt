use Rattle.cell_kick.specs.inner.FirstTasks.{HasFirst}
use Rattle.cell_kick.proofs.tests.finished.Given as goal

abbrev pub invariant-loop-task : goal.invariant-loop-task
invariant-loop-task l = HasFirst l.scene l.task 0 l.block
