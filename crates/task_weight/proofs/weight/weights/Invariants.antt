use Rattle.task_weight.proofs.GreatestPaths.{AreFrom}
use Rattle.task_weight.proofs.weight.weights.Given as goal

abbrev pub invariant-loop-task : goal.invariant-loop-task
invariant-loop-task l = AreFrom l.costs l.edges l.weights.items l.task
