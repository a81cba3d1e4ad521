use Rattle.std.proofs.Common.{◌≡◌, take}
use Rattle.sph_num.specs.Bound.{greatest_of}
use Rattle.sph_report.proofs.tree.heaviest_weight.Given as goal

abbrev pub invariant-loop-task : goal.invariant-loop-task
invariant-loop-task l = l.heaviest ≡ greatest_of (take l.task l.graph.weights)
