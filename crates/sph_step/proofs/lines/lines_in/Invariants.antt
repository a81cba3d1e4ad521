use Rattle.std.proofs.Common.{◌≡◌, map, take}
use Rattle.sph_step.specs.Stage.{line_in}
use Rattle.sph_step.proofs.lines.lines_in.Given as goal

abbrev pub invariant-loop-task : goal.invariant-loop-task
invariant-loop-task l = l.lines.items ≡ map (line_in l.ranges) (take l.task l.graph.tasks)
