use Rattle.std.proofs.Common.{◌≡◌, map, take}
use Rattle.cell_block.specs.inner.Beginning.{not_done}
use Rattle.cell_block.proofs.beginning.marks.Given as goal

abbrev pub invariant-loop-task : goal.invariant-loop-task
invariant-loop-task l = l.marks.items ≡ map not_done (take l.task-index l.tasks)
