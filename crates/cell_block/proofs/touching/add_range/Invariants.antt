use Rattle.cell_block.specs.Scene.{is_in}
use Rattle.cell_block.specs.inner.TaskLists.{AddsTask}
use Rattle.cell_block.proofs.touching.add_range.Given as goal

abbrev pub invariant-loop-leaf : goal.invariant-loop-leaf
invariant-loop-leaf l = AddsTask (is_in (l.fn.range.0, l.leaf)) l.task l.fn.lists l.lists
