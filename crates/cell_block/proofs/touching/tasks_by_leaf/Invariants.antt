use Rattle.cell_block.proofs.TaskLists.{AreTasksBelow}
use Rattle.cell_block.proofs.touching.tasks_by_leaf.Given as goal

abbrev pub invariant-loop-task : goal.invariant-loop-task
invariant-loop-task l = AreTasksBelow l.scene l.task l.lists.items
