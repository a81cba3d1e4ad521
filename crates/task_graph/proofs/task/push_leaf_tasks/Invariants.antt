use Rattle.std.proofs.Common.{◌≡◌, ◌++◌, map, take}
use Rattle.std.specs.Prelude.{slice_index}
use Rattle.cell_tree.specs.Spans.{leaf_cells}
use Rattle.task_graph.specs.Tasks.{cell_task}
use Rattle.task_graph.proofs.task.push_leaf_tasks.Given as goal

abbrev pub invariant-loop-leaf : goal.invariant-loop-leaf
invariant-loop-leaf l = l.tasks.items ≡ l.fn.tasks.items ++ map (cell_task l.kind) (map (slice_index (leaf_cells l.tree)) (take l.leaf-index l.leaves))
