-- The cells and tasks of a stage keep the laws of what is scheduled.
use Rattle.std.proofs.Common.{◌≡◌, ◌∙◌, List, length, sym, arith}
use Rattle.cell_tree.specs.declared.tree.Span.{Span}
use Rattle.cell_tree.specs.Laws.{CanBeMade}
use Rattle.cell_tree.specs.Tree.{Made, leaf_count}
use Rattle.cell_tree.proofs.Orders.{cells_few}
use Rattle.qs_core.specs.Shape.{IsShape}
use Rattle.task_graph.specs.Graph.{IsPlan}
use Rattle.task_graph.proofs.LeafNumbers.{leaves_most}
use Rattle.sph_step.specs.declared.stage.StagePlan.{StagePlan}
use Rattle.sph_step.specs.Made.{TellsCells}
use Rattle.sph_step.specs.Stage.{shape_of}
use Rattle.sph_step.specs.inner.Graphs.{IsGraphOn}
use Rattle.sph_step.proofs.CellShapes.{cell_shape, own_leaves}
use Rattle.sph_step.proofs.TaskShapes.{is_task_shape}
use Rattle.sph_step.proofs.Touched.{length-shape_tasks}

pub shape_is : (made : Made) → CanBeMade made → (spans : List Span) (plan : StagePlan) → TellsCells made plan → length plan.scene.leaves ≡ leaf_count made
    → IsGraphOn made spans plan.graph → IsPlan plan.graph → IsShape (shape_of plan)
shape_is made can spans plan cells long graph is = record {
  one_range_each = cells.one_range_each ∙ sym cells.one_parent_each;
  few_cells = omega (arith, cells_few made can, cells.one_parent_each);
  few_leaves = omega (arith, leaves_most made can, long);
  few_tasks = omega (arith, graph.few, length-shape_tasks plan);
  cells = cell_shape made plan cells long;
  own_leaves = own_leaves made plan cells;
  tasks = is_task_shape made spans plan cells graph is;
}
