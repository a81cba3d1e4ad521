-- An edge between two tasks in the scene is one in the work.
use Rattle.std.proofs.Common.{◌≡◌, ℕ, ◌<◌, true, List, Contains, length, map, Option, Some, None, inl, inr, subst, sym, ap, ◌∙◌, arith}
use Rattle.std.specs.Prelude.{option_map}
use Rattle.std.proofs.lemmas.Bool.{or_cases, false≢true}
use Rattle.std.proofs.lemmas.List.{length-map}
use Rattle.sph_num.specs.Kinds.{waits_for}
use Rattle.cell_block.specs.declared.scene.TaskLine.{TaskLine}
use Rattle.cell_block.specs.Scene.{IsLineEdge, is_in, is_in_second, line_at, touches}
use Rattle.cell_block.proofs.LeafMembers.{within_range}
use Rattle.cell_tree.specs.declared.tree.Span.{Span}
use Rattle.cell_tree.specs.Spans.{IsOtherCell}
use Rattle.cell_tree.specs.Tree.{Made, cells_of}
use Rattle.qs_core.specs.Shape.{IsEdge, TaskShape, range_of}
use Rattle.task_graph.specs.declared.task.Task.{Task}
use Rattle.task_graph.specs.Graph.{IsLeafBelow, IsLeafBelowSome, ShareLeaf, TouchesLeaf, task_at}
use Rattle.task_graph.specs.Tasks.{IsOnSpan}
use Rattle.sph_step.specs.declared.stage.StagePlan.{StagePlan}
use Rattle.sph_step.specs.Made.{TellsCells}
use Rattle.sph_step.specs.Stage.{line_of, shape_of}
use Rattle.sph_step.specs.inner.Graphs.{IsGraphOn}
use Rattle.sph_step.proofs.TaskShapes.{on_span}
use Rattle.sph_step.proofs.Touched.{line_is, shape_task_is}

module _ (made : Made) (plan : StagePlan) (cells : TellsCells made plan) (leaf : ℕ) where
  -- a leaf in a cell's range is below the cell in the tree
  leaf_below : (cell : ℕ) → cell < length (cells_of made) → is_in (range_of (shape_of plan) cell) leaf ≡ true → IsLeafBelow made leaf cell
  leaf_below cell within t =
      let w = within_range (range_of (shape_of plan) cell) leaf t in
      record { from = _; to = _; are = cells.ranges cell within; low = w.0; high = w.1 }

  leaf_below_some : (first : ℕ) (second : Option ℕ) → IsOtherCell made first second → is_in_second (option_map (range_of (shape_of plan)) second) leaf ≡ true → IsLeafBelowSome made leaf second
  leaf_below_some first None other t = absurd (false≢true t)
  leaf_below_some first (Some cell) other t = leaf_below cell other.0 t

  -- so what a task's line touches the task touches in the tree
  touches_leaf : (task : Task) → IsOnSpan made task → touches (line_of plan task) leaf ≡ true → TouchesLeaf made task leaf
  touches_leaf task on t = elim (or_cases (is_in (range_of (shape_of plan) task.first) leaf) (is_in_second (option_map (range_of (shape_of plan)) task.second) leaf) t) [
    | inl a ↦ inl (leaf_below task.first on.first a)
    | inr b ↦ inr (leaf_below_some task.first task.second on.second b)
  ]

module _ (made : Made) (spans : List Span) (plan : StagePlan) (cells : TellsCells made plan) (graph : IsGraphOn made spans plan.graph) (lines : plan.scene.tasks ≡ map (line_of plan) plan.graph.tasks) where
  -- the same by the line's number
  touched : (task leaf : ℕ) → task < length plan.graph.tasks → touches (line_at plan.scene task) leaf ≡ true → TouchesLeaf made (task_at plan.graph.tasks task) leaf
  touched task leaf within t =
      touches_leaf made plan cells leaf (task_at plan.graph.tasks task) (on_span made spans plan graph task within)
      (ap (λ (line : TaskLine). touches line leaf) (sym (line_is plan lines task within)) ∙ t)

  pub edges_are : (before after : ℕ) → IsLineEdge plan.scene before after → IsEdge (shape_of plan) before after
  edges_are before after edge =
      let long = ap (λ (ls : List TaskLine). length ls) lines ∙ length-map plan.graph.tasks (line_of plan) in
      let l : before < length plan.graph.tasks = omega (arith, edge.before_within, long) in
      let m : after < length plan.graph.tasks = omega (arith, edge.after_within, long) in
      let waits =
      ap (λ (line : TaskLine). waits_for line.kind (task_at plan.graph.tasks before).kind) (sym (line_is plan lines after m))
      ∙ ap (λ (line : TaskLine). waits_for (line_at plan.scene after).kind line.kind) (sym (line_is plan lines before l)) ∙ edge.waits in
      let shared : ShareLeaf made (task_at plan.graph.tasks before) (task_at plan.graph.tasks after) =
      (edge.leaf, touched before edge.leaf l edge.touched_before, touched after edge.leaf m edge.touched_after) in
      subst (λ (s : TaskShape). Contains s.successors after) (sym (shape_task_is plan before l)) ((graph.wait_at_leaves before after l m).1 (waits, shared))
