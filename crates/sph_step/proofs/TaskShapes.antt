-- The tasks of a stage stand on cells that are apart, and those that wait for one come after it, each once.
use Rattle.std.proofs.Common.{◌≡◌, ℕ, ◌<◌, ◌≤◌, eqb, List, length, Contains, Some, count_by, subst, sym, ap, ◌∙◌, arith}
use Rattle.std.proofs.lemmas.List.Elements.{All-get_or}
use Rattle.sph_num.specs.declared.kind.Kind.TheVariants.{Drift}
use Rattle.cell_tree.specs.declared.tree.Span.{Span}
use Rattle.cell_tree.specs.Spans.{IsOtherCell}
use Rattle.cell_tree.specs.Tree.{Made}
use Rattle.qs_core.specs.Shape.{AreApart, IsEdge, IsTaskShape, TaskShape, task_at as shape_task_at}
use Rattle.task_graph.specs.Graph.{IsPlan, task_at}
use Rattle.task_graph.specs.Tasks.{IsOnSpan, cell_task}
use Rattle.task_graph.proofs.EdgeCounts.{once}
use Rattle.task_weight.specs.Paths.{after_of}
use Rattle.sph_step.specs.declared.stage.StagePlan.{StagePlan}
use Rattle.sph_step.specs.Made.{TellsCells}
use Rattle.sph_step.specs.Stage.{shape_of}
use Rattle.sph_step.specs.inner.Graphs.{IsGraphOn}
use Rattle.sph_step.proofs.Parents.{AreApart-from_lies_in}
use Rattle.sph_step.proofs.Touched.{length-shape_tasks, shape_task_is}

-- a task of the graph stands on its span
pub on_span : (made : Made) (spans : List Span) (plan : StagePlan) → IsGraphOn made spans plan.graph → (task : ℕ) → task < length plan.graph.tasks → IsOnSpan made (task_at plan.graph.tasks task)
on_span made spans plan graph task within = All-get_or (IsOnSpan made) plan.graph.tasks task (cell_task Drift 0) within graph.on_spans

module _ (made : Made) (spans : List Span) (plan : StagePlan) (cells : TellsCells made plan) (graph : IsGraphOn made spans plan.graph) where
  -- the other cell is a cell, apart from the first
  second : (task cell : ℕ) → task < length plan.graph.tasks → (shape_task_at (shape_of plan) task).second ≡ Some cell
      → (cell < length plan.parents.items) × AreApart (shape_of plan) (shape_task_at (shape_of plan) task).first cell
  second task cell within e =
      let at = task_at plan.graph.tasks task in
      let is = shape_task_is plan task within in
      let on = on_span made spans plan graph task within in
      let other = subst (IsOtherCell made at.first) (sym (ap (λ (s : TaskShape). s.second) is) ∙ e) on.second in (
        omega (arith, other.0, cells.one_parent_each),
        subst (λ (s : TaskShape). AreApart (shape_of plan) s.first cell) (sym is) (AreApart-from_lies_in made plan cells at.first cell on.first other.0 other.1 other.2),
      )

  -- who waits for a task comes after it
  later : IsPlan plan.graph → (task after : ℕ) → task < length plan.graph.tasks → IsEdge (shape_of plan) task after → (task < after) × (after < length plan.graph.tasks)
  later is task after within edge =
      let waiting = subst (λ (s : TaskShape). Contains s.successors after) (shape_task_is plan task within) edge in
      let w = graph.forward task after (omega (arith, is.one_list_each)) waiting in
      (w.0, omega (arith, w.1, is.one_list_each))

  -- each task keeps the laws
  pub is_task_shape : IsPlan plan.graph → (task : ℕ) → task < length (shape_of plan).tasks → IsTaskShape (shape_of plan) task
  is_task_shape is task l =
      let long = length-shape_tasks plan in
      let within : task < length plan.graph.tasks = omega arith in
      let at = sym (shape_task_is plan task within) in
      let on = on_span made spans plan graph task within in
      record {
        first = subst (λ (s : TaskShape). s.first < length plan.parents.items) at (omega (arith, on.first, cells.one_parent_each));
        second = λ cell e. second task cell within e;
        later = λ after edge. let w = later is task after within edge in (w.0, omega (arith, w.1));
        once = λ after. subst (λ (s : TaskShape). count_by (λ k. eqb k after) s.successors ≤ 1) at
            (once (after_of plan.graph.successors task) (graph.rising task (omega (arith, is.one_list_each))) after);
      }
