-- For how many tasks a task waits: the edges into it, as the graph counts them and as the work does.
use Rattle.std.proofs.Common.{◌≡◌, ℕ, ◌+◌, ◌<◌, eqb, List, [], length, map, count_by, sum_by, sym, ap, ◌∙◌, arith}
use Rattle.std.specs.Prelude.{slice_index}
use Rattle.std.specs.List.{range_with_len}
use Rattle.std.proofs.lemmas.List.Folds.{fold-map}
use Rattle.std.proofs.lemmas.List.FromFn.{get_or-map-range_with_len}
use Rattle.lists.proofs.Ranges.{sum_by-places}
use Rattle.qs_core.specs.Shape.{TaskShape, edges_into as shape_edges_into}
use Rattle.task_graph.specs.Graph.{IsPlan, edges_into}
use Rattle.task_weight.specs.Paths.{after_of}
use Rattle.sph_step.specs.declared.stage.StagePlan.{StagePlan}
use Rattle.sph_step.specs.Stage.{shape_of, task_shape}

module _ (plan : StagePlan) (is : IsPlan plan.graph) where
  -- both count the same
  edges_into_is : (task : ℕ) → edges_into plan.graph.successors task ≡ shape_edges_into (shape_of plan) task
  edges_into_is task =
      let count = length plan.graph.tasks in
      let into : List ℕ → ℕ = count_by (λ after. eqb after task) in
      let at : (k : ℕ) → 0 + k ≡ k = λ k. omega arith in
      let places = sum_by-places into [] (λ k. into (after_of plan.graph.successors k)) plan.graph.successors 0 (λ k l. ap (λ n. into (after_of plan.graph.successors n)) (at k)) in
      sym places
      ∙ ap (λ n. sum_by (λ k. into (after_of plan.graph.successors k)) (range_with_len 0 n)) is.one_list_each
      ∙ sym (fold-map (λ total (t : TaskShape). total + into t.successors) (task_shape plan.graph) 0 (range_with_len 0 count))

  pub waits_are : plan.graph.waits ≡ map (edges_into plan.graph.successors) (range_with_len 0 (length plan.graph.tasks))
      → (task : ℕ) → task < length plan.graph.tasks → slice_index plan.graph.waits task ≡ shape_edges_into (shape_of plan) task
  waits_are waits task within =
      ap (λ (ws : List ℕ). slice_index ws task) waits
      ∙ get_or-map-range_with_len (edges_into plan.graph.successors) 0 (length plan.graph.tasks) task task 0 within (omega arith) ∙ edges_into_is task
