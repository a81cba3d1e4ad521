-- The stage of a list in bounds at a step tick keeps what every stage keeps.
use Rattle.std.proofs.Common.{◌≡◌, ℕ, false, List, All, length, map, refl, sym, ap, ◌∙◌, subst}
use Rattle.std.specs.List.{range_with_len}
use Rattle.std.proofs.lemmas.List.{length-map}
use Rattle.sph_num.specs.declared.particle.Bounds.{Bounds}
use Rattle.sph_num.specs.declared.particle.Params.{Params}
use Rattle.sph_num.specs.declared.particle.Particle.{Particle}
use Rattle.sph_bins.specs.Bins.{IsStepTick}
use Rattle.sph_bins.specs.InBounds.{InBounds}
use Rattle.cell_block.specs.declared.scene.Scene.{Scene}
use Rattle.cell_tree.specs.Spans.{IsSpan, leaf_cells}
use Rattle.cell_tree.specs.Tree.{Made, cell_at, leaf_count}
use Rattle.cell_tree.proofs.LeafCells.{length-leaf_cells}
use Rattle.pair_cover.specs.Covering.{CoversMoved}
use Rattle.task_graph.specs.declared.task.Task.{Task}
use Rattle.task_graph.specs.Graph.{IsPlan, Plan, edges_between, edges_into, plan_of}
use Rattle.task_graph.specs.Tasks.{tasks_of}
use Rattle.task_graph.proofs.Forward.{length-edges_between}
use Rattle.task_graph.proofs.Plans.{is_plan}
use Rattle.sph_step.specs.declared.stage.StagePlan.{StagePlan}
use Rattle.sph_step.specs.Made.{IsStageOf, dues_at, made_at, spans_at}
use Rattle.sph_step.specs.Stage.{IsStage, line_of}
use Rattle.sph_step.specs.inner.Graphs.{IsGraphOn}
use Rattle.sph_step.proofs.Edges.{edges_are}
use Rattle.sph_step.proofs.GoodScenes.{good_scene}
use Rattle.sph_step.proofs.Points.{can_be_made}
use Rattle.sph_step.proofs.Shapes.{shape_is}
use Rattle.sph_step.proofs.Waits.{waits_are}

-- the graph of some tasks has one of each for each task
is_plan_of : (made : Made) (tasks : List Task) → IsPlan (plan_of made tasks)
is_plan_of made tasks =
    let edges = edges_between made tasks in
    is_plan {made = made} (record {
      tasks_are = refl;
      edges_are = refl;
      waits_are = ap (λ n. map (edges_into edges) (range_with_len 0 n)) (sym (length-edges_between made tasks));
      costs_are = refl;
      weights_are = refl;
    })

module _ (params : Params) (bounds : Bounds) (t : ℕ) (list : List Particle) (plan : StagePlan) (stage : IsStageOf params bounds t list plan) where
  -- a leaf in the scene for each of the tree's
  leaves_long : length plan.scene.leaves ≡ leaf_count (made_at params t list)
  leaves_long =
      let made = made_at params t list in
      ap (λ (s : Scene). length s.leaves) stage.scene ∙ length-map (leaf_cells made) (λ cell. (cell_at made cell).members) ∙ length-leaf_cells made

  -- its graph is whole
  stage_whole : IsPlan plan.graph
  stage_whole =
      let made = made_at params t list in
      subst IsPlan (sym stage.graph) (is_plan_of made (tasks_of made (spans_at params t list) (dues_at t list) false))

  -- and its counts are those of the edges into its tasks
  waits_into : plan.graph.waits ≡ map (edges_into plan.graph.successors) (range_with_len 0 (length plan.graph.tasks))
  waits_into = subst (λ (p : Plan). p.waits ≡ map (edges_into p.successors) (range_with_len 0 (length p.tasks))) (sym stage.graph) refl

-- so it keeps what every stage keeps
pub is_stage : (params : Params) (bounds : Bounds) (t : ℕ) (list : List Particle) (plan : StagePlan) → InBounds params bounds t list → IsStepTick params t → IsStageOf params bounds t list plan
    → All (IsSpan (made_at params t list)) (spans_at params t list) → CoversMoved (made_at params t list) (dues_at t list) params.slack (spans_at params t list)
    → IsGraphOn (made_at params t list) (spans_at params t list) plan.graph → IsStage plan
is_stage params bounds t list plan within tick stage on covers graph =
    let made = made_at params t list in
    let spans = spans_at params t list in
    let whole = stage_whole params bounds t list plan stage in
    let lines : plan.scene.tasks ≡ map (line_of plan) plan.graph.tasks = ap (λ (s : Scene). s.tasks) stage.scene in
    record {
      shape = shape_is made (can_be_made params bounds t list within tick) spans plan stage.cells (leaves_long params bounds t list plan stage) graph whole;
      scene = good_scene params bounds t list plan within tick stage on covers graph;
      lines = lines;
      edges = edges_are made spans plan stage.cells graph lines;
      waits = waits_are plan whole (waits_into params bounds t list plan stage);
    }
