-- The scene of a stage is a good one.
use Rattle.std.proofs.Common.{ℕ, List, map, refl, sym, ap, ◌∙◌, subst, arith}
use Rattle.std.specs.List.{All}
use Rattle.std.proofs.lemmas.List.{length-map}
use Rattle.sph_num.specs.declared.particle.Bounds.{Bounds}
use Rattle.sph_num.specs.declared.particle.Params.{Params}
use Rattle.sph_num.specs.declared.particle.Particle.{Particle}
use Rattle.sph_bins.specs.Bins.{IsStepTick}
use Rattle.sph_bins.specs.InBounds.{InBounds}
use Rattle.cell_block.specs.Scene.{IsGoodScene, due_leaves}
use Rattle.cell_tree.specs.Spans.{IsSpan}
use Rattle.pair_cover.specs.Covering.{CoversMoved}
use Rattle.task_graph.specs.Graph.{Plan}
use Rattle.task_graph.specs.Tasks.{due_cells}
use Rattle.sph_step.specs.declared.stage.StagePlan.{StagePlan}
use Rattle.sph_step.specs.inner.Graphs.{IsGraphOn}
use Rattle.sph_step.specs.Made.{IsStageOf, dues_at, made_at, scene_of, spans_at}
use Rattle.sph_step.specs.Stage.{line_of}
use Rattle.sph_step.proofs.CoveredLines.{lines_cover}
use Rattle.sph_step.proofs.LeafLines.{all_lines, are_ranges, due_leaves_are, range_span}
use Rattle.sph_step.proofs.LeafLists.{are_leaves}
use Rattle.sph_step.proofs.Points.{can_be_made, due_is, length-points}

pub good_scene : (params : Params) (bounds : Bounds) (t : ℕ) (list : List Particle) (plan : StagePlan) → InBounds params bounds t list → IsStepTick params t → IsStageOf params bounds t list plan
    → All (IsSpan (made_at params t list)) (spans_at params t list) → CoversMoved (made_at params t list) (dues_at t list) params.slack (spans_at params t list)
    → IsGraphOn (made_at params t list) (spans_at params t list) plan.graph → IsGoodScene plan.scene
good_scene params bounds t list plan are tick is are_spans covers graph =
    let made = made_at params t list in
    let dues = dues_at t list in
    let scene = scene_of params bounds t list plan in
    let can = can_be_made params bounds t list are tick in
    let long = length-points params t list in
    let leaves = due_leaves_are made can dues scene refl (λ i l. due_is params t list i (omega arith)) in
    let good : IsGoodScene scene = record {
      tick = tick;
      in_bounds = are;
      leaves = are_leaves made can scene refl (sym long);
      spans = map (range_span plan) (spans_at params t list);
      ranges = are_ranges made plan is.cells (spans_at params t list) are_spans;
      lines = ap (λ (tasks : Plan). map (line_of plan) tasks.tasks) is.graph ∙ all_lines made plan is.cells (spans_at params t list) (due_cells made dues) (due_leaves scene) leaves;
      few_lines = omega (arith, length-map plan.graph.tasks (line_of plan), graph.few);
      covers = lines_cover params bounds t list plan can is.cells covers graph;
    } in
    subst IsGoodScene (sym is.scene) good
