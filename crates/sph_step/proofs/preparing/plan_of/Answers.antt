use Rattle.std.proofs.Common.{ℕ, false, List, length, map, refl, sym, subst, ap, ◌∙◌}
use Rattle.std.specs.List.{All}
use Rattle.sph_num.specs.Bound.{bounds_of}
use Rattle.sph_bins.specs.InBounds.{InBounds}
use Rattle.cell_tree.specs.Spans.{IsSpan}
use Rattle.cell_tree.specs.Tree.{Made}
use Rattle.pair_cover.specs.Covering.{CoversMoved}
use Rattle.sph_plain.proofs.Runs.{InBounds-before}
use Rattle.sph_step.specs.declared.stage.StagePlan.{StagePlan}
use Rattle.sph_step.specs.Made.{IsStageOf, dues_at, spans_at}
use Rattle.sph_step.specs.inner.Graphs.{IsGraphOn}
use Rattle.sph_step.specs.Stage.{line_in}
use Rattle.sph_step.specs.inner.Told.{IsAmong}
use Rattle.sph_step.proofs.Prepared.{among, stage_is}
use Rattle.sph_step.proofs.Stages.{is_stage}
use Rattle.sph_step.proofs.preparing.plan_of.Goals as goal

pub tree_of-requires-clause-bounds : goal.tree_of-requires-clause-bounds
tree_of-requires-clause-bounds c =
    let deck = c.args.deck.now in
    subst (InBounds deck.params (bounds_of deck.particles) c.args.t) (sym c.requires.before) (InBounds-before deck c.args.t deck.accepted c.requires.tick)

pub graph_of_cover-requires-clause-bounds : goal.graph_of_cover-requires-clause-bounds
graph_of_cover-requires-clause-bounds c =
    let deck = c.args.deck.now in
    subst (InBounds deck.params (bounds_of deck.particles) c.args.t) (sym c.requires.before) (InBounds-before deck c.args.t deck.accepted c.requires.tick)

pub lines_in-requires : goal.lines_in-requires
lines_in-requires c =
    let ranges = c.in_ok-ranges.ranges.items in
    let tasks = c.in_ok-graph.graph.tasks in
    subst (λ (rs : List (ℕ × ℕ)). All (IsAmong (length rs)) tasks) (sym c.deref.ensures.value) (among c.in_ok-tree.tree (length ranges) tasks (sym c.in_ok-ranges.ensures.one_each) c.in_ok-graph.ensures.graph.on_spans)

pub returns : goal.returns
returns c =
    let deck = c.args.deck.now in
    let params = deck.params in
    let bounds = bounds_of deck.particles in
    let t = c.args.t in
    let list = c.args.particles.now in
    let tree = c.in_ok-tree.tree in
    let graph = c.in_ok-graph.graph in
    let spans = spans_at params t list in
    let plan : StagePlan = record {
      scene = record { tick = t; params = params; bounds = c.bounds_of.result; start = c.from_vec.result; leaves = c.in_ok-leaves_of.field-0; tasks = c.in_ok-lines_in.field-0; drift = false };
      parents = c.in_ok-parents.parents;
      ranges = c.in_ok-ranges.ranges;
      graph = graph;
    } in
    let are = subst (InBounds params bounds t) (sym c.requires.before) (InBounds-before deck t deck.accepted c.requires.tick) in
    let tasks_are = c.in_ok-lines_in.ensures ∙ ap (λ (rs : List (ℕ × ℕ)). map (line_in rs) graph.tasks) c.deref.ensures.value in
    let of : IsStageOf params bounds t list plan =
    stage_is params bounds t list tree plan c.bounds_of.result c.from_vec.result c.in_ok-leaves_of.field-0 c.in_ok-lines_in.field-0 c.in_ok-tree.ensures refl
    (c.bounds_of.ensures ∙ ap bounds_of c.as_slice.ensures) (c.from_vec.ensures ∙ c.in_ok-from_slice.ensures.items) c.in_ok-leaves_of.ensures tasks_are c.in_ok-parents.ensures c.in_ok-ranges.ensures c.in_ok-graph.ensures.value in
    record {
      of = of;
      kept = is_stage params bounds t list plan are c.requires.tick of (subst (λ (m : Made). All (IsSpan m) spans) c.in_ok-tree.ensures c.in_ok-graph.ensures.spans)
          (subst (λ (m : Made). CoversMoved m (dues_at t list) params.slack spans) c.in_ok-tree.ensures c.in_ok-graph.ensures.covers)
          (subst (λ (m : Made). IsGraphOn m spans graph) c.in_ok-tree.ensures c.in_ok-graph.ensures.graph);
    }
