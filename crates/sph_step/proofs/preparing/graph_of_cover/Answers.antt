use Rattle.std.proofs.Common.{◌≡◌, ◌<◌, ◌^◌, false, length, sym, subst, ap, ◌∙◌, arith}
use Rattle.std.specs.Prelude.{IfOk}
use Rattle.std.specs.List.{All}
use Rattle.std.proofs.lemmas.Result.{IfOk-weaker}
use Rattle.cell_tree.specs.Spans.{IsSpan}
use Rattle.pair_cover.specs.Covering.{CoversMoved}
use Rattle.task_graph.specs.Graph.{Plan, graph_of}
use Rattle.sph_step.specs.Made.{dues_at, spans_at}
use Rattle.sph_step.specs.inner.Graphs.{IsGraphOn}
use Rattle.sph_step.proofs.Prepared.{flags, graph_on, points_count, spans_are, spans_few}
use Rattle.sph_step.proofs.preparing.graph_of_cover.Goals as goal

pub cover-requires-clause-one_flag_each : goal.cover-requires-clause-one_flag_each
cover-requires-clause-one_flag_each c =
    flags c.args.deck.now.params c.args.t c.args.particles.now c.args.tree.now c.deref.result.now c.requires.tree (c.deref.ensures.value ∙ c.in_ok-dues.ensures)

pub cover-requires-clause-slack : goal.cover-requires-clause-slack
cover-requires-clause-slack c = c.requires.bounds.params_in_range.slack

pub build-requires-clause-one_flag_each : goal.build-requires-clause-one_flag_each
build-requires-clause-one_flag_each c =
    flags c.args.deck.now.params c.args.t c.args.particles.now c.args.tree.now c.deref-3.result.now c.requires.tree (c.deref-3.ensures.value ∙ c.in_ok-dues.ensures)

pub build-requires-clause-spans : goal.build-requires-clause-spans
build-requires-clause-spans c = subst (All (IsSpan c.args.tree.now)) (sym c.deref-2.ensures.value) c.in_ok-spans.ensures.cells

pub build-requires-clause-few : goal.build-requires-clause-few
build-requires-clause-few c =
    let points = points_count c.args.deck.now.params c.args.t c.args.particles.now c.args.tree.now c.requires.tree in
    spans_few (length c.deref-2.result.now) (length c.args.tree.now.points) (omega (arith, points, c.requires.bounds.count, c.requires.bounds.bounds_in_range.count_high))
    (rw c.deref-2.ensures.len c.in_ok-spans.ensures.few)

pub returns : goal.returns
returns c =
    let params = c.args.deck.now.params in
    let list = c.args.particles.now in
    let tree = c.args.tree.now in
    let spans = spans_at params c.args.t list in
    let dues = dues_at c.args.t list in
    let found : c.in_ok-spans.spans.items ≡ spans =
    spans_are params c.args.t list tree c.deref.result.now c.in_ok-spans.spans.items c.requires.tree (c.deref.ensures.value ∙ c.in_ok-dues.ensures) c.in_ok-spans.ensures.value in
    let spans_is : c.deref-2.result.now ≡ spans = c.deref-2.ensures.value ∙ found in
    let dues_is : c.deref-3.result.now ≡ dues = c.deref-3.ensures.value ∙ c.in_ok-dues.ensures in
    record {
      value = IfOk-weaker c.build.result (λ (plan : Plan). plan ≡ graph_of tree c.deref-2.result.now c.deref-3.result.now false) (λ (plan : Plan). plan ≡ graph_of tree spans dues false)
          (λ plan is. is ∙ ap (λ ss. graph_of tree ss c.deref-3.result.now false) spans_is ∙ ap (λ ds. graph_of tree spans ds false) dues_is) c.build.ensures.value;
      graph = subst (λ ss. IfOk c.build.result (IsGraphOn tree ss)) spans_is
          (graph_on c.build.result tree c.deref-2.result.now c.build.ensures.tasks_few c.build.ensures.on_spans c.build.ensures.meet_once c.build.ensures.wait_at_leaves c.build.ensures.forward c.build.ensures.rising);
      spans = IfOk-weaker c.build.result (λ (plan : Plan). length plan.tasks < 2 ^ 32) (λ (plan : Plan). All (IsSpan tree) spans)
          (λ plan few. subst (All (IsSpan tree)) found c.in_ok-spans.ensures.cells) c.build.ensures.tasks_few;
      covers = IfOk-weaker c.build.result (λ (plan : Plan). length plan.tasks < 2 ^ 32) (λ (plan : Plan). CoversMoved tree dues params.slack spans)
          (λ plan few. subst (CoversMoved tree dues params.slack) found (subst (λ ds. CoversMoved tree ds params.slack c.in_ok-spans.spans.items) (c.deref.ensures.value ∙ c.in_ok-dues.ensures) c.in_ok-spans.ensures.covers)) c.build.ensures.tasks_few;
    }
