use Rattle.std.proofs.Common.{◌+◌, ◌-◌, ◌*◌, ◌≤◌, Some, get_or, refl, sym, ◌∙◌, arith, rules}
use Rattle.std.specs.List.{flat_map}
use Rattle.std.proofs.lemmas.Result.{on_ok_weaker}
use Rattle.cell_geom.specs.Cube.{deepest_level}
use Rattle.pair_cover.specs.Looks.{span_of, pair_spans, children_of, most_looks}
use Rattle.pair_cover.specs.inner.Steps.{level_at}
use Rattle.pair_cover.proofs.ChildLists.{IsBelow, child_read, children_are}
use Rattle.pair_cover.proofs.LookCases.{pairs_stopped, pairs_first, pairs_second}
use Rattle.pair_cover.proofs.LookSteps.{pairs_nothing, Adds-nothing, Adds-span, Adds-look, AddsTo-more, AddsTo-all, level_most}
use Rattle.pair_cover.proofs.looks.Look.+pair.Goals as goal

pub pair-returns-then-drops : goal.pair-returns-then-drops
pair-returns-then-drops t c =
    let look = c.args.self.now in
    Adds-nothing look.tree.now look.before.now _ _ c.args.spans.now.items
    (λ due looks d. pairs_nothing look.tree.now due look.limits looks c.args.a c.args.b (sym (c.drops.ensures due d) ∙ c.if-drops.true))

pub pair-returns-then-stops : goal.pair-returns-then-stops
pair-returns-then-stops t c =
    let look = c.args.self.now in
    let made = look.tree.now in
    let la = level_most made look.can c.args.a c.requires.a in
    let lb = level_most made look.can c.args.b c.requires.b in
    Adds-span made look.before.now (most_looks - (level_at made c.args.a + level_at made c.args.b)) (λ due looks. pair_spans made due look.limits looks c.args.a c.args.b)
    (span_of c.args.a (Some c.args.b)) c.args.spans.now.items c.push.new.self.items (omega arith) c.in_ok-push.ensures.items
    (λ due looks d. pairs_stopped made due look.limits looks c.args.a c.args.b (sym (c.drops.ensures due d) ∙ c.if-drops.false) (sym c.stops.ensures ∙ c.if-stops.true))

pub pair-returns-then-splits_first : goal.pair-returns-then-splits_first
pair-returns-then-splits_first t c =
    let look = c.args.self.now in
    let made = look.tree.now in
    let levels = level_at made c.args.a + level_at made c.args.b in
    let la = level_most made look.can c.args.a c.requires.a in
    let lb = level_most made look.can c.args.b c.requires.b in
    on_ok_weaker c.below_first.result
    (λ below. Adds-look made look.before.now (2 * deepest_level - levels) (most_looks - levels)
    (λ due looks. flat_map (λ child. pair_spans made due look.limits looks child c.args.b) (children_of made c.args.a)) (λ due looks. pair_spans made due look.limits looks c.args.a c.args.b)
    c.args.spans.now.items c.below_first.new.spans.items below (omega arith)
    (λ due looks d. pairs_first made due look.limits looks c.args.a c.args.b (sym (c.drops.ensures due d) ∙ c.if-drops.false) (sym c.stops.ensures ∙ c.if-stops.false) (sym c.splits_first.ensures ∙ c.if-splits_first.true)))
    c.below_first.ensures

pub pair-returns-else-splits_first : goal.pair-returns-else-splits_first
pair-returns-else-splits_first t c =
    let look = c.args.self.now in
    let made = look.tree.now in
    let levels = level_at made c.args.a + level_at made c.args.b in
    let la = level_most made look.can c.args.a c.requires.a in
    let lb = level_most made look.can c.args.b c.requires.b in
    on_ok_weaker c.below_second.result
    (λ below. Adds-look made look.before.now (2 * deepest_level - levels) (most_looks - levels)
    (λ due looks. flat_map (λ child. pair_spans made due look.limits looks c.args.a child) (children_of made c.args.b)) (λ due looks. pair_spans made due look.limits looks c.args.a c.args.b)
    c.args.spans.now.items c.below_second.new.spans.items below (omega arith)
    (λ due looks d. pairs_second made due look.limits looks c.args.a c.args.b (sym (c.drops.ensures due d) ∙ c.if-drops.false) (sym c.stops.ensures ∙ c.if-stops.false) (sym c.splits_first.ensures ∙ c.if-splits_first.false)))
    c.below_second.ensures

pub below_first-pair-requires : goal.below_first-pair-requires
below_first-pair-requires t c =
    let look = c.args.self.now in
    let made = look.tree.now in
    let child = get_or c.children-child-items.result.now c.loop-child.child-index 0 in
    let p : IsBelow made c.args.a child = child_read made c.args.a c.children-child-items.result.now look.can c.children-child-items.ensures.just c.loop-child.child-index c.loop-child-test.true in
    let lb : level_at made c.args.b ≤ deepest_level = level_most made look.can c.args.b c.requires.b in
    (search rules, (p.within, c.requires.b))

pub below_first-loop-child-preserved : goal.below_first-loop-child-preserved
below_first-loop-child-preserved t c =
    let look = c.args.self.now in
    let made = look.tree.now in
    let child = get_or c.children-child-items.result.now c.loop-child.child-index 0 in
    let p : IsBelow made c.args.a child = child_read made c.args.a c.children-child-items.result.now look.can c.children-child-items.ensures.just c.loop-child.child-index c.loop-child-test.true in
    AddsTo-more made look.before.now (λ due looks x. pair_spans made due look.limits looks x c.args.b) c.children-child-items.result.now c.args.spans.now.items
    (2 * deepest_level - (level_at made c.args.a + level_at made c.args.b)) (most_looks - (level_at made child + level_at made c.args.b)) c.loop-child.child-index child
    c.loop-child.spans.items c.pair.new.spans.items (omega arith) c.loop-child-test.true refl c.loop-child.invariant c.in_ok-pair.ensures

pub below_first-returns : goal.below_first-returns
below_first-returns t c =
    let look = c.args.self.now in
    let made = look.tree.now in
    AddsTo-all made look.before.now (λ due looks x. pair_spans made due look.limits looks x c.args.b) c.children-child-items.result.now c.args.spans.now.items
    (2 * deepest_level - (level_at made c.args.a + level_at made c.args.b)) c.loop-child.child-index (children_of made c.args.a) c.loop-child.spans.items c.loop-child-test.false
    (children_are made c.args.a c.requires.a c.children-child-items.result.now c.children-child-items.ensures.rising c.children-child-items.ensures.just) c.loop-child.invariant

pub below_second-pair-requires : goal.below_second-pair-requires
below_second-pair-requires t c =
    let look = c.args.self.now in
    let made = look.tree.now in
    let child = get_or c.children-child-items.result.now c.loop-child.child-index 0 in
    let p : IsBelow made c.args.b child = child_read made c.args.b c.children-child-items.result.now look.can c.children-child-items.ensures.just c.loop-child.child-index c.loop-child-test.true in
    let la : level_at made c.args.a ≤ deepest_level = level_most made look.can c.args.a c.requires.a in
    (search rules, (c.requires.a, p.within))

pub below_second-loop-child-preserved : goal.below_second-loop-child-preserved
below_second-loop-child-preserved t c =
    let look = c.args.self.now in
    let made = look.tree.now in
    let child = get_or c.children-child-items.result.now c.loop-child.child-index 0 in
    let p : IsBelow made c.args.b child = child_read made c.args.b c.children-child-items.result.now look.can c.children-child-items.ensures.just c.loop-child.child-index c.loop-child-test.true in
    AddsTo-more made look.before.now (λ due looks x. pair_spans made due look.limits looks c.args.a x) c.children-child-items.result.now c.args.spans.now.items
    (2 * deepest_level - (level_at made c.args.a + level_at made c.args.b)) (most_looks - (level_at made c.args.a + level_at made child)) c.loop-child.child-index child
    c.loop-child.spans.items c.pair.new.spans.items (omega arith) c.loop-child-test.true refl c.loop-child.invariant c.in_ok-pair.ensures

pub below_second-returns : goal.below_second-returns
below_second-returns t c =
    let look = c.args.self.now in
    let made = look.tree.now in
    AddsTo-all made look.before.now (λ due looks x. pair_spans made due look.limits looks c.args.a x) c.children-child-items.result.now c.args.spans.now.items
    (2 * deepest_level - (level_at made c.args.a + level_at made c.args.b)) c.loop-child.child-index (children_of made c.args.b) c.loop-child.spans.items c.loop-child-test.false
    (children_are made c.args.b c.requires.b c.children-child-items.result.now c.children-child-items.ensures.rising c.children-child-items.ensures.just) c.loop-child.invariant
