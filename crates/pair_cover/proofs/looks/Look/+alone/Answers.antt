use Rattle.std.proofs.Common.{◌+◌, ◌-◌, ◌++◌, None, get_or, refl, sym, ◌∙◌, subst, arith, rules}
use Rattle.std.specs.List.{flat_map}
use Rattle.std.proofs.lemmas.Result.{on_ok_weaker}
use Rattle.std.proofs.lemmas.List.Elements.{Contains-get_or}
use Rattle.cell_geom.specs.Cube.{deepest_level}
use Rattle.pair_cover.specs.Looks.{span_of, pair_spans, self_spans, children_of, twos, most_looks}
use Rattle.pair_cover.specs.inner.Steps.{Adds, level_at}
use Rattle.pair_cover.proofs.ChildLists.{IsBelow, child_read, children_are}
use Rattle.pair_cover.proofs.LookCases.{selves_stopped, selves_split}
use Rattle.pair_cover.proofs.LookSteps.{selves_nothing, Adds-nothing, Adds-span, Adds-look, Adds-both, AddsTo-more, AddsTo-all, level_most}
use Rattle.pair_cover.proofs.looks.Look.+alone.Goals as goal

pub returns-then-not-has_due : goal.returns-then-not-has_due
returns-then-not-has_due t c =
    let look = c.args.self.now in
    Adds-nothing look.tree.now look.before.now _ _ c.args.spans.now.items
    (λ due looks d. selves_nothing look.tree.now due look.limits looks c.args.cell (sym (c.has_due.ensures due d) ∙ c.if-not-has_due.true))

pub returns-then-stops_alone : goal.returns-then-stops_alone
returns-then-stops_alone t c =
    let look = c.args.self.now in
    let made = look.tree.now in
    let l = level_most made look.can c.args.cell c.requires in
    Adds-span made look.before.now (deepest_level + 1 - level_at made c.args.cell) (λ due looks. self_spans made due look.limits looks c.args.cell)
    (span_of c.args.cell None) c.args.spans.now.items c.push.new.self.items (omega arith) c.in_ok-push.ensures.items
    (λ due looks d. selves_stopped made due look.limits looks c.args.cell (sym (c.has_due.ensures due d) ∙ c.if-not-has_due.false) (sym c.stops_alone.ensures ∙ c.if-stops_alone.true))

pub alone-requires : goal.alone-requires
alone-requires t c =
    let look = c.args.self.now in
    let made = look.tree.now in
    let child = get_or c.children-child-items.result.now c.loop-child.child-index 0 in
    let p : IsBelow made c.args.cell child = child_read made c.args.cell c.children-child-items.result.now look.can c.children-child-items.ensures.just c.loop-child.child-index c.loop-child-test.true in
    (search rules, p.within)

pub loop-child-preserved : goal.loop-child-preserved
loop-child-preserved t c =
    let look = c.args.self.now in
    let made = look.tree.now in
    let child = get_or c.children-child-items.result.now c.loop-child.child-index 0 in
    let p : IsBelow made c.args.cell child = child_read made c.args.cell c.children-child-items.result.now look.can c.children-child-items.ensures.just c.loop-child.child-index c.loop-child-test.true in
    AddsTo-more made look.before.now (λ due looks x. self_spans made due look.limits looks x) c.children-child-items.result.now c.args.spans.now.items
    (deepest_level - level_at made c.args.cell) (deepest_level + 1 - level_at made child) c.loop-child.child-index child
    c.loop-child.spans.items c.alone.new.spans.items (omega arith) c.loop-child-test.true refl c.loop-child.invariant c.in_ok-alone.ensures

pub each_two-requires : goal.each_two-requires
each_two-requires t c k d l =
    ((c.children.ensures.just (get_or c.children.result.now k d)).0 (Contains-get_or c.children.result.now k d l)).within

pub returns : goal.returns
returns t c =
    let look = c.args.self.now in
    let made = look.tree.now in
    let before = look.before.now in
    let level = level_at made c.args.cell in
    let l = level_most made look.can c.args.cell c.requires in
    let selves : Adds made before (deepest_level - level) (λ due looks. flat_map (λ child. self_spans made due look.limits looks child) (children_of made c.args.cell)) c.args.spans.now.items c.loop-child.spans.items =
    AddsTo-all made before (λ due looks x. self_spans made due look.limits looks x) c.children-child-items.result.now c.args.spans.now.items
    (deepest_level - level) c.loop-child.child-index (children_of made c.args.cell) c.loop-child.spans.items c.loop-child-test.false
    (children_are made c.args.cell c.requires c.children-child-items.result.now c.children-child-items.ensures.rising c.children-child-items.ensures.just) c.loop-child.invariant in
    let children = children_are made c.args.cell c.requires c.children.result.now c.children.ensures.rising c.children.ensures.just in
    on_ok_weaker c.each_two.result
    (λ pairs. Adds-look made before (deepest_level - level) (deepest_level + 1 - level)
    (λ due looks. flat_map (λ child. self_spans made due look.limits looks child) (children_of made c.args.cell) ++ flat_map (λ two. pair_spans made due look.limits most_looks two.0 two.1) (twos (children_of made c.args.cell)))
    (λ due looks. self_spans made due look.limits looks c.args.cell) c.args.spans.now.items c.each_two.new.spans.items
    (Adds-both made before (deepest_level - level) 0 (λ due looks. flat_map (λ child. self_spans made due look.limits looks child) (children_of made c.args.cell))
    (λ due looks. flat_map (λ two. pair_spans made due look.limits most_looks two.0 two.1) (twos (children_of made c.args.cell)))
    c.args.spans.now.items c.loop-child.spans.items c.each_two.new.spans.items (omega arith) selves
    (subst (λ cells. Adds made before 0 (λ due looks. flat_map (λ two. pair_spans made due look.limits most_looks two.0 two.1) (twos cells)) c.loop-child.spans.items c.each_two.new.spans.items) children pairs))
    (omega arith)
    (λ due looks d. selves_split made due look.limits looks c.args.cell (sym (c.has_due.ensures due d) ∙ c.if-not-has_due.false) (sym c.stops_alone.ensures ∙ c.if-stops_alone.false)))
    c.each_two.ensures
