use Rattle.std.proofs.Common.{◌+◌, ◌-◌, length, take, drop, get_or, refl, subst}
use Rattle.std.specs.List.{flat_map}
use Rattle.std.proofs.lemmas.List.{take_rest}
use Rattle.pair_cover.specs.Looks.{pair_spans, most_looks}
use Rattle.pair_cover.specs.inner.Steps.{Adds}
use Rattle.pair_cover.proofs.LookSteps.{AddsTwos-more, AddsTwos-all}
use Rattle.pair_cover.proofs.looks.Look.each_two.Goals as goal

pub loop-i-preserved : goal.loop-i-preserved
loop-i-preserved c =
    let look = c.args.self.now in
    let made = look.tree.now in
    let cells = c.args.cells.now in
    let next = c.loop-i.i + 1 in
    let cell = get_or cells c.loop-i.i 0 in
    let told : Adds made look.before.now 0 (λ due looks. flat_map (λ b. pair_spans made due look.limits most_looks cell b) (take (length cells - next) (drop next cells))) c.loop-i.spans.items c.with_each.new.spans.items =
    c.in_ok-with_each.ensures in
    AddsTwos-more made look.before.now (λ due two. pair_spans made due look.limits most_looks two.0 two.1) cells c.args.spans.now.items
    c.loop-i.i cell c.loop-i.spans.items c.with_each.new.spans.items c.loop-i-test.true refl c.loop-i.invariant
    (subst (λ ys. Adds made look.before.now 0 (λ due looks. flat_map (λ b. pair_spans made due look.limits most_looks cell b) ys) c.loop-i.spans.items c.with_each.new.spans.items) (take_rest cells next) told)

pub returns : goal.returns
returns c =
    let look = c.args.self.now in
    AddsTwos-all look.tree.now look.before.now (λ due two. pair_spans look.tree.now due look.limits most_looks two.0 two.1) c.args.cells.now c.args.spans.now.items
    c.loop-i.i c.loop-i.spans.items c.loop-i-test.false c.loop-i.invariant
