use Rattle.std.proofs.Common.{◌+◌, ◌-◌, refl, get_or, arith}
use Rattle.pair_cover.specs.Looks.{pair_spans, most_looks}
use Rattle.pair_cover.specs.inner.Steps.{level_at}
use Rattle.pair_cover.proofs.LookSteps.{AddsTo-more, AddsTo-all, Adds-fixed}
use Rattle.pair_cover.proofs.looks.Look.with_each.Goals as goal

pub loop-b-preserved : goal.loop-b-preserved
loop-b-preserved c =
    let look = c.args.self.now in
    let made = look.tree.now in
    let b = get_or c.args.others.now c.loop-b.b-index 0 in
    AddsTo-more made look.before.now (λ due looks x. pair_spans made due look.limits most_looks c.args.a x) c.args.others.now c.args.spans.now.items
    0 0 c.loop-b.b-index b c.loop-b.spans.items c.pair.new.spans.items (omega arith) c.loop-b-test.true refl c.loop-b.invariant
    (Adds-fixed made look.before.now (most_looks - (level_at made c.args.a + level_at made b)) most_looks (λ due looks. pair_spans made due look.limits looks c.args.a b) c.loop-b.spans.items c.pair.new.spans.items (omega arith) c.in_ok-pair.ensures)

pub returns : goal.returns
returns c =
    let look = c.args.self.now in
    AddsTo-all look.tree.now look.before.now (λ due looks x. pair_spans look.tree.now due look.limits most_looks c.args.a x) c.args.others.now c.args.spans.now.items
    0 c.loop-b.b-index c.args.others.now c.loop-b.spans.items c.loop-b-test.false refl c.loop-b.invariant
