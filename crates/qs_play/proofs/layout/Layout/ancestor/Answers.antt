use Rattle.qs_core.proofs.Walks.{seeking-first, seeking-more, walk-smaller}
use Rattle.qs_play.proofs.layout.Layout.ancestor.Goals as goal

pub loop-up-init : goal.loop-up-init
loop-up-init c = seeking-first c.args.self.now c.parent-up.ensures.laws c.args.cell c.args.index c.parent-up.result c.parent-up.ensures.value

pub loop-up-smaller : goal.loop-up-smaller
loop-up-smaller c = walk-smaller c.args.self.now c.parent-up.ensures.laws c.in-Some.above c.loop-up.up c.parent-up-in-Some.result c.in-Some.is c.parent-up-in-Some.ensures.value

pub loop-up-preserved : goal.loop-up-preserved
loop-up-preserved c =
    seeking-more c.args.self.now c.parent-up.ensures.laws c.in-Some.above c.loop-up.left _ c.loop-up.up c.parent-up-in-Some.result c.in-Some.is c.parent-up-in-Some.ensures.value
    c.if-left-eq0.false c.loop-up.invariant
