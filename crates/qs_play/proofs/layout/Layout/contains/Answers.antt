use Rattle.qs_core.proofs.Walks.{reaches-more, walk-smaller}
use Rattle.qs_play.proofs.layout.Layout.contains.Goals as goal

pub loop-at-smaller : goal.loop-at-smaller
loop-at-smaller c = walk-smaller c.args.self.now c.parent-at.ensures.laws c.in-Some.cell c.loop-at.at c.parent-at.result c.in-Some.is c.parent-at.ensures.value

pub loop-at-preserved : goal.loop-at-preserved
loop-at-preserved c =
    reaches-more c.args.self.now c.parent-at.ensures.laws c.args.outer c.args.inner c.in-Some.cell c.loop-at.at c.parent-at.result c.in-Some.is c.parent-at.ensures.value
    c.if-cell-outer.false c.loop-at.invariant
