use Rattle.std.proofs.Common.{take, subst, arith}
use Rattle.std.proofs.lemmas.List.{take_all}
use Rattle.std.proofs.lemmas.List.Elements.{All-more, All-weaker}
use Rattle.cell_block.specs.Extents.{AreWithin, IsWithin}
use Rattle.cell_block.proofs.extent.Extent.of.Goals as goal

pub loop-spot-preserved : goal.loop-spot-preserved
loop-spot-preserved c =
    let spots = c.args.spots.now in
    let i = c.loop-spot.spot-index in
    let before = IsWithin c.loop-spot.extent in
    let after = IsWithin c.with-extent.result in
    All-more after spots i _ c.loop-spot-test.true (All-weaker before after c.with-extent.ensures.others (take i spots) c.loop-spot.invariant) c.with-extent.ensures.spot

pub returns : goal.returns
returns c = subst (AreWithin c.loop-spot.extent) (take_all c.loop-spot.spot-index c.args.spots.now (omega arith)) c.loop-spot.invariant
