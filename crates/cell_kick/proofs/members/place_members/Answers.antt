use Rattle.std.proofs.Common.{arith}
use Rattle.cell_kick.specs.inner.Written.{spots_at}
use Rattle.cell_kick.proofs.Loops.{all_each, next_each, none_each}
use Rattle.cell_kick.proofs.members.place_members.Goals as goal

pub loop-k-init : goal.loop-k-init
loop-k-init c = none_each (spots_at c.args.scene.now c.args.members.now) c.args.spots.now

pub loop-k-preserved : goal.loop-k-preserved
loop-k-preserved c =
    next_each (spots_at c.args.scene.now c.args.members.now) c.loop-k.k c.args.spots.now c.loop-k.spots c.tick_spot.result c.tick_spot.result (omega (arith, c.requires.one_each, c.loop-k-test.true)) c.loop-k.invariant c.tick_spot.ensures

pub returns : goal.returns
returns c = all_each (spots_at c.args.scene.now c.args.members.now) c.loop-k.k c.args.spots.now c.loop-k.spots (omega (arith, c.requires.one_each, c.loop-k-test.false)) c.loop-k.invariant
