use Rattle.qs_core.proofs.Below.{listing_more}
use Rattle.qs_play.proofs.layout.Layout.push_leaves.Goals as goal

pub loop-leaf-preserved : goal.loop-leaf-preserved
loop-leaf-preserved c =
    listing_more c.range-from.result.0 c.range-from.result.1 c.loop-leaf.leaf c.args.leaves.now.items c.loop-leaf.leaves.items c.push.new.self.items c.loop-leaf.auto.leaf
    c.loop-leaf-test.true c.in_ok-push.ensures.items c.loop-leaf.invariant
