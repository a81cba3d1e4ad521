use Rattle.qs_core.proofs.Below.{IsListing}
use Rattle.qs_play.proofs.layout.Layout.push_leaves.Given as goal

abbrev pub invariant-loop-leaf : goal.invariant-loop-leaf
invariant-loop-leaf l = IsListing l.from l.to l.leaf l.initial.leaves.items l.leaves.items
