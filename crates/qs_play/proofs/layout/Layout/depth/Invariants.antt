use Rattle.qs_core.proofs.Walks.{IsCounting, rank}
use Rattle.qs_play.proofs.layout.Layout.depth.Given as goal

abbrev pub invariant-loop-up : goal.invariant-loop-up
invariant-loop-up l = IsCounting l.self l.cell l.count l.up

abbrev pub decreases-loop-up : goal.decreases-loop-up
decreases-loop-up l = rank l.up
