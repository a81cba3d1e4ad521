use Rattle.cell_tree.proofs.LeafCounts.{AreLeavesTo}
use Rattle.cell_tree.proofs.leaves.leaves_of.Given as goal

abbrev pub invariant-loop-cell : goal.invariant-loop-cell
invariant-loop-cell l = AreLeavesTo l.cells l.cell l.leaves.items l.start
