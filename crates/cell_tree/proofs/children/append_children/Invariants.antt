use Rattle.std.proofs.Common.{◌-◌}
use Rattle.cell_tree.proofs.FoundChildren.{HasFound}
use Rattle.cell_tree.proofs.children.append_children.Given as goal

abbrev pub invariant-loop-child : goal.invariant-loop-child
invariant-loop-child l = HasFound l.cells l.cell l.child l.fn.numbers.items l.numbers.items l.parents

abbrev pub decreases-loop-child : goal.decreases-loop-child
decreases-loop-child l = l.end - l.child
