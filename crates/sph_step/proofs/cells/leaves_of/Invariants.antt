use Rattle.std.proofs.Common.{◌≡◌, map, take}
use Rattle.cell_tree.specs.Spans.{leaf_cells}
use Rattle.cell_tree.specs.Tree.{cell_at}
use Rattle.sph_step.proofs.cells.leaves_of.Given as goal

abbrev pub invariant-loop-leaf : goal.invariant-loop-leaf
invariant-loop-leaf l = l.leaves.items ≡ map (λ cell. (cell_at l.tree cell).members) (take l.leaf (leaf_cells l.tree))
