use Rattle.std.proofs.Common.{◌≡◌, length}
use Rattle.cell_tree.specs.inner.Parts.{KnowsParents, AreChildrenOf}
use Rattle.cell_tree.specs.Tree.{cells_of}
use Rattle.cell_tree.proofs.children.children_of.Given as goal

abbrev pub invariant-loop-cell : goal.invariant-loop-cell
invariant-loop-cell l = record {
  long : length l.parents.items ≡ length (cells_of l.cells);
  parents : KnowsParents l.cells l.cell l.parents.items;
  children : AreChildrenOf l.cells l.cell l.starts.items l.numbers.items;
}
