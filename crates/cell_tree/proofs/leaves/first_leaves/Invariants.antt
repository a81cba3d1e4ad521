use Rattle.std.proofs.Common.{◌≡◌, ℕ, ◌+◌, ◌≤◌, length, slice_index}
use Rattle.cell_tree.specs.Tree.{leaves_before}
use Rattle.cell_tree.proofs.leaves.first_leaves.Given as goal

abbrev pub invariant-loop-cell : goal.invariant-loop-cell
invariant-loop-cell l = record {
  long : length l.firsts.items ≡ l.cell + 1;
  first : l.first ≡ leaves_before l.cells l.cell;
  counts : (k : ℕ) → k ≤ l.cell → slice_index l.firsts.items k ≡ leaves_before l.cells k;
}
