use Rattle.std.proofs.Common.{◌≡◌, ℕ, ◌+◌, ◌<◌, ◌≤◌, length, slice_index}
use Rattle.cell_tree.specs.Due.{CountsLeaf}
use Rattle.cell_tree.proofs.due.due_counts.Given as goal

abbrev pub invariant-loop-leaf : goal.invariant-loop-leaf
invariant-loop-leaf l = record {
  few : l.count ≤ l.leaf;
  long : length l.before.items ≡ l.leaf + 1;
  first : slice_index l.before.items 0 ≡ 0;
  last : slice_index l.before.items l.leaf ≡ l.count;
  each : (leaf : ℕ) → leaf < l.leaf → CountsLeaf l.tree l.due l.before.items leaf;
}
