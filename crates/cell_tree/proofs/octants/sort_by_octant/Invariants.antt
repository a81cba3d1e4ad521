use Rattle.std.proofs.Common.{◌≡◌, ℕ, ◌+◌, ◌<◌, length, slice_index}
use Rattle.cell_tree.specs.inner.Nodes.{in_octants}
use Rattle.cell_tree.proofs.octants.sort_by_octant.Given as goal

abbrev pub invariant-loop-number : goal.invariant-loop-number
invariant-loop-number l = record {
  sorted : l.scratch.items ≡ in_octants l.points l.cube.level l.members 0 l.number;
  long : length l.ends ≡ 8;
  ends : (k : ℕ) → k < l.number → slice_index l.ends k ≡ length (in_octants l.points l.cube.level l.members 0 (k + 1));
}
