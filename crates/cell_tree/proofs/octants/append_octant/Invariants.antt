use Rattle.std.proofs.Common.{◌≡◌, ◌++◌, take}
use Rattle.cell_tree.specs.inner.Nodes.{in_octant}
use Rattle.cell_tree.proofs.octants.append_octant.Given as goal

abbrev pub invariant-loop-i : goal.invariant-loop-i
invariant-loop-i l = l.sorted.items ≡ l.initial.sorted.items ++ in_octant l.points l.cube.level (take l.i-index l.members) l.number
