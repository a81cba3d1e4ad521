use Rattle.std.proofs.Common.{◌≡◌, map, take, slice_index}
use Rattle.sph_num.specs.Bound.{greatest_of}
use Rattle.cell_tree.proofs.octants.reach.Given as goal

abbrev pub invariant-loop-i : goal.invariant-loop-i
invariant-loop-i l = l.reach ≡ greatest_of (map (slice_index l.lengths) (take l.i-index l.members))
