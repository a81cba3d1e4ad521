use Rattle.std.proofs.Common.{◌≡◌, ◌++◌, take, flat_map}
use Rattle.byteorder.specs.Endian.{little_bytes}
use Rattle.sph_snap.proofs.put.put_u32s.Given as goal

abbrev pub invariant-loop-n : goal.invariant-loop-n
invariant-loop-n l = l.out.items ≡ l.initial.out.items ++ flat_map (little_bytes 4) (take l.n-index l.numbers)
