use Rattle.std.proofs.Common.{◌≡◌, ◌++◌, take, flat_map}
use Rattle.sph_snap.specs.Snapshot.{signed_bytes}
use Rattle.sph_snap.proofs.put.put_i128s.Given as goal

abbrev pub invariant-loop-n : goal.invariant-loop-n
invariant-loop-n l = l.out.items ≡ l.initial.out.items ++ flat_map signed_bytes (take l.n-index l.numbers)
