-- The rows so far are those of the particles that were taken, behind the head.
use Rattle.std.proofs.Common.{◌≡◌, ◌++◌, take}
use Rattle.std.specs.Prelude.{flat_map}
use Rattle.sph_snap.specs.Snapshot.{row_bytes, rows_from}
use Rattle.sph_snap.proofs.put.put_snapshot.Given as goal

abbrev pub invariant-loop-i : goal.invariant-loop-i
invariant-loop-i l = l.out.items ≡ l.initial.out.items ++ flat_map row_bytes (rows_from 1 (take l.i l.particles))
