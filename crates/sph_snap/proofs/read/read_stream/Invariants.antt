use Rattle.std.proofs.Common.{◌-◌, length}
use Rattle.sph_snap.proofs.StreamsRead.{IsReadTo}
use Rattle.sph_snap.proofs.read.read_stream.Given as goal

abbrev pub invariant-loop-snapshots : goal.invariant-loop-snapshots
invariant-loop-snapshots l = IsReadTo l.bytes l.snapshots.items l.at l.least

abbrev pub decreases-loop-snapshots : goal.decreases-loop-snapshots
decreases-loop-snapshots l = length l.bytes - l.at
