-- Streams can be told apart: none is the beginning of another, none has two lists of snapshots, and none has a fault.
use Rattle.std.specs.Prelude.{◌≡◌, ℕ, List, ◌++◌}
use Rattle.sph_snap.specs.declared.fault.SnapFault.{SnapFault}
use Rattle.sph_snap.specs.declared.snapshot.Snapshot.{Snapshot}
use Rattle.sph_snap.specs.Reads.{IsStreamFault}
use Rattle.sph_snap.specs.Snapshot.{IsStreamOf}

-- a stream that begins with another is that one, of the same snapshots
abbrev pub NoneBeginsAnother : Type 0
NoneBeginsAnother =
    (bytes rest : List ℕ) (snapshots others : List Snapshot)
    → IsStreamOf bytes snapshots → IsStreamOf (bytes ++ rest) others → (bytes ≡ bytes ++ rest) × (snapshots ≡ others)

abbrev pub StreamsHaveNoFault : Type 0
StreamsHaveNoFault = (bytes : List ℕ) (snapshots : List Snapshot) (fault : SnapFault) → IsStreamOf bytes snapshots → IsStreamFault bytes fault → ⊥

abbrev pub JustOneFault : Type 0
JustOneFault = (bytes : List ℕ) (fault other : SnapFault) → IsStreamFault bytes fault → IsStreamFault bytes other → fault ≡ other
