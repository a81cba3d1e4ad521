-- What a reader of streams answers: the snapshots of a stream, or the first place at which the bytes cease to be one.
use Rattle.std.specs.Prelude.{◌≡◌, ◌≢◌, ℕ, suc, ◌+◌, ◌<◌, ◌≤◌, ◌⊎◌, List, [], ◌∷◌, ◌++◌, length, take, drop, flat_map, Some, Result, Ok, Err}
use Rattle.std.specs.declared.alloc.Global.{Global}
use Rattle.std.specs.declared.vec.Vec.{Vec}
use Rattle.sph_snap.specs.declared.fault.SnapFault.{SnapFault}
use Rattle.sph_snap.specs.declared.fault.SnapFault.TheVariants.{Magic, Short, Range, Trailing, Memory}
use Rattle.sph_snap.specs.declared.snapshot.Snapshot.{Snapshot}
use Rattle.sph_snap.specs.Fields.{snapshot_fields, first_fault}
use Rattle.sph_snap.specs.Snapshot.{AreInOrder, IsStreamOf, end_mark, snapshot_mark, spell}

-- the eight bytes at an offset are the mark
abbrev pub IsMarkAt : List ℕ → List ℕ → ℕ → Type 0
IsMarkAt mark bytes at = take 8 (drop at bytes) ≡ mark

-- the least tick that the next snapshot may have
abbrev pub least_tick : List Snapshot → ℕ
least_tick [] = 0
least_tick (s ∷ []) = suc s.tick
least_tick (s ∷ r ∷ rest) = least_tick (r ∷ rest)

-- a snapshot begins at the offset, and this is the first fault of its fields
pub record IsFieldsFault (bytes : List ℕ) (before : List Snapshot) (at : ℕ) (fault : SnapFault) : Type 0 where
  pub mark : IsMarkAt snapshot_mark bytes at
  pub first : first_fault bytes (snapshot_fields bytes (least_tick before) at) ≡ Some fault

-- behind the snapshots before, which end at the offset, the bytes fail in this way
abbrev pub FailsAt : List ℕ → List Snapshot → ℕ → SnapFault → Type 0
FailsAt bytes before at (Magic place) =
    (place ≡ at) × (at + 8 ≤ length bytes) × (take 8 (drop at bytes) ≢ snapshot_mark)
    × ((before ≡ []) ⊎ (take 8 (drop at bytes) ≢ end_mark))
FailsAt bytes before at (Short place) = ((place ≡ at) × (length bytes < at + 8)) ⊎ IsFieldsFault bytes before at (Short place)
FailsAt bytes before at (Range place) = IsFieldsFault bytes before at (Range place)
FailsAt bytes before at (Trailing place) =
    (place ≡ at + 8) × (before ≢ []) × IsMarkAt end_mark bytes at × (at + 8 < length bytes)
FailsAt bytes before at Memory = ⊥

-- the first place at which the bytes cease to be a stream: whole snapshots stand before it
pub record IsStreamFault (bytes : List ℕ) (fault : SnapFault) : Type 0 where
  pub before : List Snapshot
  pub in_order : AreInOrder before
  pub rest : List ℕ
  pub spelled : bytes ≡ flat_map spell before ++ rest
  pub fails : FailsAt bytes before (length (flat_map spell before)) fault

-- what each answer of the reader says of the bytes; memory may always run out
abbrev pub AnswersStream : List ℕ → Result (Vec Snapshot Global) SnapFault → Type 0
AnswersStream bytes (Ok snapshots) = IsStreamOf bytes snapshots.items
AnswersStream bytes (Err fault) = (fault ≡ Memory) ⊎ IsStreamFault bytes fault
