-- What the parts of the reader give, in the words of the fields.
use Rattle.std.specs.Prelude.{◌≡◌, ◌⊎◌, ◌<◌, ℕ, zero, suc, ◌+◌, Bool, true, false, length, ℤ, List, [], ◌∷◌, Some, None, Result, Ok, Err}
use Rattle.byteorder.specs.Endian.{little_from, twos_complement}
use Rattle.sph_snap.specs.declared.fault.SnapFault.{SnapFault}
use Rattle.sph_snap.specs.declared.fault.SnapFault.TheVariants.{Magic, Memory, Trailing}
use Rattle.sph_snap.specs.declared.snapshot.SnapRow.{SnapRow}
use Rattle.sph_snap.specs.declared.snapshot.Snapshot.{Snapshot}
use Rattle.sph_snap.specs.Fields.{Field, field, between, is_component, is_coordinate, first_fault}
use Rattle.sph_snap.specs.Reads.{IsMarkAt}
use Rattle.sph_snap.specs.Snapshot.{end_mark}

-- all of the fields are there, with numbers that they may hold
pub record AllFit (bytes : List ℕ) (fields : List Field) : Type 0 where
  pub none : first_fault bytes fields ≡ None

-- this is the first of the fields' faults
pub record FailsFirst (bytes : List ℕ) (fields : List Field) (fault : SnapFault) : Type 0 where
  pub first : first_fault bytes fields ≡ Some fault

-- a reader of the fields gives this value where all of them fit, and their first fault otherwise
abbrev pub Gives : {X : Type 0} → List ℕ → List Field → X → Result X SnapFault → Type 0
Gives bytes fields value (Ok x) = AllFit bytes fields × (x ≡ value)
Gives bytes fields value (Err fault) = FailsFirst bytes fields fault

-- the same, where memory may run out
abbrev pub GivesInRoom : {X Y : Type 0} → (X → Y) → List ℕ → List Field → Y → Result X SnapFault → Type 0
GivesInRoom view bytes fields value (Ok x) = AllFit bytes fields × (view x ≡ value)
GivesInRoom view bytes fields value (Err fault) = (fault ≡ Memory) ⊎ FailsFirst bytes fields fault

-- the number in so many bytes from an offset on, and the signed one in sixteen
unfoldable pub number_in : List ℕ → ℕ → ℕ → ℕ
number_in bytes at size = little_from at size bytes

unfoldable pub signed_in : List ℕ → ℕ → ℤ
signed_in bytes at = twos_complement 16 (little_from at 16 bytes)

-- a field that holds a number from the least to the greatest, a coordinate, and a component of a momentum
abbrev pub number_field : ℕ → ℕ → ℕ → ℕ → List Field
number_field at size least greatest = field at size (between least greatest) ∷ []

abbrev pub coordinate_field : ℕ → List Field
coordinate_field at = field at 4 is_coordinate ∷ []

abbrev pub component_field : ℕ → List Field
component_field at = field at 16 is_component ∷ []

-- three coordinates, and three components of a momentum
unfoldable pub place_fields : ℕ → List Field
place_fields at = field at 4 is_coordinate ∷ field (at + 4) 4 is_coordinate ∷ field (at + 8) 4 is_coordinate ∷ []

unfoldable pub place_in : List ℕ → ℕ → List ℕ
place_in bytes at = number_in bytes at 4 ∷ number_in bytes (at + 4) 4 ∷ number_in bytes (at + 8) 4 ∷ []

unfoldable pub momentum_fields : ℕ → List Field
momentum_fields at = field at 16 is_component ∷ field (at + 16) 16 is_component ∷ field (at + 32) 16 is_component ∷ []

unfoldable pub momentum_in : List ℕ → ℕ → List ℤ
momentum_in bytes at = signed_in bytes at ∷ signed_in bytes (at + 16) ∷ signed_in bytes (at + 32) ∷ []

-- the row that stands at an offset, and so many rows from it on
unfoldable pub row_in : List ℕ → ℕ → SnapRow
row_in bytes at = record {
  number = number_in bytes at 4;
  mass = number_in bytes (at + 4) 4;
  h = number_in bytes (at + 8) 4;
  x = number_in bytes (at + 12) 4 ∷ number_in bytes (at + 16) 4 ∷ number_in bytes (at + 20) 4 ∷ [];
  q = signed_in bytes (at + 24) ∷ signed_in bytes (at + 40) ∷ signed_in bytes (at + 56) ∷ [];
  rho = number_in bytes (at + 72) 8;
  bin = number_in bytes (at + 80) 4;
}

abbrev pub rows_in : List ℕ → ℕ → ℕ → List SnapRow
rows_in bytes zero at = []
rows_in bytes (suc count) at = row_in bytes at ∷ rows_in bytes count (at + 84)

-- the snapshot whose mark stands at an offset
unfoldable pub snapshot_in : List ℕ → ℕ → Snapshot
snapshot_in bytes at = record { tick = number_in bytes (at + 8) 4; rows = rows_in bytes (number_in bytes (at + 12) 4) (at + 16) }

-- the stream ends with the mark at an offset
pub record Ends (bytes : List ℕ) (at : ℕ) (is_first : Bool) : Type 0 where
  pub later : is_first ≡ false
  pub mark : IsMarkAt end_mark bytes at
  pub end : length bytes ≡ at + 8

-- it doesn't: there is no mark that may end it, or bytes follow
abbrev pub EndFails : List ℕ → ℕ → Bool → SnapFault → Type 0
EndFails bytes at is_first (Magic place) = (place ≡ at) × ((is_first ≡ true) ⊎ (IsMarkAt end_mark bytes at → ⊥))
EndFails bytes at is_first (Trailing place) = (place ≡ at + 8) × (is_first ≡ false) × IsMarkAt end_mark bytes at × (at + 8 < length bytes)
EndFails bytes at is_first _ = ⊥
