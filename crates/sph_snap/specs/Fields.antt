-- The fields of a snapshot: where each one stands, how many bytes it has, and which numbers it may hold.
use Rattle.std.specs.Prelude.{ℕ, zero, suc, ◌+◌, ◌^◌, Bool, ◌&&◌, ◌==◌, nat_le, nat_lt, List, [], ◌∷◌, ◌++◌, length, filter_map, slice_get, Option, Some, None, if◌then◌else◌, unsigned_abs, ◌-◌}
use Rattle.byteorder.specs.Endian.{little_from, twos_complement}
use Rattle.sph_num.specs.Ranges.{most_particles}
use Rattle.sph_num.specs.Space.{box_side}
use Rattle.sph_snap.specs.declared.fault.SnapFault.{SnapFault}
use Rattle.sph_snap.specs.declared.fault.SnapFault.TheVariants.{Short, Range}

-- a field: its offset in the stream, its size in bytes, and whether it may hold a number
pub record Field : Type 0 where
  pub offset : ℕ
  pub size : ℕ
  pub fits : ℕ → Bool

abbrev pub field : ℕ → ℕ → (ℕ → Bool) → Field
field offset size fits = record { offset = offset; size = size; fits = fits }

-- from the least to the greatest
abbrev pub between : ℕ → ℕ → ℕ → Bool
between least greatest n = nat_le least n && nat_le n greatest

-- in the box
abbrev pub is_coordinate : ℕ → Bool
is_coordinate n = between 0 (box_side - 1) n

-- in two's complement, of an absolute value below 2^96
abbrev pub is_component : ℕ → Bool
is_component n = nat_lt (unsigned_abs (twos_complement 16 n)) (2 ^ 96)

-- the fields of the row of this number that begins at an offset
unfoldable pub row_fields : ℕ → ℕ → List Field
row_fields number at =
    field at 4 (λ n. n == number)
    ∷ field (at + 4) 4 (between 1 65536)
    ∷ field (at + 8) 4 (between 1024 131072)
    ∷ field (at + 12) 4 is_coordinate
    ∷ field (at + 16) 4 is_coordinate
    ∷ field (at + 20) 4 is_coordinate
    ∷ field (at + 24) 16 is_component
    ∷ field (at + 40) 16 is_component
    ∷ field (at + 56) 16 is_component
    ∷ field (at + 72) 8 (between 20 2305843009213693951)
    ∷ field (at + 80) 4 (between 0 10)
    ∷ []

-- the fields of so many rows, numbered on from a number, that begin at an offset
abbrev pub rows_fields : ℕ → ℕ → ℕ → List Field
rows_fields zero number at = []
rows_fields (suc count) number at = row_fields number at ++ rows_fields count (suc number) (at + 84)

-- the fields behind the mark of a snapshot that begins at an offset: its tick is no less than the least one; its number of rows says how many follow
unfoldable pub snapshot_fields : List ℕ → ℕ → ℕ → List Field
snapshot_fields bytes least at =
    field (at + 8) 4 (between least 65536)
    ∷ field (at + 12) 4 (between 1 most_particles)
    ∷ rows_fields (little_from (at + 12) 4 bytes) 1 (at + 16)

-- what is wrong with a field: it is cut off, or its number isn't one that it may hold
unfoldable pub field_fault : List ℕ → Field → Option SnapFault
field_fault bytes f =
    if nat_lt (length bytes) (f.offset + f.size) then Some (Short f.offset)
    else if f.fits (little_from f.offset f.size bytes) then None
    else Some (Range f.offset)

-- the first of the fields' faults, if there is one
abbrev pub first_fault : List ℕ → List Field → Option SnapFault
first_fault bytes fields = slice_get (filter_map (field_fault bytes) fields) 0
