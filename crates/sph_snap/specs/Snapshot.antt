-- The snapshot stream: what the bytes of snapshots are. All numbers are little-endian.
use Rattle.std.specs.Prelude.{◌≡◌, ℕ, suc, ◌^◌, ◌<◌, ◌≤◌, ℤ, List, [], ◌∷◌, ◌++◌, map, flat_map, length, slice_index_or, codes, All, unsigned_abs}
use Rattle.std.specs.Int.{cast_unsigned, w128}
use Rattle.std.specs.List.Sorted.{IsStrictlyIncreasing}
use Rattle.byteorder.specs.Endian.{little_bytes}
use Rattle.sph_num.specs.declared.particle.Particle.{Particle}
use Rattle.sph_num.specs.Ranges.{IsMass, IsLength, most_particles}
use Rattle.sph_num.specs.Space.{IsPlace}
use Rattle.sph_snap.specs.declared.snapshot.SnapRow.{SnapRow}
use Rattle.sph_snap.specs.declared.snapshot.Snapshot.{Snapshot}

-- a signed number in sixteen bytes, in two's complement
abbrev pub signed_bytes : ℤ → List ℕ
signed_bytes z = little_bytes 16 (cast_unsigned w128 z)

-- the 84 bytes of a row: number, mass, h, x, y, z, the momentum's three components, density, bin
unfoldable pub row_bytes : SnapRow → List ℕ
row_bytes row =
    little_bytes 4 row.number ++ little_bytes 4 row.mass ++ little_bytes 4 row.h ++ flat_map (little_bytes 4) row.x
    ++ flat_map signed_bytes row.q ++ little_bytes 8 row.rho ++ little_bytes 4 row.bin

-- the eight bytes in front of a snapshot
abbrev pub snapshot_mark : List ℕ
snapshot_mark = codes "SPHSNAP1"

-- the eight bytes behind the last one
abbrev pub end_mark : List ℕ
end_mark = codes "SPHSNEND"

-- a snapshot: its mark, the tick, the number of rows, and the rows
unfoldable pub spell : Snapshot → List ℕ
spell snapshot = snapshot_mark ++ little_bytes 4 snapshot.tick ++ little_bytes 4 (length snapshot.rows) ++ flat_map row_bytes snapshot.rows

-- a row in its ranges, which has this number
pub record IsRow (number : ℕ) (row : SnapRow) : Type 0 where
  pub number_is : row.number ≡ number
  pub mass : IsMass row.mass
  pub h : IsLength row.h
  pub place : IsPlace row.x
  pub axes : length row.q ≡ 3
  pub momentum : All (λ z. unsigned_abs z < 2 ^ 96) row.q
  pub density_low : 20 ≤ row.rho
  pub density_high : row.rho < 2 ^ 61
  pub bin : row.bin ≤ 10

-- a snapshot in its ranges: its rows are numbered from 1
pub record IsSnapshot (snapshot : Snapshot) : Type 0 where
  pub tick : snapshot.tick ≤ 65536
  pub some : 1 ≤ length snapshot.rows
  pub few : length snapshot.rows ≤ most_particles
  pub rows : (k : ℕ) (d : SnapRow) → k < length snapshot.rows → IsRow (suc k) (slice_index_or snapshot.rows k d)

-- snapshots one after the other: each in its ranges, and their ticks rise
pub record AreInOrder (snapshots : List Snapshot) : Type 0 where
  pub each : All IsSnapshot snapshots
  pub rising : IsStrictlyIncreasing (map (λ (s : Snapshot). s.tick) snapshots)

-- the bytes of snapshots and the end mark
abbrev pub stream_of : List Snapshot → List ℕ
stream_of snapshots = flat_map spell snapshots ++ end_mark

-- the bytes are the stream of these snapshots
pub record IsStreamOf (bytes : List ℕ) (snapshots : List Snapshot) : Type 0 where
  pub some : 1 ≤ length snapshots
  pub in_order : AreInOrder snapshots
  pub spelled : bytes ≡ stream_of snapshots

-- the row of a particle, with its number
abbrev pub row_of : ℕ → Particle → SnapRow
row_of number p = record { number = number; mass = p.mass; h = p.h; x = p.x0; q = p.q; rho = p.rho; bin = p.bin }

-- the rows of particles, numbered on from this number
abbrev pub rows_from : ℕ → List Particle → List SnapRow
rows_from number [] = []
rows_from number (p ∷ ps) = row_of number p ∷ rows_from (suc number) ps

-- the snapshot of particles at a tick, in the order of the deck
abbrev pub snapshot_of : ℕ → List Particle → Snapshot
snapshot_of t list = record { tick = t; rows = rows_from 1 list }
