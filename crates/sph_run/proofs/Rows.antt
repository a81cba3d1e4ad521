-- The rows of a snapshot whose particles were all kicked at its tick.
use Rattle.std.proofs.Common.{◌≡◌, ℕ, zero, suc, ◌+◌, ◌^◌, ◌<◌, ◌≤◌, List, [], ◌∷◌, length, get_or, arith}
use Rattle.std.specs.Prelude.{pos, unsigned_abs}
use Rattle.std.specs.List.{All}
use Rattle.std.proofs.lemmas.List.Elements.{All-head, All-tail, All-from_get_or}
use Rattle.sph_num.specs.declared.particle.Particle.{Particle}
use Rattle.sph_num.specs.Motion.{IsMomentum}
use Rattle.sph_num.specs.Ranges.{most_particles, IsMass, IsLength}
use Rattle.sph_num.specs.Space.{IsPlace}
use Rattle.sph_snap.specs.declared.snapshot.SnapRow.{SnapRow}
use Rattle.sph_snap.specs.Snapshot.{IsRow, IsSnapshot, row_of, rows_from, snapshot_of}
use Rattle.sph_snap.proofs.Written.{length-rows_from}

-- what a kick at a tick leaves of a particle
pub record IsKicked (t : ℕ) (p : Particle) : Type 0 where
  pub tick : p.t0 ≡ t
  pub mass : IsMass p.mass
  pub h : IsLength p.h
  pub place : IsPlace p.x0
  pub momentum : IsMomentum p.q
  pub density_low : 20 ≤ p.rho
  pub density_high : p.rho < 2 ^ 61
  pub bin : p.bin ≤ 10

-- its momentum has a component on each axis
abbrev pub HasAxes : Particle → Type 0
HasAxes p = length p.q ≡ 3

IsRow-kicked : (t first number : ℕ) (p : Particle) → IsKicked t p → HasAxes p → first ≡ number → IsRow number (row_of first p)
IsRow-kicked t first number p is axes same = record {
  number_is = same;
  mass = is.mass;
  h = is.h;
  place = is.place;
  axes = axes;
  momentum = All-from_get_or (λ z. unsigned_abs z < 2 ^ 96) p.q (pos 0) (λ axis inside. is.momentum axis);
  density_low = is.density_low;
  density_high = is.density_high;
  bin = is.bin;
}

IsRow-at : (t : ℕ) (ps : List Particle) → All (IsKicked t) ps → All HasAxes ps → (first k number : ℕ) (d : SnapRow) → first + k ≡ number → k < length ps → IsRow number (get_or (rows_from first ps) k d)
IsRow-at t [] are axes first k number d same inside = absurd (omega arith)
IsRow-at t (p ∷ ps) are axes first zero number d same inside =
    IsRow-kicked t first number p (All-head (IsKicked t) p ps are) (All-head HasAxes p ps axes) (omega arith)
IsRow-at t (p ∷ ps) are axes first (suc k) number d same inside =
    IsRow-at t ps (All-tail (IsKicked t) p ps are) (All-tail HasAxes p ps axes) (suc first) k number d (omega arith) (omega arith)

-- the snapshot is in its ranges
pub IsSnapshot-kicked : (t : ℕ) (ps : List Particle) → t ≤ 65536 → 1 ≤ length ps → length ps ≤ most_particles → All (IsKicked t) ps → All HasAxes ps → IsSnapshot (snapshot_of t ps)
IsSnapshot-kicked t ps early some few are axes = record {
  tick = early;
  some = omega (arith, length-rows_from 1 ps);
  few = omega (arith, length-rows_from 1 ps);
  rows = λ k d inside. IsRow-at t ps are axes 1 k (suc k) d (omega arith) (omega (arith, length-rows_from 1 ps));
}
