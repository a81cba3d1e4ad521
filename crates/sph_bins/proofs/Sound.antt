-- What a place, a pull, a due test and a kick ask of a particle, of each particle of a list in bounds.
use Rattle.std.proofs.Common.{ℕ, zero, suc, ◌+◌, ◌*◌, ◌^◌, ◌<◌, ◌≤◌, List, length, get_or, arith}
use Rattle.std.specs.Prelude.{unsigned_abs}
use Rattle.std.proofs.lemmas.Nat.{mul-le}
use Rattle.sph_num.specs.declared.particle.Bounds.{Bounds}
use Rattle.sph_num.specs.declared.particle.Params.{Params}
use Rattle.sph_num.specs.declared.particle.Particle.{Particle}
use Rattle.sph_num.specs.Bound.{greatest_ghost}
use Rattle.sph_num.specs.Motion.{IsMomentum}
use Rattle.sph_num.specs.Ranges.{AreBoundsInRange, IsLength, IsMass}
use Rattle.sph_num.specs.Space.{IsPlace}
use Rattle.sph_num.specs.Totals.{component}
use Rattle.sph_num.proofs.Sums.{greatest_ghost-lt}
use Rattle.sph_bins.specs.InBounds.{InBounds, IsAt}
use Rattle.sph_bins.proofs.Room.{pow-le}

-- a particle that may be placed at a tick
pub record IsNear (t : ℕ) (i : Particle) : Type 0 where
  pub since : i.t0 ≤ t
  pub soon : t ≤ i.t0 + 1024
  pub momentum : IsMomentum i.p

-- a particle of a list in bounds
pub record IsSound (t : ℕ) (i : Particle) : Type 0 where
  pub near : IsNear t i
  pub bin : i.bin ≤ 10
  pub mass : IsMass i.mass
  pub h : IsLength i.h
  pub place : IsPlace i.x0
  pub kept_ghost : i.g < 2 ^ 42

-- a momentum with room for more
narrow : (a b limit : ℕ) → a + b < limit → a < limit
narrow a b limit h = omega arith

IsNear-at : (params : Params) (bounds : Bounds) (t : ℕ) (i : Particle) → i.bin ≤ 10 → IsAt params bounds t i → IsNear t i
IsNear-at params bounds zero i short at = record {
  since = omega (arith, at.tick);
  soon = omega arith;
  momentum = λ axis. narrow (unsigned_abs (component i.p axis)) _ (2 ^ 96) (at.room axis);
}
IsNear-at params bounds (suc t) i short at = record {
  since = omega (arith, at.since);
  soon = omega (arith, at.until, pow-le i.bin 10 short);
  momentum = λ axis. narrow (unsigned_abs (component i.p axis)) _ (2 ^ 96) (at.room axis);
}

-- a force that leaves room for some ticks is itself within the limit
pub force-lt : (m force ticks limit : ℕ) → 1 ≤ ticks → m + force * ticks < limit → force < limit
force-lt m force ticks limit some fits = omega (arith, mul-le force 1 force ticks (omega arith) some)

-- within what is below
pub below : (a b limit : ℕ) → a ≤ b → b < limit → a < limit
below a b limit low high = omega arith

-- a mass and a length within bounds in range
IsMass-within : (bounds : Bounds) (mass : ℕ) → AreBoundsInRange bounds → bounds.mass.0 ≤ mass → mass ≤ bounds.mass.1 → IsMass mass
IsMass-within bounds mass are low high = record { low = omega (arith, are.least_mass.low); high = omega (arith, are.greatest_mass.high) }

IsLength-within : (bounds : Bounds) (h : ℕ) → AreBoundsInRange bounds → bounds.h.0 ≤ h → h ≤ bounds.h.1 → IsLength h
IsLength-within bounds h are low high = record { low = omega (arith, are.least_h.low); high = omega (arith, are.greatest_h.high) }

pub sound : (params : Params) (bounds : Bounds) (t : ℕ) (list : List Particle) → InBounds params bounds t list → (k : ℕ) (d : Particle) → k < length list → IsSound t (get_or list k d)
sound params bounds t list are k d inside =
    let i = get_or list k d in
    let within = are.within k d inside in
    let light = greatest_ghost-lt params.sound bounds are.params_in_range.sound_high are.bounds_in_range in
    let short : i.bin ≤ 10 = omega (arith, within.bin, are.params_in_range.bin_max) in
    record {
      near = IsNear-at params bounds t i short (are.at k d inside);
      bin = short;
      mass = IsMass-within bounds i.mass are.bounds_in_range within.mass_low within.mass_high;
      h = IsLength-within bounds i.h are.bounds_in_range within.h_low within.h_high;
      place = within.place;
      kept_ghost = below i.g (greatest_ghost params.sound bounds) (2 ^ 42) within.ghost_term light;
    }
