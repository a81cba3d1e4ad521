-- How large the densities, ghosts and forces of a step get, from a list in bounds.
use Rattle.std.proofs.Common.{ℕ, ◌^◌, ◌<◌, ◌≤◌, List, length, get_or, Contains, unsigned_abs, arith}
use Rattle.std.proofs.lemmas.Bool.{cond_both}
use Rattle.std.proofs.lemmas.List.Elements.{All-weaker, All-contains, Contains-get_or}
use Rattle.sph_num.specs.declared.particle.Bounds.{Bounds}
use Rattle.sph_num.specs.declared.particle.Params.{Params}
use Rattle.sph_num.specs.declared.particle.Particle.{Particle}
use Rattle.sph_num.specs.Bound.{greatest_ghost, greatest_force}
use Rattle.sph_num.specs.Force.{ghost_value}
use Rattle.sph_num.specs.Motion.{IsMomentum}
use Rattle.sph_num.specs.Ranges.{IsBody, AreBoundsInRange}
use Rattle.sph_num.specs.Totals.{component}
use Rattle.sph_num.proofs.Forces.{IsBodyWithin, density_of-ge, ghost_value-le, force_of-le}
use Rattle.sph_num.proofs.Sums.{density_of-lt, least_density-ge}
use Rattle.sph_bins.specs.Bins.{IsDue, IsStepTick, is_due}
use Rattle.sph_bins.specs.InBounds.{IsWithin, InBounds}
use Rattle.sph_bins.specs.Kick.{place_at, density_at, ghost_at, force_at, kicked}
use Rattle.sph_bins.specs.Laws.{SumsAreNarrow}

-- a particle within the bounds is a body within them, and in range
IsBodyWithin-from_within : (params : Params) (bounds : Bounds) (i : Particle) → IsWithin params bounds i → IsBodyWithin bounds i
IsBodyWithin-from_within params bounds i is =
    record { mass_low = is.mass_low; mass_high = is.mass_high; h_low = is.h_low; h_high = is.h_high }

IsBody-from_within : (params : Params) (bounds : Bounds) (i : Particle) → AreBoundsInRange bounds → IsWithin params bounds i → IsBody i
IsBody-from_within params bounds i are is = record {
  mass = record { low = omega (arith, are.least_mass.low, is.mass_low); high = omega (arith, are.greatest_mass.high, is.mass_high) };
  h = record { low = omega (arith, are.least_h.low, is.h_low); high = omega (arith, are.greatest_h.high, is.h_high) };
  place = is.place;
}

-- the density at a particle of the list
pub density_at-ge : (params : Params) (bounds : Bounds) (t : ℕ) (list : List Particle) (i : Particle) → InBounds params bounds t list → Contains list i → 20 ≤ density_at params t list i
density_at-ge params bounds t list i are at =
    let body = IsBodyWithin-from_within params bounds i (All-contains (IsWithin params bounds) list i are.within at) in
    omega (arith, least_density-ge bounds are.bounds_in_range, density_of-ge bounds (place_at params t) list i are.bounds_in_range body at)

pub density_at-lt : (params : Params) (bounds : Bounds) (t : ℕ) (list : List Particle) (i : Particle) → InBounds params bounds t list → Contains list i → density_at params t list i < 2 ^ 61
density_at-lt params bounds t list i are at =
    let bodies = All-weaker (IsWithin params bounds) IsBody (λ j is. IsBody-from_within params bounds j are.bounds_in_range is) list are.within in
    density_of-lt (place_at params t) list i bodies (omega (arith, are.count, are.bounds_in_range.count_high)) (All-contains IsBody list i bodies at)

-- the ghost, new or kept
pub ghost_at-le : (params : Params) (bounds : Bounds) (t : ℕ) (list : List Particle) (i : Particle) → InBounds params bounds t list → IsStepTick params t → Contains list i → ghost_at params t list i ≤ greatest_ghost params.sound bounds
ghost_at-le params bounds t list i are tick at =
    let is = All-contains (IsWithin params bounds) list i are.within at in
    let fresh = ghost_value-le params.sound bounds (place_at params t) list i are.bounds_in_range (IsBodyWithin-from_within params bounds i is) at in
    cond_both (is_due t i.bin) (ghost_value params.sound (density_at params t list i)) i.g (λ g. g ≤ greatest_ghost params.sound bounds) (λ _. fresh) (λ _. is.ghost_term)

-- the force, on each axis
pub force_at-le : (params : Params) (bounds : Bounds) (t : ℕ) (list : List Particle) (i : Particle) → InBounds params bounds t list → IsStepTick params t → Contains list i → (axis : ℕ) → unsigned_abs (component (force_at params t list i) axis) ≤ greatest_force params.sound bounds
force_at-le params bounds t list i are tick at =
    let bodies = All-weaker (IsWithin params bounds) (IsBodyWithin bounds) (λ j is. IsBodyWithin-from_within params bounds j is) list are.within in
    let ghosts = λ (k : ℕ) (d : Particle) (inside : k < length list). ghost_at-le params bounds t list (get_or list k d) are tick (Contains-get_or list k d inside) in
    force_of-le params.sound bounds (place_at params t) (ghost_at params t list) list i are.bounds_in_range are.count bodies ghosts at

-- all the widths of a step's sums, from those of the momenta
pub sums_are_narrow_from : ((params : Params) (bounds : Bounds) (t : ℕ) (list : List Particle) (i : Particle) → InBounds params bounds t list → IsStepTick params t → Contains list i → IsDue t i.bin → IsMomentum (kicked params t list i).p × IsMomentum (kicked params t list i).q) → SumsAreNarrow
sums_are_narrow_from momenta params bounds t list i are tick at due =
    let narrow = momenta params bounds t list i are tick at due in
    record {
      density_low = density_at-ge params bounds t list i are at;
      density_high = density_at-lt params bounds t list i are at;
      force = force_at-le params bounds t list i are tick at;
      p = narrow.0;
      q = narrow.1;
    }
