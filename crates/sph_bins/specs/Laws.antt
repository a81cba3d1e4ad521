-- A step from a list in bounds: no sum of it gets too large, and it leaves a list in bounds for the next step.
use Rattle.std.specs.Prelude.{ℕ, ◌+◌, ◌^◌, ◌<◌, ◌≤◌, List, Contains, unsigned_abs}
use Rattle.sph_num.specs.declared.particle.Bounds.{Bounds}
use Rattle.sph_num.specs.declared.particle.Params.{Params}
use Rattle.sph_num.specs.declared.particle.Particle.{Particle}
use Rattle.sph_num.specs.Bound.{greatest_force}
use Rattle.sph_num.specs.Motion.{IsMomentum}
use Rattle.sph_num.specs.Totals.{component}
use Rattle.sph_bins.specs.Bins.{IsDue, IsStepTick}
use Rattle.sph_bins.specs.InBounds.{InBounds}
use Rattle.sph_bins.specs.Kick.{density_at, force_at, kicked, next_list}

-- the widths of the sums at a particle, and of its momenta after a kick
pub record AreSumsNarrow (params : Params) (bounds : Bounds) (t : ℕ) (list : List Particle) (i : Particle) : Type 0 where
  pub density_low : 20 ≤ density_at params t list i
  pub density_high : density_at params t list i < 2 ^ 61
  pub force : (axis : ℕ) → unsigned_abs (component (force_at params t list i) axis) ≤ greatest_force params.sound bounds
  pub p : IsMomentum (kicked params t list i).p
  pub q : IsMomentum (kicked params t list i).q

abbrev pub SumsAreNarrow : Type 0
SumsAreNarrow =
    (params : Params) (bounds : Bounds) (t : ℕ) (list : List Particle) (i : Particle)
    → InBounds params bounds t list → IsStepTick params t → Contains list i → IsDue t i.bin → AreSumsNarrow params bounds t list i

abbrev pub StepsKeepBounds : Type 0
StepsKeepBounds =
    (params : Params) (bounds : Bounds) (t : ℕ) (list : List Particle)
    → InBounds params bounds t list → IsStepTick params t → InBounds params bounds (t + 2 ^ params.bin_min) (next_list params list t)
