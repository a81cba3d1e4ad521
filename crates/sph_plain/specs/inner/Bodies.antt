-- What the sums of a step read of each particle, and what they are.
use Rattle.std.specs.Prelude.{ℕ, ◌^◌, ◌<◌, ℤ, pos, ◌+ℤ◌, ◌*ℤ◌, List, slice_index, if◌then◌else◌}
use Rattle.sph_num.specs.declared.particle.Params.{Params}
use Rattle.sph_num.specs.declared.particle.Particle.{Particle}
use Rattle.sph_num.specs.Density.{density_within}
use Rattle.sph_num.specs.Pull.{puller, pair_factor}
use Rattle.sph_num.specs.Ranges.{IsMass, IsLength}
use Rattle.sph_num.specs.Space.{IsPlace, minimal, dist2}
use Rattle.sph_num.specs.Totals.{total_by, component, vector_of}
use Rattle.sph_bins.specs.Bins.{is_due}
use Rattle.sph_bins.specs.Kick.{place_at, density_at, ghost_at, kicked}
use Rattle.sph_plain.specs.declared.body.Body.{Body}
use Rattle.sph_plain.specs.declared.body.Spot.{Spot}

-- a particle at a tick, with this ghost
abbrev pub body_of : Params → ℕ → Particle → ℕ → Body
body_of params t i g = record { place = place_at params t i; pull = puller i.h i.mass g }

-- as it is before the step, and with the ghost that the forces take
abbrev pub body_at : Params → ℕ → Particle → Body
body_at params t i = body_of params t i i.g

unfoldable pub ghost_body : Params → ℕ → List Particle → Particle → Body
ghost_body params t list i = body_of params t i (ghost_at params t list i)

-- the body's numbers are in range
pub record IsInRange (body : Body) : Type 0 where
  pub mass : IsMass body.pull.mass
  pub h : IsLength body.pull.h
  pub place : IsPlace body.place
  pub low_ghost : body.pull.g < 2 ^ 42

-- with another ghost
abbrev pub with_ghost : Body → ℕ → Body
with_ghost body g = record body { pull = puller body.pull.h body.pull.mass g }

-- where it is and how far it reaches
abbrev pub spot_of : Body → Spot
spot_of body = record { place = body.place; h = body.pull.h }

abbrev pub spot_at : Params → ℕ → Particle → Spot
spot_at params t i = record { place = place_at params t i; h = i.h }

-- what body j adds to the density at body i
abbrev pub density_from : Body → Body → ℕ
density_from i j = density_within j.pull.mass (dist2 i.place j.place) i.pull.h

-- the force on body i from body j on an axis
abbrev pub pull_on : Body → ℕ → Body → ℤ
pull_on i axis j =
    pos (pair_factor i.pull j.pull (dist2 i.place j.place)) *ℤ minimal (slice_index i.place axis) (slice_index j.place axis)

-- that force on each axis added to the sum so far
unfoldable pub pulled : List ℤ → Body → Body → List ℤ
pulled total i j = vector_of (λ axis. component total axis +ℤ pull_on i axis j)

-- the force on body i from all these
unfoldable pub force_on : Body → List Body → List ℤ
force_on i bodies = vector_of (λ axis. total_by (pull_on i axis) bodies)

-- a particle that is due has the density of the tick
abbrev pub with_rho : Particle → ℕ → Particle
with_rho i rho = record i { rho = rho }

unfoldable pub with_density : Params → ℕ → List Particle → Particle → Particle
with_density params t list i = if is_due t i.bin then with_rho i (density_at params t list i) else i

-- and after the step it is kicked
unfoldable pub next_particle : Params → ℕ → List Particle → Particle → Particle
next_particle params t list i = if is_due t i.bin then kicked params t list i else i
