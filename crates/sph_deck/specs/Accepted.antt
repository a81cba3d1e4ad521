-- What an accepted deck's numbers keep.
use Rattle.std.specs.Prelude.{◌≡◌, ℕ, ◌%◌, ◌^◌, ◌<◌, ◌≤◌, List, length, slice_index_or}
use Rattle.sph_num.specs.Bound.{bound_of}
use Rattle.sph_num.specs.declared.particle.Params.{Params}
use Rattle.sph_num.specs.declared.particle.Particle.{Particle}
use Rattle.sph_num.specs.Ranges.{AreParamsInRange, IsBody, IsDeckMomentum, most_particles}

-- each number is in its range, and there are as many particles as a deck may have
pub record AreInRange (params : Params) (particles : List Particle) : Type 0 where
  pub params_in_range : AreParamsInRange params
  pub bodies : (k : ℕ) (d : Particle) → k < length particles → IsBody (slice_index_or particles k d)
  pub momenta : (k : ℕ) (d : Particle) → k < length particles → IsDeckMomentum (slice_index_or particles k d)
  pub axes : (k : ℕ) (d : Particle) → k < length particles → length (slice_index_or particles k d).p ≡ 3
  pub some : 1 ≤ length particles
  pub not_too_many : length particles ≤ most_particles

-- and the numbers fit together
pub record AreAccepted (params : Params) (particles : List Particle) : Type 0 where
  pub in_range : AreInRange params particles
  pub every : params.every % 2 ^ params.bin_max ≡ 0
  pub ticks : params.ticks % params.every ≡ 0
  pub bins : params.bin_min ≤ params.bin_max
  pub sums : bound_of params particles < 2 ^ 96
