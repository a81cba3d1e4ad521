-- The ranges of a deck's numbers, which hold through a whole run but for the momentum's.
use Rattle.std.specs.Prelude.{ℕ, ◌^◌, ◌<◌, ◌≤◌, All, unsigned_abs}
use Rattle.sph_num.specs.declared.particle.Bounds.{Bounds}
use Rattle.sph_num.specs.declared.particle.Params.{Params}
use Rattle.sph_num.specs.declared.particle.Particle.{Particle}
use Rattle.sph_num.specs.Space.{IsPlace}

-- the greatest number of particles
abbrev pub most_particles : ℕ
most_particles = 32768

-- the deck's parameters are in their ranges
pub record AreParamsInRange (params : Params) : Type 0 where
  pub ticks : params.ticks ≤ 65536
  pub every_low : 1 ≤ params.every
  pub every_high : params.every ≤ 65536
  pub bin_min : params.bin_min ≤ 10
  pub bin_max : params.bin_max ≤ 10
  pub sound_low : 1 ≤ params.sound
  pub sound_high : params.sound ≤ 65536
  pub shift : params.shift ≤ 60
  pub accuracy : params.accuracy < 2 ^ 32
  pub leaf_low : 1 ≤ params.leaf
  pub leaf_high : params.leaf ≤ 256
  pub pairs_low : 1 ≤ params.pairs
  pub pairs_high : params.pairs ≤ 2 ^ 30
  pub slack : params.slack ≤ 65535

-- a number that a mass may be
pub record IsMass (mass : ℕ) : Type 0 where
  pub low : 1 ≤ mass
  pub high : mass ≤ 65536

-- a number that a smoothing length may be, in length units
pub record IsLength (h : ℕ) : Type 0 where
  pub low : 1024 ≤ h
  pub high : h ≤ 131072

-- what a particle keeps in range at each moment
pub record IsBody (particle : Particle) : Type 0 where
  pub mass : IsMass particle.mass
  pub h : IsLength particle.h
  pub place : IsPlace particle.x0

-- each component of the momentum is one that a deck may give
abbrev pub IsDeckMomentum : Particle → Type 0
IsDeckMomentum particle = All (λ p. unsigned_abs p < 2 ^ 63) particle.p

-- the bounds of a deck's numbers. That no least is above its greatest isn't part of it: the lists in bounds make it so
pub record AreBoundsInRange (b : Bounds) : Type 0 where
  pub count_low : 1 ≤ b.count
  pub count_high : b.count ≤ most_particles
  pub least_mass : IsMass b.mass.0
  pub greatest_mass : IsMass b.mass.1
  pub least_h : IsLength b.h.0
  pub greatest_h : IsLength b.h.1
