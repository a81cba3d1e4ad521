-- What every list of a run keeps before each step, so that no sum of a step gets too large.
use Rattle.std.specs.Prelude.{◌≡◌, ℕ, zero, suc, ◌+◌, ◌-◌, ◌*◌, ◌^◌, ◌<◌, ◌≤◌, List, length, All, unsigned_abs}
use Rattle.sph_num.specs.declared.particle.Bounds.{Bounds}
use Rattle.sph_num.specs.declared.particle.Params.{Params}
use Rattle.sph_num.specs.declared.particle.Particle.{Particle}
use Rattle.sph_num.specs.Bound.{greatest_ghost, greatest_force}
use Rattle.sph_num.specs.Ranges.{AreParamsInRange, AreBoundsInRange}
use Rattle.sph_num.specs.Space.{IsPlace}
use Rattle.sph_num.specs.Totals.{component}
use Rattle.sph_bins.specs.Bins.{IsDue}

-- the particle's numbers lie within the bounds
pub record IsWithin (params : Params) (bounds : Bounds) (particle : Particle) : Type 0 where
  pub mass_low : bounds.mass.0 ≤ particle.mass
  pub mass_high : particle.mass ≤ bounds.mass.1
  pub h_low : bounds.h.0 ≤ particle.h
  pub h_high : particle.h ≤ bounds.h.1
  pub place : IsPlace particle.x0
  pub ghost_term : particle.g ≤ greatest_ghost params.sound bounds
  pub bin : particle.bin ≤ params.bin_max

-- each component of the momentum stays below 2^96 under the greatest force over so many ticks
abbrev pub HasRoom : Params → Bounds → ℕ → Particle → Type 0
HasRoom params bounds ticks particle =
    (axis : ℕ) → unsigned_abs (component particle.p axis) + greatest_force params.sound bounds * ticks < 2 ^ 96

-- a particle at tick 0, before its first kick
pub record IsAtStart (params : Params) (bounds : Bounds) (particle : Particle) : Type 0 where
  pub tick : particle.t0 ≡ 0
  pub bin : particle.bin ≡ 0
  pub room : HasRoom params bounds (2 * params.ticks + 2 ^ params.bin_max) particle

-- a particle at a later tick, in the step that its last kick began
pub record IsInStep (params : Params) (bounds : Bounds) (t : ℕ) (particle : Particle) : Type 0 where
  pub bin : params.bin_min ≤ particle.bin
  pub began : IsDue particle.t0 particle.bin
  pub since : particle.t0 < t
  pub until : t ≤ particle.t0 + 2 ^ particle.bin
  pub room : HasRoom params bounds (2 * (params.ticks - particle.t0) + 2 ^ params.bin_max - 2 ^ particle.bin) particle

-- a particle before the step at a tick
abbrev pub IsAt : Params → Bounds → ℕ → Particle → Type 0
IsAt params bounds zero particle = IsAtStart params bounds particle
IsAt params bounds (suc t) particle = IsInStep params bounds (suc t) particle

-- the list is in bounds at a step tick
pub record InBounds (params : Params) (bounds : Bounds) (t : ℕ) (list : List Particle) : Type 0 where
  pub params_in_range : AreParamsInRange params
  pub bins : params.bin_min ≤ params.bin_max
  pub bounds_in_range : AreBoundsInRange bounds
  pub count : length list ≡ bounds.count
  pub within : All (IsWithin params bounds) list
  pub at : All (IsAt params bounds t) list
