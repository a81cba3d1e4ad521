-- One step of the leapfrog: the due particles are given their new densities, ghosts, forces and kicks. All sums are over the list before it.
use Rattle.std.specs.Prelude.{ℕ, ◌^◌, ℤ, List, map, if◌then◌else◌, ◌==◌}
use Rattle.sph_num.specs.declared.particle.Params.{Params}
use Rattle.sph_num.specs.declared.particle.Particle.{Particle}
use Rattle.sph_num.specs.Bound.{greatest_size}
use Rattle.sph_num.specs.Density.{density_of}
use Rattle.sph_num.specs.Force.{ghost_value, force_of}
use Rattle.sph_num.specs.Motion.{position_of, pushed}
use Rattle.sph_bins.specs.Bins.{is_due, bin_of}

-- the place of a particle at a tick
abbrev pub place_at : Params → ℕ → Particle → List ℕ
place_at params t i = position_of params.shift t i

-- its density there
abbrev pub density_at : Params → ℕ → List Particle → Particle → ℕ
density_at params t list i = density_of (place_at params t) list i

-- its ghost: this tick's where it is due, else the one that it keeps
abbrev pub ghost_at : Params → ℕ → List Particle → Particle → ℕ
ghost_at params t list i = if is_due t i.bin then ghost_value params.sound (density_at params t list i) else i.g

-- the force on it
abbrev pub force_at : Params → ℕ → List Particle → Particle → List ℤ
force_at params t list i = force_of (place_at params t) (ghost_at params t list) list i

-- the momentum at the tick, at the end of the step before it; tick 0 has none before it
abbrev pub momentum_at : ℕ → Particle → List ℤ → List ℤ
momentum_at t i f = if t == 0 then i.p else pushed i.p f (2 ^ i.bin)

-- the kick with this density, ghost and force: the new bin, and the momentum half a step ahead of the tick
abbrev pub kicked_with : Params → ℕ → Particle → ℕ → ℕ → List ℤ → Particle
kicked_with params t i rho g f =
    let bin = bin_of params t (greatest_size f) i.mass i.h in
    let q = momentum_at t i f in
    record i { x0 = place_at params t i; t0 = t; p = pushed q f (2 ^ bin); q = q; f = f; rho = rho; g = g; bin = bin }

-- the kick of a due particle
unfoldable pub kicked : Params → ℕ → List Particle → Particle → Particle
kicked params t list i = kicked_with params t i (density_at params t list i) (ghost_at params t list i) (force_at params t list i)

-- the list after the step: the due particles kicked, the others as they were
unfoldable pub next_list : Params → List Particle → ℕ → List Particle
next_list params list t = map (λ i. if is_due t i.bin then kicked params t list i else i) list
