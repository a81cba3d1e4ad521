-- Where a particle is between its kicks, and what a kick adds.
use Rattle.std.specs.Prelude.{ℕ, ◌-◌, ◌*◌, ◌^◌, ◌<◌, ℤ, pos, ◌+ℤ◌, ◌*ℤ◌, List, ◌∷◌, slice_index, unsigned_abs, []}
use Rattle.std.specs.Int.{int_div_euclid, int_rem_euclid}
use Rattle.sph_num.specs.declared.particle.Particle.{Particle}
use Rattle.sph_num.specs.Space.{box_side}
use Rattle.sph_num.specs.Totals.{component, vector_of}

-- each component of a momentum is below 2^96
abbrev pub IsMomentum : List ℤ → Type 0
IsMomentum p = (axis : ℕ) → unsigned_abs (component p axis) < 2 ^ 96

-- how far the particle drifts on an axis from its last kick to a tick: floor(p·(t - t0) / (m·2^shift))
abbrev pub drift_of : ℕ → ℕ → Particle → ℕ → ℤ
drift_of shift t particle axis =
    int_div_euclid (component particle.p axis *ℤ pos (t - particle.t0)) (pos (particle.mass * 2 ^ shift))

-- the coordinate at a tick, round the box
abbrev pub coordinate_at : ℕ → ℕ → Particle → ℕ → ℕ
coordinate_at shift t particle axis =
    unsigned_abs (int_rem_euclid (pos (slice_index particle.x0 axis) +ℤ drift_of shift t particle axis) (pos box_side))

-- the place at a tick
unfoldable pub position_of : ℕ → ℕ → Particle → List ℕ
position_of shift t particle =
    coordinate_at shift t particle 0 ∷ coordinate_at shift t particle 1 ∷ coordinate_at shift t particle 2 ∷ []

-- the momentum after the force of so many ticks
abbrev pub pushed : List ℤ → List ℤ → ℕ → List ℤ
pushed p f ticks = vector_of (λ axis. component p axis +ℤ component f axis *ℤ pos ticks)
