-- The pressure force of the momentum equation without viscosity: what a pair gives, and the sum over all of them.
use Rattle.std.specs.Prelude.{ℕ, ◌+◌, ◌*◌, ◌/◌, ◌^◌, ◌<◌, max, ℤ, pos, ◌*ℤ◌, List, ◌∷◌, slice_index, if◌then◌else◌, nat_lt, []}
use Rattle.sph_num.specs.declared.particle.Particle.{Particle}
use Rattle.sph_num.specs.Kernel.{root_of, kernel_u, kernel_constant}
use Rattle.sph_num.specs.Space.{minimal, dist2}
use Rattle.sph_num.specs.Totals.{total_by, vector_of}

-- the pair at the square r2 of its distance is in reach: within the greater of its two lengths
abbrev pub InReach : ℕ → ℕ → ℕ → Type 0
InReach r2 h h' = r2 < max h h' * max h h'

-- the ghost: pressure over the square of the density, at a scale of 2^30, rounded down
abbrev pub ghost_value : ℕ → ℕ → ℕ
ghost_value sound rho = (sound * 2 ^ 30) / rho

-- what one of the pair's lengths gives to the factor of the force, rounded down: nothing from h on
unfoldable pub factor_within : ℕ → ℕ → ℕ → ℕ → ℕ
factor_within masses g r2 h =
    if nat_lt r2 (h * h)
    then (masses * g * kernel_constant * kernel_u (root_of r2 h) * 2 ^ 20) / (h * h * h * h * h)
    else 0

-- the factor of the force of a pair: the sum over its two lengths, each with the ghost of its particle
abbrev pub force_factor : List ℕ → List ℕ → List ℕ → ℕ → ℕ
force_factor masses hs gs r2 =
    let both = slice_index masses 0 * slice_index masses 1 in
    factor_within both (slice_index gs 0) r2 (slice_index hs 0) + factor_within both (slice_index gs 1) r2 (slice_index hs 1)

-- the force on i from j on an axis: the factor times the minimal image of their places. A particle gives itself none: its image is 0.
abbrev pub force_from : (Particle → List ℕ) → (Particle → ℕ) → ℕ → Particle → Particle → ℤ
force_from place g axis i j =
    pos (force_factor (i.mass ∷ j.mass ∷ []) (i.h ∷ j.h ∷ []) (g i ∷ g j ∷ []) (dist2 (place i) (place j)))
    *ℤ minimal (slice_index (place i) axis) (slice_index (place j) axis)

-- the force on particle i: on each axis the sum of the forces from the particles of the list
abbrev pub force_of : (Particle → List ℕ) → (Particle → ℕ) → List Particle → Particle → List ℤ
force_of place g list i = vector_of (λ axis. total_by (λ j. force_from place g axis i j) list)
