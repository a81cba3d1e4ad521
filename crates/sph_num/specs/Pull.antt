-- A particle as the forces of its pairs see it, and what a pair of two such gives.
use Rattle.std.specs.Prelude.{ℕ, ◌∷◌, []}
use Rattle.sph_num.specs.Force.{force_factor}

-- its smoothing length, its mass and its ghost
pub record Puller : Type 0 where
  pub h : ℕ
  pub mass : ℕ
  pub g : ℕ

abbrev pub puller : ℕ → ℕ → ℕ → Puller
puller h mass g = record { h = h; mass = mass; g = g }

-- the factor of the force of a pair
abbrev pub pair_factor : Puller → Puller → ℕ → ℕ
pair_factor i j r2 = force_factor (i.mass ∷ j.mass ∷ []) (i.h ∷ j.h ∷ []) (i.g ∷ j.g ∷ []) r2
