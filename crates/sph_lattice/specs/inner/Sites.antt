-- The particles of a lattice by their numbers, from 0, in the order in which they are drawn.
use Rattle.std.specs.Prelude.{ℕ, ◌*◌, ◌/◌, ◌%◌, List, [], ◌∷◌}
use Rattle.sph_num.specs.declared.particle.Particle.{Particle}
use Rattle.sph_lattice.specs.Lattice.{particle_drawn, seven_draws}

-- the site of a number: its digits in base `side`
abbrev pub site_numbered : ℕ → ℕ → List ℕ
site_numbered side n = n / side / side ∷ n / side % side ∷ n % side ∷ []

-- the particle there
abbrev pub particle_numbered : ℕ → ℕ → ℕ → Particle
particle_numbered side seed n = particle_drawn side (site_numbered side n) (seven_draws seed (7 * n))
