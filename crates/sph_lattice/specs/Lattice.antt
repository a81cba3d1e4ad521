-- The numbers of a generated deck: a lattice of particles, each drawn near its site.
use Rattle.std.specs.Prelude.{ℕ, zero, suc, ◌+◌, ◌*◌, ◌/◌, ◌%◌, ◌^◌, ◌≤◌, ◌==◌, min, ℤ, pos, ◌-ℤ◌, List, [], ◌∷◌, map, flat_map, slice_index, if◌then◌else◌}
use Rattle.std.specs.List.{range_with_len}
use Rattle.sph_num.specs.declared.particle.Params.{Params}
use Rattle.sph_num.specs.declared.particle.Particle.{Particle}
use Rattle.sph_num.specs.Totals.{zero_vector}

-- how many sites an edge of the lattice may have
pub record IsSide (side : ℕ) : Type 0 where
  pub low : 1 ≤ side
  pub high : side ≤ 32

-- the number that follows a number of a sequence
abbrev pub number_after : ℕ → ℕ
number_after v = (v * 6364136223846793005 + 1442695040888963407) % 2 ^ 64

-- the sequence that begins with the seed
unfoldable pub sequence : ℕ → ℕ → ℕ
sequence seed zero = seed
sequence seed (suc k) = number_after (sequence seed k)

-- the draw of a number, from 1: the upper half of the sequence's number
abbrev pub draw : ℕ → ℕ → ℕ
draw seed k = sequence seed k / 2 ^ 32

-- the distance of two sites on an axis, in length units
abbrev pub spacing : ℕ → ℕ
spacing side = 2 ^ 20 / side

-- the smoothing length, in length units
abbrev pub length_of : ℕ → ℕ
length_of side = min 131072 (2 * spacing side)

-- a coordinate from a draw: at most a quarter of the spacing past its site
abbrev pub coordinate_drawn : ℕ → ℕ → ℕ → ℕ
coordinate_drawn side site v = site * spacing side + v % (spacing side / 4)

-- a mass from a draw
abbrev pub mass_drawn : ℕ → ℕ
mass_drawn v = 1024 + v % 1024

-- a component of a momentum from a draw
abbrev pub momentum_drawn : ℕ → ℤ
momentum_drawn v = pos (v % 2 ^ 24) -ℤ pos (2 ^ 23)

-- the particle at a site from its seven draws, as it is at the start of a run
abbrev pub particle_drawn : ℕ → List ℕ → List ℕ → Particle
particle_drawn side site draws =
    let p = momentum_drawn (slice_index draws 4) ∷ momentum_drawn (slice_index draws 5) ∷ momentum_drawn (slice_index draws 6) ∷ [] in
    record {
      mass = mass_drawn (slice_index draws 0);
      h = length_of side;
      x0 =
          coordinate_drawn side (slice_index site 0) (slice_index draws 1)
          ∷ coordinate_drawn side (slice_index site 1) (slice_index draws 2)
          ∷ coordinate_drawn side (slice_index site 2) (slice_index draws 3)
          ∷ [];
      t0 = 0;
      p = p;
      q = p;
      f = zero_vector;
      rho = 0;
      g = 0;
      bin = 0;
    }

-- the seven draws behind so many
abbrev pub seven_draws : ℕ → ℕ → List ℕ
seven_draws seed k = map (draw seed) (range_with_len (k + 1) 7)

-- the particle at the site a, b, c: its draws follow those of the sites before it
abbrev pub particle_at : ℕ → ℕ → ℕ → ℕ → ℕ → Particle
particle_at side seed a b c = particle_drawn side (a ∷ b ∷ c ∷ []) (seven_draws seed (7 * ((a * side + b) * side + c)))

-- the sites of an edge
abbrev pub edge : ℕ → List ℕ
edge side = range_with_len 0 side

-- the particles: for each a, in it for each b, in it for each c
abbrev pub lattice_particles : ℕ → ℕ → List Particle
lattice_particles side seed =
    flat_map (λ a. flat_map (λ b. map (λ c. particle_at side seed a b c) (edge side)) (edge side)) (edge side)

-- the parameters: an even seed has one time bin, an odd one three
abbrev pub lattice_params : ℕ → Params
lattice_params seed = record {
  ticks = 4;
  every = 4;
  bin_min = 0;
  bin_max = if seed % 2 == 0 then 0 else 2;
  sound = 256;
  shift = 4;
  accuracy = 1;
  leaf = 16;
  pairs = 4096;
  slack = 1024;
}
