-- How large the sums of a run can get, from the least and the greatest of a deck's numbers.
use Rattle.std.specs.Prelude.{ℕ, ◌+◌, ◌*◌, ◌/◌, ◌^◌, ℤ, min, max, List, map, fold, length, slice_index, flat_map, unsigned_abs}
use Rattle.sph_num.specs.declared.particle.Bounds.{Bounds}
use Rattle.sph_num.specs.declared.particle.Params.{Params}
use Rattle.sph_num.specs.declared.particle.Particle.{Particle}
use Rattle.sph_num.specs.Kernel.{kernel_constant}

-- the least of a list that isn't empty
abbrev pub least_of : List ℕ → ℕ
least_of xs = fold min (slice_index xs 0) xs

-- the greatest of a list; 0 of an empty one
abbrev pub greatest_of : List ℕ → ℕ
greatest_of xs = fold max 0 xs

-- the greatest absolute value of a vector's components
abbrev pub greatest_size : List ℤ → ℕ
greatest_size vector = greatest_of (map unsigned_abs vector)

-- the number of particles, and the least and the greatest of their masses and lengths
abbrev pub bounds_of : List Particle → Bounds
bounds_of list = record {
  count = length list;
  mass = (least_of (map (λ p. p.mass) list), greatest_of (map (λ p. p.mass) list));
  h = (least_of (map (λ p. p.h) list), greatest_of (map (λ p. p.h) list));
}

-- the greatest absolute value of a component of a momentum
abbrev pub greatest_momentum : List Particle → ℕ
greatest_momentum list = greatest_of (flat_map (λ p. map unsigned_abs p.p) list)

-- no density is less: the least mass alone, within the greatest length
abbrev pub least_density : Bounds → ℕ
least_density b = (b.mass.0 * kernel_constant * 2 ^ 38) / (b.h.1 * b.h.1 * b.h.1)

-- no pressure over the square of a density is more
abbrev pub greatest_ghost : ℕ → Bounds → ℕ
greatest_ghost sound b = (sound * 2 ^ 30) / least_density b

-- no factor of a force within one length is more
abbrev pub greatest_factor : ℕ → Bounds → ℕ
greatest_factor sound b =
    (b.mass.1 * b.mass.1 * greatest_ghost sound b * kernel_constant * 12288 * 2 ^ 20) / (b.h.0 * b.h.0 * b.h.0 * b.h.0 * b.h.0)

-- no component of a force is more
abbrev pub greatest_force : ℕ → Bounds → ℕ
greatest_force sound b = 2 * b.count * greatest_factor sound b * b.h.1

-- no component of a momentum gets to more in a run, from the greatest at its start
abbrev pub momentum_limit : Params → Bounds → ℕ → ℕ
momentum_limit params b pmax = pmax + greatest_force params.sound b * (2 * params.ticks + 2 ^ params.bin_max)

-- what the momenta of a deck's run may reach, which an accepted deck keeps below 2^96
abbrev pub bound_of : Params → List Particle → ℕ
bound_of params list = momentum_limit params (bounds_of list) (greatest_momentum list)
