-- A lattice's numbers are an accepted deck: each is in its range, and its sums are far below the limit.
use Rattle.std.proofs.Common.{◌≡◌, ℕ, ◌+◌, ◌*◌, ◌/◌, ◌%◌, ◌^◌, ◌<◌, ◌≤◌, List, length, map, refl, inl, inr, arith}
use Rattle.std.specs.Prelude.{flat_map, unsigned_abs}
use Rattle.std.specs.List.{All}
use Rattle.std.proofs.lemmas.Bool.{cases_eq, eq-eqb, ne_eqb}
use Rattle.std.proofs.lemmas.Int.{ints}
use Rattle.std.proofs.lemmas.List.{length-map}
use Rattle.std.proofs.lemmas.List.Elements.{All-map, All-weaker}
use Rattle.std.proofs.lemmas.Nat.{le-div, mod_below, mul-le}
use Rattle.lists.proofs.Elements.{All-flat_map, All-three}
use Rattle.lists.proofs.Extremes.{fold_max-le}
use Rattle.sph_num.specs.declared.particle.Bounds.{Bounds}
use Rattle.sph_num.specs.declared.particle.Particle.{Particle}
use Rattle.sph_num.specs.Bound.{bounds_of, greatest_factor, greatest_force, greatest_ghost, greatest_momentum, least_density}
use Rattle.sph_num.specs.Kernel.{kernel_constant}
use Rattle.sph_num.specs.Ranges.{AreParamsInRange, IsBody, IsDeckMomentum, most_particles}
use Rattle.sph_num.specs.Space.{IsPlace, box_side}
use Rattle.sph_num.proofs.Divisions.{div-lt}
use Rattle.sph_num.proofs.Extremes.{greatest_of_within, least_of_within}
use Rattle.sph_deck.specs.Accepted.{AreAccepted}
use Rattle.sph_lattice.specs.Lattice.{IsSide, coordinate_drawn, lattice_params, lattice_particles, momentum_drawn, particle_at, spacing}
use Rattle.sph_lattice.proofs.Numbered.{All-lattice_particles, length-lattice_particles}

-- the spacing
pub spacing-ge : (side : ℕ) → IsSide side → 32768 ≤ spacing side
spacing-ge side is = le-div 32768 (2 ^ 20) side is.low (omega (arith, is.high))

pub spacing-le : (side : ℕ) → IsSide side → side * spacing side ≤ 2 ^ 20
spacing-le side is = let low = is.low in omega arith

pub quarter-pos : (side : ℕ) → IsSide side → 0 < spacing side / 4
quarter-pos side is = omega (arith, spacing-ge side is)

-- a coordinate lies in the box
pub coordinate_drawn-lt : (side steps v : ℕ) → IsSide side → steps < side → coordinate_drawn side steps v < box_side
coordinate_drawn-lt side steps v is low =
    let past : v % (spacing side / 4) < spacing side / 4 = mod_below v (spacing side / 4) (quarter-pos side is) in
    let sites : (steps + 1) * spacing side ≤ side * spacing side = mul-le (steps + 1) (spacing side) side (spacing side) (omega arith) (omega arith) in
    omega (arith, spacing-le side is, spacing-ge side is)

-- a component of a momentum is small
pub momentum_drawn-le : (v : ℕ) → unsigned_abs (momentum_drawn v) ≤ 2 ^ 23
momentum_drawn-le v = let low : v % 2 ^ 24 < 2 ^ 24 = mod_below v (2 ^ 24) (omega arith) in omega (arith, ints)

-- what each particle keeps
record IsDrawn (p : Particle) : Type 0 where
  mass_low : 1024 ≤ p.mass
  mass_high : p.mass ≤ 2047
  h_low : 65536 ≤ p.h
  h_high : p.h ≤ 131072
  place : IsPlace p.x0
  momentum : All (λ z. unsigned_abs z ≤ 2 ^ 23) p.p
  axes : length p.p ≡ 3

IsDrawn-particle_at : (side seed a b c : ℕ) → IsSide side → a < side → b < side → c < side → IsDrawn (particle_at side seed a b c)
IsDrawn-particle_at side seed a b c is low_a low_b low_c = record {
  mass_low = omega arith;
  mass_high = omega arith;
  h_low = omega (arith, spacing-ge side is);
  h_high = omega arith;
  place = (refl, All-three (λ x. x < box_side) _ _ _ (coordinate_drawn-lt side a _ is low_a) (coordinate_drawn-lt side b _ is low_b) (coordinate_drawn-lt side c _ is low_c));
  momentum = All-three (λ z. unsigned_abs z ≤ 2 ^ 23) _ _ _ (momentum_drawn-le _) (momentum_drawn-le _) (momentum_drawn-le _);
  axes = refl;
}

AreDrawn : (side seed : ℕ) → IsSide side → All IsDrawn (lattice_particles side seed)
AreDrawn side seed is = All-lattice_particles IsDrawn side seed (λ a b c low_a low_b low_c. IsDrawn-particle_at side seed a b c is low_a low_b low_c)

-- the bounds of such particles
record AreDrawnBounds (b : Bounds) : Type 0 where
  count : b.count ≤ most_particles
  mass_low : 1024 ≤ b.mass.0
  mass_high : b.mass.1 ≤ 2047
  h_low : 65536 ≤ b.h.0
  h_high : b.h.1 ≤ 131072
  h_pos : 0 < b.h.1

AreDrawnBounds-bounds_of : (list : List Particle) → 1 ≤ length list → length list ≤ most_particles → All IsDrawn list → AreDrawnBounds (bounds_of list)
AreDrawnBounds-bounds_of list some few drawn =
    let masses = map (λ (p : Particle). p.mass) list in
    let lengths = map (λ (p : Particle). p.h) list in
    let some_masses : 1 ≤ length masses = simp length-map some in
    let some_lengths : 1 ≤ length lengths = simp length-map some in
    let mass_low = All-map (λ x. 1024 ≤ x) (λ (p : Particle). p.mass) list (All-weaker IsDrawn (λ p. 1024 ≤ p.mass) (λ p is. is.mass_low) list drawn) in
    let mass_high = All-map (λ x. x ≤ 2047) (λ (p : Particle). p.mass) list (All-weaker IsDrawn (λ p. p.mass ≤ 2047) (λ p is. is.mass_high) list drawn) in
    let h_low = All-map (λ x. 65536 ≤ x) (λ (p : Particle). p.h) list (All-weaker IsDrawn (λ p. 65536 ≤ p.h) (λ p is. is.h_low) list drawn) in
    let h_high = All-map (λ x. x ≤ 131072) (λ (p : Particle). p.h) list (All-weaker IsDrawn (λ p. p.h ≤ 131072) (λ p is. is.h_high) list drawn) in
    let m0 = least_of_within 1024 2047 masses some_masses mass_low mass_high in
    let m1 = greatest_of_within 1024 2047 masses some_masses mass_low mass_high in
    let h0 = least_of_within 65536 131072 lengths some_lengths h_low h_high in
    let h1 = greatest_of_within 65536 131072 lengths some_lengths h_low h_high in
    record { count = few; mass_low = m0.0; mass_high = m1.1; h_low = h0.0; h_high = h1.1; h_pos = omega (arith, h1.0) }

-- powers of a number between bounds
cube-le : (h m : ℕ) → h ≤ m → h * h * h ≤ m * m * m
cube-le h m low = mul-le (h * h) h (m * m) m (mul-le h h m m low low) low

fifth-le : (h m : ℕ) → h ≤ m → h * h * h * h * h ≤ m * m * m * m * m
fifth-le h m low = mul-le (h * h * h * h) h (m * m * m * m) m (mul-le (h * h * h) h (m * m * m) m (cube-le h m low) low) low

-- their limits, one after another
least_density-ge : (b : Bounds) → AreDrawnBounds b → 16384 ≤ least_density b
least_density-ge b are =
    let volume = cube-le b.h.1 131072 are.h_high in
    let positive = cube-le 1 b.h.1 are.h_pos in
    le-div 16384 (b.mass.0 * kernel_constant * 2 ^ 38) (b.h.1 * b.h.1 * b.h.1) (omega arith) (omega (arith, are.mass_low))

greatest_ghost-lt : (b : Bounds) → AreDrawnBounds b → greatest_ghost 256 b < 2 ^ 25
greatest_ghost-lt b are = div-lt (256 * 2 ^ 30) (least_density b) 16384 (2 ^ 25) (omega arith) (least_density-ge b are) (omega arith)

factor_numerator-lt : (masses g : ℕ) → masses ≤ 2 ^ 22 → g < 2 ^ 25 → masses * g * kernel_constant * 12288 * 2 ^ 20 < 2 ^ 100
factor_numerator-lt masses g few low = omega (arith, mul-le masses g (2 ^ 22) (2 ^ 25) few (omega arith))

greatest_factor-lt : (b : Bounds) → AreDrawnBounds b → greatest_factor 256 b < 2 ^ 20
greatest_factor-lt b are =
    let masses = mul-le b.mass.1 b.mass.1 2048 2048 (omega (arith, are.mass_high)) (omega (arith, are.mass_high)) in
    div-lt (b.mass.1 * b.mass.1 * greatest_ghost 256 b * kernel_constant * 12288 * 2 ^ 20) (b.h.0 * b.h.0 * b.h.0 * b.h.0 * b.h.0) (2 ^ 80) (2 ^ 20) (omega arith)
    (fifth-le 65536 b.h.0 are.h_low) (factor_numerator-lt (b.mass.1 * b.mass.1) (greatest_ghost 256 b) (omega arith) (greatest_ghost-lt b are))

force-lt : (count factor h : ℕ) → count ≤ most_particles → factor < 2 ^ 20 → h ≤ 131072 → 2 * count * factor * h < 2 ^ 54
force-lt count factor h few low short =
    omega (arith, mul-le (count * factor) h (2 ^ 15 * 2 ^ 20) (2 ^ 17) (mul-le count factor (2 ^ 15) (2 ^ 20) few (omega arith)) short)

greatest_force-lt : (b : Bounds) → AreDrawnBounds b → greatest_force 256 b < 2 ^ 54
greatest_force-lt b are = force-lt b.count (greatest_factor 256 b) b.h.1 are.count (greatest_factor-lt b are) are.h_high

greatest_momentum-le : (list : List Particle) → All IsDrawn list → greatest_momentum list ≤ 2 ^ 23
greatest_momentum-le list drawn =
    fold_max-le (2 ^ 23) 0 (flat_map (λ (p : Particle). map unsigned_abs p.p) list) (omega arith)
    (All-flat_map (λ x. x ≤ 2 ^ 23) (λ (p : Particle). map unsigned_abs p.p) list
    (All-weaker IsDrawn (λ p. All (λ x. x ≤ 2 ^ 23) (map unsigned_abs p.p)) (λ p is. All-map (λ x. x ≤ 2 ^ 23) unsigned_abs p.p is.momentum) list drawn))

-- the longest step of a seed
bins_of_seed : (P : ℕ → Type 0) (seed : ℕ) → P 0 → P 2 → P (lattice_params seed).bin_max
bins_of_seed P seed even odd =
    elim (cases_eq (seed % 2) 0) [
      | inl e ↦ rw (eq-eqb (seed % 2) 0 e) even
      | inr n ↦ rw (ne_eqb (seed % 2) 0 n) odd
    ]

-- so the momenta of the run stay small
bound-lt : (seed force most : ℕ) → force < 2 ^ 54 → most ≤ 2 ^ 23 → most + force * (2 * 4 + 2 ^ (lattice_params seed).bin_max) < 2 ^ 96
bound-lt seed force most weak small = bins_of_seed (λ bin. most + force * (2 * 4 + 2 ^ bin) < 2 ^ 96) seed (omega arith) (omega arith)

AreParamsInRange-lattice_params : (seed : ℕ) → AreParamsInRange (lattice_params seed)
AreParamsInRange-lattice_params seed = record {
  ticks = omega arith;
  every_low = omega arith;
  every_high = omega arith;
  bin_min = omega arith;
  bin_max = bins_of_seed (λ bin. bin ≤ 10) seed (omega arith) (omega arith);
  sound_low = omega arith;
  sound_high = omega arith;
  shift = omega arith;
  accuracy = omega arith;
  leaf_low = omega arith;
  leaf_high = omega arith;
  pairs_low = omega arith;
  pairs_high = omega arith;
  slack = omega arith;
}

-- a lattice has at least one particle, and at most as many as a deck may have
sites_low : (side : ℕ) → IsSide side → 1 ≤ side * side * side
sites_low side is = cube-le 1 side is.low

sites_high : (side : ℕ) → IsSide side → side * side * side ≤ most_particles
sites_high side is = cube-le side 32 is.high

-- the numbers of a lattice are accepted
pub AreAccepted-lattice : (side seed : ℕ) → IsSide side → AreAccepted (lattice_params seed) (lattice_particles side seed)
AreAccepted-lattice side seed is =
    let list = lattice_particles side seed in
    let drawn = AreDrawn side seed is in
    let some : 1 ≤ length list = omega (arith, length-lattice_particles side seed, sites_low side is) in
    let few : length list ≤ most_particles = omega (arith, length-lattice_particles side seed, sites_high side is) in
    record {
      in_range = record {
        params_in_range = AreParamsInRange-lattice_params seed;
        bodies = All-weaker IsDrawn IsBody (λ p is. record {
          mass = record { low = omega (arith, is.mass_low); high = omega (arith, is.mass_high) };
          h = record { low = omega (arith, is.h_low); high = omega (arith, is.h_high) };
          place = is.place;
        }) list drawn;
        momenta = All-weaker IsDrawn IsDeckMomentum (λ p is. All-weaker (λ z. unsigned_abs z ≤ 2 ^ 23) (λ z. unsigned_abs z < 2 ^ 63) (λ z low. omega arith) p.p is.momentum) list drawn;
        axes = All-weaker IsDrawn (λ (p : Particle). length p.p ≡ 3) (λ p is. is.axes) list drawn;
        some = some;
        not_too_many = few;
      };
      every = bins_of_seed (λ bin. 4 % 2 ^ bin ≡ 0) seed refl refl;
      ticks = refl;
      bins = bins_of_seed (λ bin. 0 ≤ bin) seed (omega arith) (omega arith);
      sums = bound-lt seed (greatest_force 256 (bounds_of list)) (greatest_momentum list) (greatest_force-lt (bounds_of list) (AreDrawnBounds-bounds_of list some few drawn))
          (greatest_momentum-le list drawn);
    }
