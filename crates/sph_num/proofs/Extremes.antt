-- The least and the greatest of a list, which keep to what bounds its elements; a deck's bounds in range.
use Rattle.std.proofs.Common.{ℕ, max, ◌^◌, ◌<◌, ◌≤◌, List, ◌∷◌, length, map, get_or, arith, []}
use Rattle.std.specs.Prelude.{flat_map, unsigned_abs}
use Rattle.std.specs.List.{All}
use Rattle.std.proofs.lemmas.List.{length-map}
use Rattle.std.proofs.lemmas.List.Elements.{All-map, All-weaker}
use Rattle.lists.proofs.Extremes.{fold_min-ge, fold_min-le, fold_max-le, fold_max-ge, fold_max-lt}
use Rattle.lists.proofs.Elements.{All-flat_map}
use Rattle.sph_num.specs.declared.particle.Params.{Params}
use Rattle.sph_num.specs.declared.particle.Particle.{Particle}
use Rattle.sph_num.specs.Bound.{least_of, greatest_of, bounds_of, greatest_momentum, bound_of}
use Rattle.sph_num.specs.Ranges.{most_particles, IsBody, IsDeckMomentum, AreParamsInRange, AreBoundsInRange}
use Rattle.sph_num.proofs.Sums.{momentum_limit-lt}

-- the least of a list is between what bounds each element, and so is the greatest
pub least_of_within : (n m : ℕ) (xs : List ℕ) → 1 ≤ length xs → All (λ x. n ≤ x) xs → All (λ x. x ≤ m) xs → (n ≤ least_of xs) × (least_of xs ≤ m)
least_of_within n m xs some low high =
    (fold_min-ge n (get_or xs 0 0) xs (low 0 0 some) low, omega (arith, fold_min-le (get_or xs 0 0) xs, high 0 0 some))

pub greatest_of_within : (n m : ℕ) (xs : List ℕ) → 1 ≤ length xs → All (λ x. n ≤ x) xs → All (λ x. x ≤ m) xs → (n ≤ greatest_of xs) × (greatest_of xs ≤ m)
greatest_of_within n m [] some low high = absurd (omega arith)
greatest_of_within n m (x ∷ xs) some low high =
    (omega (arith, fold_max-ge (max 0 x) xs, low 0 0 some), fold_max-le m 0 (x ∷ xs) (omega arith) high)

-- the bounds of a deck's particles are in range
pub AreBoundsInRange-bounds_of : (list : List Particle) → 1 ≤ length list → length list ≤ most_particles → All IsBody list → AreBoundsInRange (bounds_of list)
AreBoundsInRange-bounds_of list some few bodies =
    let masses = map (λ (p : Particle). p.mass) list in
    let lengths = map (λ (p : Particle). p.h) list in
    let some_masses : 1 ≤ length masses = simp length-map some in
    let some_lengths : 1 ≤ length lengths = simp length-map some in
    let mass_low = All-map (λ x. 1 ≤ x) (λ (p : Particle). p.mass) list (All-weaker IsBody (λ p. 1 ≤ p.mass) (λ p is. is.mass.low) list bodies) in
    let mass_high = All-map (λ x. x ≤ 65536) (λ (p : Particle). p.mass) list (All-weaker IsBody (λ p. p.mass ≤ 65536) (λ p is. is.mass.high) list bodies) in
    let h_low = All-map (λ x. 1024 ≤ x) (λ (p : Particle). p.h) list (All-weaker IsBody (λ p. 1024 ≤ p.h) (λ p is. is.h.low) list bodies) in
    let h_high = All-map (λ x. x ≤ 131072) (λ (p : Particle). p.h) list (All-weaker IsBody (λ p. p.h ≤ 131072) (λ p is. is.h.high) list bodies) in
    let m0 = least_of_within 1 65536 masses some_masses mass_low mass_high in
    let m1 = greatest_of_within 1 65536 masses some_masses mass_low mass_high in
    let h0 = least_of_within 1024 131072 lengths some_lengths h_low h_high in
    let h1 = greatest_of_within 1024 131072 lengths some_lengths h_low h_high in
    record {
      count_low = some;
      count_high = few;
      least_mass = record { low = m0.0; high = m0.1 };
      greatest_mass = record { low = m1.0; high = m1.1 };
      least_h = record { low = h0.0; high = h0.1 };
      greatest_h = record { low = h1.0; high = h1.1 };
    }

-- a deck's momenta
pub greatest_momentum-lt : (list : List Particle) → All IsDeckMomentum list → greatest_momentum list < 2 ^ 63
greatest_momentum-lt list momenta =
    let sizes = flat_map (λ (p : Particle). map unsigned_abs p.p) list in
    let each : All (λ x. x < 2 ^ 63) sizes = All-flat_map (λ x. x < 2 ^ 63) (λ (p : Particle). map unsigned_abs p.p) list
    (All-weaker IsDeckMomentum (λ p. All (λ x. x < 2 ^ 63) (map unsigned_abs p.p)) (λ p is. All-map (λ x. x < 2 ^ 63) unsigned_abs p.p is) list momenta) in
    fold_max-lt (2 ^ 63) 0 sizes (omega arith) each

-- what the momenta of a deck's run may reach
pub bound_of-lt : (params : Params) (list : List Particle) → AreParamsInRange params → 1 ≤ length list → length list ≤ most_particles → All IsBody list → All IsDeckMomentum list → bound_of params list < 2 ^ 126
bound_of-lt params list in_range some few bodies momenta =
    momentum_limit-lt params (bounds_of list) (greatest_momentum list) in_range (AreBoundsInRange-bounds_of list some few bodies) (greatest_momentum-lt list momenta)
