-- How large a force gets: from the kernel's slope, the factor of a pair and the sum over a list, all within a deck's bounds.
use Rattle.std.proofs.Common.{◌≡◌, ℕ, zero, suc, ◌+◌, ◌*◌, ◌/◌, ◌^◌, ◌<◌, ◌≤◌, max, ℤ, pos, ◌*ℤ◌, unsigned_abs, List, [], ◌∷◌, length, get_or, All, Contains, inl, inr, ap, ◌∙◌, arith}
use Rattle.std.proofs.lemmas.Bool.{cases_lt}
use Rattle.std.proofs.lemmas.Bool.Decides.{nat_tests}
use Rattle.std.proofs.lemmas.Int.{ints, unsigned_abs-mul}
use Rattle.std.proofs.lemmas.List.Elements.{All-head, All-tail, All-contains}
use Rattle.std.proofs.lemmas.List.Sums.{get_or-le-sum_by}
use Rattle.std.proofs.lemmas.Nat.{mul-le}
use Rattle.std.proofs.Math.Nat.{mul-zero}
use Rattle.sph_num.specs.declared.particle.Bounds.{Bounds}
use Rattle.sph_num.specs.declared.particle.Particle.{Particle}
use Rattle.sph_num.specs.Bound.{least_density, greatest_ghost, greatest_factor, greatest_force}
use Rattle.sph_num.specs.Density.{density_part, density_within, density_of}
use Rattle.sph_num.specs.Force.{ghost_value, factor_within, force_factor, force_from, force_of}
use Rattle.sph_num.specs.Kernel.{root_of, kernel_u, kernel_constant}
use Rattle.sph_num.specs.Ranges.{AreBoundsInRange}
use Rattle.sph_num.specs.Space.{minimal, axis2, dist2}
use Rattle.sph_num.specs.Totals.{total_by, component}
use Rattle.sph_num.proofs.Divisions.{div-le}
use Rattle.sph_num.proofs.Slopes.{factor_within_outer, kernel_u-le}
use Rattle.sph_num.proofs.Spline.{cube-le}
use Rattle.sph_num.proofs.Sums.{dist2_self, kernel_w-root_of-zero, least_density-ge, minimal_self}

-- the fifth power of a length
fifth_power-le : (l h : ℕ) → l ≤ h → l * l * l * l * l ≤ h * h * h * h * h
fifth_power-le l h low =
    mul-le (l * l * l * l) l (h * h * h * h) h (mul-le (l * l * l) l (h * h * h) h (cube-le l h low) low) low

-- what one of a pair's lengths gives to the factor, from the greatest of each number
factor_quotient-le : (sound : ℕ) (b : Bounds) (masses g u h : ℕ) → AreBoundsInRange b → masses ≤ b.mass.1 * b.mass.1 → g ≤ greatest_ghost sound b → u ≤ 12288 → b.h.0 ≤ h → (masses * g * kernel_constant * u * 2 ^ 20) / (h * h * h * h * h) ≤ greatest_factor sound b
factor_quotient-le sound b masses g u h are few weak flat low =
    let most = b.mass.1 * b.mass.1 * greatest_ghost sound b in
    let strength : masses * g * kernel_constant ≤ most * kernel_constant = omega (arith, mul-le masses g (b.mass.1 * b.mass.1) (greatest_ghost sound b) few weak) in
    let numerator : masses * g * kernel_constant * u * 2 ^ 20 ≤ most * kernel_constant * 12288 * 2 ^ 20 = omega (arith, mul-le (masses * g * kernel_constant) u (most * kernel_constant) 12288 strength flat) in
    let positive = fifth_power-le 1024 b.h.0 are.least_h.low in
    div-le (masses * g * kernel_constant * u * 2 ^ 20) (h * h * h * h * h) (most * kernel_constant * 12288 * 2 ^ 20) (b.h.0 * b.h.0 * b.h.0 * b.h.0 * b.h.0)
    (omega arith) numerator (fifth_power-le b.h.0 h low)

pub factor_within-le : (sound : ℕ) (b : Bounds) (masses g r2 h : ℕ) → AreBoundsInRange b → masses ≤ b.mass.1 * b.mass.1 → g ≤ greatest_ghost sound b → b.h.0 ≤ h → factor_within masses g r2 h ≤ greatest_factor sound b
unfolding factor_within
factor_within-le sound b masses g r2 h are few weak low =
    let inner = factor_quotient-le sound b masses g (kernel_u (root_of r2 h)) h are few weak (kernel_u-le (root_of r2 h)) low in
    grind (arith, nat_tests)

-- a body's mass and length are within the bounds
pub record IsBodyWithin (b : Bounds) (body : Particle) : Type 0 where
  pub mass_low : b.mass.0 ≤ body.mass
  pub mass_high : body.mass ≤ b.mass.1
  pub h_low : b.h.0 ≤ body.h
  pub h_high : body.h ≤ b.h.1

-- a number with a lesser square is less
pub lt-from_squares : (d h : ℕ) → d * d < h * h → d < h
lt-from_squares d h less =
    elim (cases_lt d h) [
      | inl below ↦ below
      | inr high ↦ absurd (omega (arith, mul-le h h d d high high))
    ]

-- a factor times an offset d of the pair: there is none from the length on, and in reach the offset is less than the length
factor_offset-le : (sound : ℕ) (b : Bounds) (masses g r2 h d : ℕ) → AreBoundsInRange b → masses ≤ b.mass.1 * b.mass.1 → g ≤ greatest_ghost sound b → b.h.0 ≤ h → h ≤ b.h.1 → d * d ≤ r2 → factor_within masses g r2 h * d ≤ greatest_factor sound b * b.h.1
factor_offset-le sound b masses g r2 h d are few weak low high near =
    elim (cases_lt r2 (h * h)) [
      | inl reach ↦
          let less = lt-from_squares d h (omega arith) in
          mul-le (factor_within masses g r2 h) d (greatest_factor sound b) b.h.1 (factor_within-le sound b masses g r2 h are few weak low) (omega arith)
      | inr beyond ↦ omega (arith, mul-le (factor_within masses g r2 h) d 0 d (omega (arith, factor_within_outer masses g r2 h beyond)) (omega arith))
    ]

-- the square of each axis is within that of the distance
pub axis2-le : (a b : List ℕ) (axis : ℕ) → axis < 3 → axis2 a b axis ≤ dist2 a b
axis2-le a b zero h = omega arith
axis2-le a b (suc zero) h = omega arith
axis2-le a b (suc (suc zero)) h = omega arith
axis2-le a b (suc (suc (suc axis))) h = absurd (omega arith)

pub force_factor_out_of_reach : (mi mj h h' gi gj r2 : ℕ) → max h h' * max h h' ≤ r2 → force_factor (mi ∷ mj ∷ []) (h ∷ h' ∷ []) (gi ∷ gj ∷ []) r2 ≡ 0
force_factor_out_of_reach mi mj h h' gi gj r2 beyond =
    let first = mul-le h h (max h h') (max h h') (omega arith) (omega arith) in
    let second = mul-le h' h' (max h h') (max h h') (omega arith) (omega arith) in
    omega (arith, factor_within_outer (mi * mj) gi r2 h (omega arith), factor_within_outer (mi * mj) gj r2 h' (omega arith))

-- the sum of two factors times an offset, from each of them times the offset
sum_offset-le : (m n factor length : ℕ) (z : ℤ) → m * unsigned_abs z ≤ factor * length → n * unsigned_abs z ≤ factor * length → unsigned_abs (pos (m + n) *ℤ z) ≤ 2 * factor * length
sum_offset-le m n factor length z first second = omega (arith, unsigned_abs-mul (pos (m + n)) z)

-- the force of one body on another, on an axis of the box
pub force_from-le : (sound : ℕ) (b : Bounds) (place : Particle → List ℕ) (g : Particle → ℕ) (axis : ℕ) (i j : Particle) → AreBoundsInRange b → IsBodyWithin b i → IsBodyWithin b j → g i ≤ greatest_ghost sound b → g j ≤ greatest_ghost sound b → axis < 3 → unsigned_abs (force_from place g axis i j) ≤ 2 * greatest_factor sound b * b.h.1
force_from-le sound b place g axis i j are first second low_i low_j real =
    let offset = minimal (get_or (place i) axis 0) (get_or (place j) axis 0) in
    let r2 = dist2 (place i) (place j) in
    let both = mul-le i.mass j.mass b.mass.1 b.mass.1 first.mass_high second.mass_high in
    let near = axis2-le (place i) (place j) axis real in
    sum_offset-le (factor_within (i.mass * j.mass) (g i) r2 i.h) (factor_within (i.mass * j.mass) (g j) r2 j.h) (greatest_factor sound b) b.h.1 offset
    (factor_offset-le sound b (i.mass * j.mass) (g i) r2 i.h (unsigned_abs offset) are both low_i first.h_low first.h_high near)
    (factor_offset-le sound b (i.mass * j.mass) (g j) r2 j.h (unsigned_abs offset) are both low_j second.h_low second.h_high near)

-- a sum of signed numbers of a bounded size
pub total_by-le : {A : Type 0} (f : A → ℤ) (n : ℕ) (xs : List A) → All (λ x. unsigned_abs (f x) ≤ n) xs → unsigned_abs (total_by f xs) ≤ length xs * n
total_by-le f n [] each = omega arith
total_by-le f n (x ∷ xs) each =
    let first : unsigned_abs (f x) ≤ n = All-head (λ x. unsigned_abs (f x) ≤ n) x xs each in
    let rest = total_by-le f n xs (All-tail (λ x. unsigned_abs (f x) ≤ n) x xs each) in
    omega (arith, ints)

-- the sum of the forces on a body of the list, on an axis of the box
total_force-le : (sound : ℕ) (b : Bounds) (place : Particle → List ℕ) (g : Particle → ℕ) (list : List Particle) (i : Particle) → AreBoundsInRange b → length list ≡ b.count → All (IsBodyWithin b) list → All (λ j. g j ≤ greatest_ghost sound b) list → Contains list i → (axis : ℕ) → axis < 3 → unsigned_abs (total_by (λ j. force_from place g axis i j) list) ≤ greatest_force sound b
total_force-le sound b place g list i are count bodies ghosts at axis real =
    let body = All-contains (IsBodyWithin b) list i bodies at in
    let low = All-contains (λ j. g j ≤ greatest_ghost sound b) list i ghosts at in
    let most = 2 * greatest_factor sound b * b.h.1 in
    let total = total_by-le (λ j. force_from place g axis i j) most list (λ k d inside. force_from-le sound b place g axis i (get_or list k d) are body (bodies k d inside) low (ghosts k d inside) real) in
    omega (arith, ap (λ n. n * most) count)

-- the force on a body of the list, on each axis
pub force_of-le : (sound : ℕ) (b : Bounds) (place : Particle → List ℕ) (g : Particle → ℕ) (list : List Particle) (i : Particle) → AreBoundsInRange b → length list ≡ b.count → All (IsBodyWithin b) list → All (λ j. g j ≤ greatest_ghost sound b) list → Contains list i → (axis : ℕ) → unsigned_abs (component (force_of place g list i) axis) ≤ greatest_force sound b
force_of-le sound b place g list i are count bodies ghosts at zero = total_force-le sound b place g list i are count bodies ghosts at 0 (omega arith)
force_of-le sound b place g list i are count bodies ghosts at (suc zero) = total_force-le sound b place g list i are count bodies ghosts at 1 (omega arith)
force_of-le sound b place g list i are count bodies ghosts at (suc (suc zero)) = total_force-le sound b place g list i are count bodies ghosts at 2 (omega arith)
force_of-le sound b place g list i are count bodies ghosts at (suc (suc (suc axis))) = omega arith

-- a particle gives itself no force
pub force_from_self : (place : Particle → List ℕ) (g : Particle → ℕ) (axis : ℕ) (i : Particle) → force_from place g axis i i ≡ pos 0
force_from_self place g axis i =
    let factor = force_factor (i.mass ∷ i.mass ∷ []) (i.h ∷ i.h ∷ []) (g i ∷ g i ∷ []) (dist2 (place i) (place i)) in
    ap (λ z. pos factor *ℤ z) (minimal_self (get_or (place i) axis 0)) ∙ ap pos (mul-zero factor)

-- what a body adds to the density at its own place
own_part-ge : (b : Bounds) (mass h : ℕ) → b.mass.0 ≤ mass → h ≤ b.h.1 → 1 ≤ h → least_density b ≤ density_part mass 0 h
unfolding density_part
own_part-ge b mass h heavy short low =
    rw (kernel_w-root_of-zero h low) (div-le (b.mass.0 * kernel_constant * 2 ^ 38) (b.h.1 * b.h.1 * b.h.1) (mass * kernel_constant * 2 ^ 30 * 2 ^ 8) (h * h * h)
    (cube-le 1 h low) (omega arith) (cube-le h b.h.1 short))

own_density-ge : (b : Bounds) (mass h : ℕ) → b.mass.0 ≤ mass → h ≤ b.h.1 → 1 ≤ h → least_density b ≤ density_within mass 0 h
own_density-ge b mass h heavy short low =
    let part = own_part-ge b mass h heavy short low in
    let reach = mul-le 1 1 h h low low in
    grind (arith, nat_tests)

-- the density at a body of the list is not less than that of the least mass alone
pub density_of-ge : (b : Bounds) (place : Particle → List ℕ) (list : List Particle) (i : Particle) → AreBoundsInRange b → IsBodyWithin b i → Contains list i → least_density b ≤ density_of place list i
density_of-ge b place list i are body at =
    let part = λ (j : Particle). density_within j.mass (dist2 (place i) (place j)) i.h in
    let one = get_or-le-sum_by part list at.0 i at.1 in
    let here : part (get_or list at.0 i) ≡ part i = ap part at.2 in
    let alone : part i ≡ density_within i.mass 0 i.h = ap (λ d. density_within i.mass d i.h) (dist2_self (place i)) in
    let low = own_density-ge b i.mass i.h body.mass_low body.h_high (omega (arith, are.least_h.low, body.h_low)) in
    omega arith

-- so its ghost is not more than that one's
pub ghost_value-le : (sound : ℕ) (b : Bounds) (place : Particle → List ℕ) (list : List Particle) (i : Particle) → AreBoundsInRange b → IsBodyWithin b i → Contains list i → ghost_value sound (density_of place list i) ≤ greatest_ghost sound b
ghost_value-le sound b place list i are body at =
    div-le (sound * 2 ^ 30) (density_of place list i) (sound * 2 ^ 30) (least_density b) (omega (arith, least_density-ge b are)) (omega arith) (density_of-ge b place list i are body at)
