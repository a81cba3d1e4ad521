-- How large the sums of a run get: the density at a particle, and the limits from a deck's bounds.
use Rattle.std.proofs.Common.{◌≡◌, ℕ, ◌+◌, ◌-◌, ◌*◌, ◌/◌, ◌^◌, ◌<◌, ◌≤◌, List, length, get_or, ap, ◌∙◌, arith}
use Rattle.std.specs.List.{All}
use Rattle.std.specs.Prelude.{pos, ◌+ℤ◌, ◌-ℤ◌, unsigned_abs}
use Rattle.std.specs.Int.{int_rem_euclid}
use Rattle.std.proofs.lemmas.Int.{ints}
use Rattle.std.proofs.lemmas.Nat.{mul-le, le-div}
use Rattle.std.proofs.lemmas.Bool.Decides.{nat_tests}
use Rattle.std.proofs.lemmas.List.Elements.{All-weaker}
use Rattle.std.proofs.lemmas.List.Sums.{sum_by-le}
use Rattle.std.proofs.Math.Nat.{pow-le-pow_right}
use Rattle.sph_num.specs.declared.particle.Bounds.{Bounds}
use Rattle.sph_num.specs.declared.particle.Params.{Params}
use Rattle.sph_num.specs.declared.particle.Particle.{Particle}
use Rattle.sph_num.specs.Bound.{least_density, greatest_ghost, greatest_factor, greatest_force, momentum_limit}
use Rattle.sph_num.specs.Density.{density_within, density_of}
use Rattle.sph_num.specs.Kernel.{kernel_w, kernel_constant, root_of}
use Rattle.sph_num.specs.Ranges.{most_particles, IsMass, IsLength, IsBody, AreParamsInRange, AreBoundsInRange}
use Rattle.sph_num.specs.Space.{box_side, minimal, axis2, dist2}
use Rattle.sph_num.proofs.Divisions.{div-lt}
use Rattle.sph_num.proofs.Parts.{density_part-lt, volume_low, volume_high}
use Rattle.sph_num.proofs.Roots.{root_of-is}
use Rattle.sph_num.proofs.Slopes.{factor_numerator-lt, factor_quotient-lt}
use Rattle.sph_num.proofs.Spline.{kernel_w_inner}

-- what a mass adds to the density at any distance
pub density_within-lt : (mass r2 h : ℕ) → IsMass mass → IsLength h → density_within mass r2 h < 2 ^ 46
density_within-lt mass r2 h is_mass is_length =
    let part = density_part-lt mass r2 h is_mass is_length in
    grind (arith, nat_tests)

-- the density of no more than 32,768 bodies
pub density_of-lt : (place : Particle → List ℕ) (list : List Particle) (i : Particle) → All IsBody list → length list ≤ most_particles → IsBody i → density_of place list i < 2 ^ 61
density_of-lt place list i bodies few body =
    let part = λ (j : Particle). density_within j.mass (dist2 (place i) (place j)) i.h in
    let each = All-weaker IsBody (λ j. part j ≤ 2 ^ 46 - 1) (λ j is. let below = density_within-lt j.mass (dist2 (place i) (place j)) i.h is.mass body.h in omega arith) list bodies in
    let total = sum_by-le part (2 ^ 46 - 1) list each in
    omega (arith, mul-le (length list) (2 ^ 46 - 1) 32768 (2 ^ 46 - 1) few (omega arith))

-- the root and the kernel at no distance
root_of-zero : (h : ℕ) → 1 ≤ h → root_of 0 h ≡ 0
root_of-zero h low = root_of-is 0 h 0 low (record { within = omega arith; above = omega (arith, mul-le 1 1 h h low low) })

pub kernel_w-root_of-zero : (h : ℕ) → 1 ≤ h → kernel_w (root_of 0 h) ≡ 2 ^ 30
kernel_w-root_of-zero h low = ap kernel_w (root_of-zero h low) ∙ kernel_w_inner 0 (omega arith)

-- the minimal image of a number minus itself is 0
pub minimal_self : (x : ℕ) → minimal x x ≡ pos 0
minimal_self x =
    let none : pos x -ℤ pos x ≡ pos 0 = omega (arith, ints) in
    ap (λ z. int_rem_euclid (z +ℤ pos (2 ^ 19)) (pos box_side) -ℤ pos (2 ^ 19)) none

-- so is the square on each axis
axis2_self : (a : List ℕ) (axis : ℕ) → axis2 a a axis ≡ 0
axis2_self a axis = ap (λ z. unsigned_abs z * unsigned_abs z) (minimal_self (get_or a axis 0))

-- a place is at no distance of itself
pub dist2_self : (a : List ℕ) → dist2 a a ≡ 0
dist2_self a = omega (arith, axis2_self a 0, axis2_self a 1, axis2_self a 2)

-- a product of numbers within their bounds
mul3-le : (a b c l m n : ℕ) → a ≤ l → b ≤ m → c ≤ n → a * b * c ≤ l * m * n
mul3-le a b c l m n p q r = mul-le (a * b) c (l * m) n (mul-le a b l m p q) r

least_density_at_least : (mass h : ℕ) → IsMass mass → IsLength h → 20 ≤ (mass * kernel_constant * 2 ^ 38) / (h * h * h)
least_density_at_least mass h is_mass is_length =
    le-div 20 (mass * kernel_constant * 2 ^ 38) (h * h * h) (omega (arith, volume_low h is_length)) (omega (arith, is_mass.low, volume_high h is_length))

-- pressure over the square of a density of 20 or more
ghost_below : (sound density : ℕ) → sound ≤ 65536 → 20 ≤ density → (sound * 2 ^ 30) / density < 2 ^ 42
ghost_below sound density high low = div-lt (sound * 2 ^ 30) density 20 (2 ^ 42) (omega arith) low (omega arith)

-- the product of two masses
masses_high : (mass : ℕ) → IsMass mass → mass * mass ≤ 2 ^ 32
masses_high mass is = mul-le mass mass (2 ^ 16) (2 ^ 16) is.high is.high

-- a force of all particles
force_below : (count factor h : ℕ) → count ≤ most_particles → factor < 2 ^ 75 → IsLength h → 2 * count * factor * h < 2 ^ 108
force_below count factor h few below is =
    omega (arith, mul3-le count factor h 32768 (2 ^ 75 - 1) 131072 few (omega arith) is.high)

-- the momentum of a run
momentum_below : (force ticks bin pmax : ℕ) → force < 2 ^ 108 → ticks ≤ 65536 → bin ≤ 10 → pmax < 2 ^ 63 → pmax + force * (2 * ticks + 2 ^ bin) < 2 ^ 126
momentum_below force ticks bin pmax weak short fine small =
    let step : 2 ^ bin ≤ 2 ^ 10 = pow-le-pow_right (omega arith) fine in
    omega (arith, mul-le force (2 * ticks + 2 ^ bin) (2 ^ 108) (2 ^ 17 + 2 ^ 10) (omega arith) (omega arith))

-- the limits of specs/Bound, at bounds in range
pub least_density-ge : (b : Bounds) → AreBoundsInRange b → 20 ≤ least_density b
least_density-ge b are = least_density_at_least b.mass.0 b.h.1 are.least_mass are.greatest_h

pub greatest_ghost-lt : (sound : ℕ) (b : Bounds) → sound ≤ 65536 → AreBoundsInRange b → greatest_ghost sound b < 2 ^ 42
greatest_ghost-lt sound b high are = ghost_below sound (least_density b) high (least_density-ge b are)

pub greatest_factor_numerator-lt : (sound : ℕ) (b : Bounds) → sound ≤ 65536 → AreBoundsInRange b → b.mass.1 * b.mass.1 * greatest_ghost sound b * kernel_constant * 12288 * 2 ^ 20 < 2 ^ 125
greatest_factor_numerator-lt sound b high are =
    factor_numerator-lt (b.mass.1 * b.mass.1) (greatest_ghost sound b) 12288 (masses_high b.mass.1 are.greatest_mass) (greatest_ghost-lt sound b high are) (omega arith)

pub greatest_factor-lt : (sound : ℕ) (b : Bounds) → sound ≤ 65536 → AreBoundsInRange b → greatest_factor sound b < 2 ^ 75
greatest_factor-lt sound b high are =
    factor_quotient-lt (b.mass.1 * b.mass.1) (greatest_ghost sound b) 12288 b.h.0 (masses_high b.mass.1 are.greatest_mass) (greatest_ghost-lt sound b high are) (omega arith) are.least_h

pub greatest_force-lt : (sound : ℕ) (b : Bounds) → sound ≤ 65536 → AreBoundsInRange b → greatest_force sound b < 2 ^ 108
greatest_force-lt sound b high are = force_below b.count (greatest_factor sound b) b.h.1 are.count_high (greatest_factor-lt sound b high are) are.greatest_h

pub momentum_limit-lt : (params : Params) (b : Bounds) (pmax : ℕ) → AreParamsInRange params → AreBoundsInRange b → pmax < 2 ^ 63 → momentum_limit params b pmax < 2 ^ 126
momentum_limit-lt params b pmax in_range are small =
    momentum_below (greatest_force params.sound b) params.ticks params.bin_max pmax (greatest_force-lt params.sound b in_range.sound_high are) in_range.ticks in_range.bin_max small
