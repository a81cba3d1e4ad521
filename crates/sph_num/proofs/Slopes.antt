-- The kernel's slope, and what one length gives to the factor of a force: how large they get.
use Rattle.std.proofs.Common.{◌≡◌, ℕ, ◌-◌, ◌*◌, ◌/◌, ◌^◌, ◌<◌, ◌≤◌, inl, inr, sym, ap, ◌∙◌, arith, rules, tests}
use Rattle.std.proofs.lemmas.Bool.{cases_lt}
use Rattle.std.proofs.lemmas.Nat.{mul-le}
use Rattle.std.proofs.Math.Nat.{zero-div}
use Rattle.sph_num.specs.Force.{factor_within}
use Rattle.sph_num.specs.Kernel.{kernel_u, kernel_constant, root_of}
use Rattle.sph_num.specs.inner.Parts.{slope_within}
use Rattle.sph_num.specs.Ranges.{IsLength}
use Rattle.sph_num.proofs.Divisions.{div-lt}
use Rattle.sph_num.proofs.Parts.{volume_low}
use Rattle.sph_num.proofs.Roots.{root_of-lt}

-- the line and the quotient
pub kernel_u_inner : (s : ℕ) → s ≤ 512 → kernel_u s ≡ 12288 - 18 * s
unfolding kernel_u
kernel_u_inner s h = search (rules, tests)

pub kernel_u_outer : (s : ℕ) → 512 < s → kernel_u s ≡ (6 * ((1024 - s) * (1024 - s))) / s
unfolding kernel_u
kernel_u_outer s h = search (rules, tests)

-- the quotient is less than the slope at no distance
quotient-lt : (s : ℕ) → 512 < s → (6 * ((1024 - s) * (1024 - s))) / s < 12288
quotient-lt s h =
    let square = mul-le (1024 - s) (1024 - s) 512 512 (omega arith) (omega arith) in
    div-lt (6 * ((1024 - s) * (1024 - s))) s 512 12288 (omega arith) (omega arith) (omega arith)

-- the slope is greatest at no distance
pub kernel_u-le : (s : ℕ) → kernel_u s ≤ 12288
kernel_u-le s =
    elim (cases_lt 512 s) [
      | inl h ↦ omega (arith, kernel_u_outer s h, quotient-lt s h)
      | inr h ↦ omega (arith, kernel_u_inner s h)
    ]

-- the numerator of a factor, from a slope u
pub factor_numerator-lt : (masses g u : ℕ) → masses ≤ 2 ^ 32 → g < 2 ^ 42 → u ≤ 12288 → masses * g * kernel_constant * u * 2 ^ 20 < 2 ^ 125
factor_numerator-lt masses g u few below high =
    let strength = mul-le masses g (2 ^ 32) (2 ^ 42) few (omega arith) in
    omega (arith, mul-le (masses * g * 166886) u (2 ^ 74 * 166886) 12288 (omega arith) high)

-- a length's fifth power
pub fifth_power_low : (h : ℕ) → IsLength h → 2 ^ 50 ≤ h * h * h * h * h
fifth_power_low h is =
    mul-le (2 ^ 40) (2 ^ 10) (h * h * h * h) h (mul-le (2 ^ 30) (2 ^ 10) (h * h * h) h (volume_low h is) is.low) is.low

-- the factor that a slope u gives
pub factor_quotient-lt : (masses g u h : ℕ) → masses ≤ 2 ^ 32 → g < 2 ^ 42 → u ≤ 12288 → IsLength h → (masses * g * kernel_constant * u * 2 ^ 20) / (h * h * h * h * h) < 2 ^ 75
factor_quotient-lt masses g u h few below high is =
    let numerator = factor_numerator-lt masses g u few below high in
    div-lt (masses * g * kernel_constant * u * 2 ^ 20) (h * h * h * h * h) (2 ^ 50) (2 ^ 75) (omega arith) (fifth_power_low h is) (omega arith)

-- within the length, and from it on
pub factor_within_inner : (masses g r2 h : ℕ) → r2 < h * h → factor_within masses g r2 h ≡ (masses * g * kernel_constant * kernel_u (root_of r2 h) * 2 ^ 20) / (h * h * h * h * h)
unfolding factor_within
factor_within_inner masses g r2 h reach = search (rules, tests)

pub factor_within_outer : (masses g r2 h : ℕ) → h * h ≤ r2 → factor_within masses g r2 h ≡ 0
unfolding factor_within
factor_within_outer masses g r2 h beyond = search (rules, tests)

-- what one length gives to the factor of a pair
pub factor_within-lt : (masses g r2 h : ℕ) → masses ≤ 2 ^ 32 → g < 2 ^ 42 → IsLength h → factor_within masses g r2 h < 2 ^ 75
factor_within-lt masses g r2 h few below is =
    elim (cases_lt r2 (h * h)) [
      | inl reach ↦
          let root = root_of-lt r2 h (omega (arith, is.low)) reach in
          let factor = factor_quotient-lt masses g (kernel_u (root_of r2 h)) h few below (kernel_u-le (root_of r2 h)) is in
          omega (arith, factor_within_inner masses g r2 h reach)
      | inr beyond ↦ omega (arith, factor_within_outer masses g r2 h beyond)
    ]

-- the slope, from the square of a distance
pub slope_within_inner : (r2 h : ℕ) → r2 < h * h → slope_within r2 h ≡ kernel_u (root_of r2 h)
unfolding slope_within
slope_within_inner r2 h reach = search (rules, tests)

pub slope_within_outer : (r2 h : ℕ) → h * h ≤ r2 → slope_within r2 h ≡ 0
unfolding slope_within
slope_within_outer r2 h beyond = search (rules, tests)

-- what one length gives, from that slope at any distance
pub factor_within-is : (masses g r2 h : ℕ) → factor_within masses g r2 h ≡ (masses * g * kernel_constant * slope_within r2 h * 2 ^ 20) / (h * h * h * h * h)
factor_within-is masses g r2 h =
    let by = λ (u : ℕ). (masses * g * kernel_constant * u * 2 ^ 20) / (h * h * h * h * h) in
    elim (cases_lt r2 (h * h)) [
      | inl reach ↦ factor_within_inner masses g r2 h reach ∙ ap by (sym (slope_within_inner r2 h reach))
      | inr beyond ↦ factor_within_outer masses g r2 h beyond ∙ sym (ap by (slope_within_outer r2 h beyond) ∙ none masses g (h * h * h * h * h))
    ]
  where
    none : (masses g d : ℕ) → (masses * g * kernel_constant * 0 * 2 ^ 20) / d ≡ 0
    none masses g d =
        let nothing : masses * g * kernel_constant * 0 * 2 ^ 20 ≡ 0 = omega arith in
        ap (λ n. n / d) nothing ∙ zero-div d
