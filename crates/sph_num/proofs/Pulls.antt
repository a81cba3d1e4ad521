-- The parts of a factor: how large they get, and that with the other's weight they give it.
use Rattle.std.proofs.Common.{◌≡◌, ℕ, ◌+◌, ◌*◌, ◌/◌, ◌%◌, ◌^◌, ◌<◌, ◌≤◌, ap, sym, refl, ◌∙◌, arith}
use Rattle.std.proofs.lemmas.Nat.{mul-le}
use Rattle.sph_num.specs.Force.{factor_within}
use Rattle.sph_num.specs.Kernel.{kernel_constant}
use Rattle.sph_num.specs.inner.Parts.{slope_within, strength_of, fifth_power}
use Rattle.sph_num.specs.Pull.{Puller, pair_factor}
use Rattle.sph_num.specs.Ranges.{IsMass, IsLength}
use Rattle.sph_num.proofs.Divisions.{div-mul}
use Rattle.sph_num.proofs.Parts.{square_high, volume_high}
use Rattle.sph_num.proofs.Slopes.{factor_quotient-lt, factor_within-is}

-- a length's fifth power, as the code multiplies it
pub fifth_power-is : (h : ℕ) → (h * h) * (h * h) * h ≡ fifth_power h
fifth_power-is h = omega arith

pub fifth_power_high : (h : ℕ) → IsLength h → fifth_power h ≤ 2 ^ 85
fifth_power_high h is = omega (arith, mul-le (h * h * h) (h * h) (2 ^ 51) (2 ^ 34) (volume_high h is) (square_high h is))

-- a strength, as the code computes it
pub strength-lt : (mass g : ℕ) → IsMass mass → g < 2 ^ 42 → strength_of mass g < 2 ^ 96
strength-lt mass g is small = omega (arith, mul-le mass g (2 ^ 16) (2 ^ 42) is.high (omega arith))

pub strength-is : (mass g : ℕ) → IsMass mass → g < 2 ^ 42 → (((mass * 166886) * g) * 1048576) % 2 ^ 128 ≡ strength_of mass g
strength-is mass g is small =
    let below = strength-lt mass g is small in
    omega arith

-- the whole part times a weight, and the rest times it over the divisor
pub joined : (strength fifth weight whole part : ℕ) → 0 < fifth → whole ≡ strength / fifth → part ≡ (weight * (strength % fifth)) / fifth → whole * weight + part ≡ (strength * weight) / fifth
joined strength fifth weight whole part some whole_is part_is =
    let turned : (strength % fifth) * weight ≡ weight * (strength % fifth) = omega arith in
    rw (whole_is, part_is, ← turned) (sym (div-mul strength fifth weight some))

-- a factor, from the strength of the one and the weight of the other
from_strength : (mass other g u : ℕ) → strength_of mass g * (other * u) ≡ mass * other * g * kernel_constant * u * 2 ^ 20
from_strength mass other g u = omega arith

pub strong-lt : (mass other g u h : ℕ) → IsMass mass → IsMass other → g < 2 ^ 42 → u ≤ 12288 → IsLength h → (strength_of mass g * (other * u)) / fifth_power h < 2 ^ 75
strong-lt mass other g u h is is_other small flat is_length =
    rw (from_strength mass other g u)
    (factor_quotient-lt (mass * other) g u h (mul-le mass other (2 ^ 16) (2 ^ 16) is.high is_other.high) small flat is_length)

strong-is : (mass other g r2 h u : ℕ) → u ≡ slope_within r2 h → (strength_of mass g * (other * u)) / fifth_power h ≡ factor_within (mass * other) g r2 h
strong-is mass other g r2 h u slope =
    ap (λ n. n / fifth_power h) (from_strength mass other g u)
    ∙ ap (λ x. (mass * other * g * kernel_constant * x * 2 ^ 20) / fifth_power h) slope
    ∙ sym (factor_within-is (mass * other) g r2 h)

-- the two factors of a pair, each from its slope
pub pair_factor-is : (i j : Puller) (r2 u v : ℕ) → u ≡ slope_within r2 i.h → v ≡ slope_within r2 j.h
    → (strength_of i.mass i.g * (j.mass * u)) / fifth_power i.h + (strength_of j.mass j.g * (i.mass * v)) / fifth_power j.h ≡ pair_factor i j r2
pair_factor-is i j r2 u v slope slope' =
    let turned : j.mass * i.mass ≡ i.mass * j.mass = omega arith in
    rw (strong-is i.mass j.mass i.g r2 i.h u slope, strong-is j.mass i.mass j.g r2 j.h v slope', turned) refl
