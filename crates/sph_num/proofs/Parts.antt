-- What one mass adds to the density: how large it gets, and that two divisions of 64 bits give it.
use Rattle.std.proofs.Common.{◌≡◌, ℕ, ◌+◌, ◌*◌, ◌/◌, ◌%◌, ◌^◌, ◌<◌, ◌≤◌, ap, sym, arith}
use Rattle.std.proofs.lemmas.Nat.{mul-le, mod_below}
use Rattle.std.proofs.Math.Nat.{mod-eq_of_lt}
use Rattle.sph_num.specs.Density.{density_part}
use Rattle.sph_num.specs.Kernel.{root_of, kernel_w, kernel_constant}
use Rattle.sph_num.specs.Ranges.{IsMass, IsLength}
use Rattle.sph_num.proofs.Divisions.{div-mul, div-lt}
use Rattle.sph_num.proofs.Spline.{kernel_w-le}

-- a mass times the kernel
pub weighted-le : (mass w : ℕ) → IsMass mass → w ≤ 2 ^ 30 → mass * 166886 * w ≤ 166886 * 2 ^ 46
weighted-le mass w is high = omega (arith, mul-le (mass * 166886) w (2 ^ 16 * 166886) (2 ^ 30) (omega (arith, is.high)) high)

-- a length's square, and its third power
pub square_low : (h : ℕ) → IsLength h → 2 ^ 20 ≤ h * h
square_low h is = mul-le (2 ^ 10) (2 ^ 10) h h is.low is.low

pub square_high : (h : ℕ) → IsLength h → h * h ≤ 2 ^ 34
square_high h is = mul-le h h (2 ^ 17) (2 ^ 17) is.high is.high

pub volume_low : (h : ℕ) → IsLength h → 2 ^ 30 ≤ h * h * h
volume_low h is = mul-le (2 ^ 20) (2 ^ 10) (h * h) h (square_low h is) is.low

pub volume_high : (h : ℕ) → IsLength h → h * h * h ≤ 2 ^ 51
volume_high h is = mul-le (h * h) h (2 ^ 34) (2 ^ 17) (square_high h is) is.high

-- two divisions of 64 bits give the scaled quotient
pub two_divisions : (n d : ℕ) → n < 2 ^ 64 → 2 ^ 30 ≤ d → d ≤ 2 ^ 51 → ((n / d) * 256) % 2 ^ 64 + (((n % d) * 256) % 2 ^ 64) / d ≡ (n * 256) / d
two_divisions n d small low high =
    let positive : 0 < d = omega arith in
    let whole : n / d < 2 ^ 34 = div-lt n d (2 ^ 30) (2 ^ 34) (omega arith) low (omega arith) in
    let rest : n % d < d = mod_below n d positive in
    let first : ((n / d) * 256) % 2 ^ 64 ≡ (n / d) * 256 = mod-eq_of_lt (omega arith) in
    let second : ((n % d) * 256) % 2 ^ 64 ≡ (n % d) * 256 = mod-eq_of_lt (omega arith) in
    rw (first, second) (sym (div-mul n d 256 positive))

-- what a mass adds is far within 64 bits
pub density_part-lt : (mass r2 h : ℕ) → IsMass mass → IsLength h → density_part mass r2 h < 2 ^ 42
unfolding density_part
density_part-lt mass r2 h is_mass is_length =
    let w = kernel_w (root_of r2 h) in
    let weighted = weighted-le mass w is_mass (kernel_w-le (root_of r2 h)) in
    div-lt (mass * kernel_constant * w * 2 ^ 8) (h * h * h) (2 ^ 30) (2 ^ 42) (omega arith) (volume_low h is_length) (omega (arith, weighted))

-- the scaled quotient from the kernel at the root
pub density_part-from : (mass r2 h w : ℕ) → w ≡ kernel_w (root_of r2 h) → (mass * 166886 * w * 2 ^ 8) / (h * h * h) ≡ density_part mass r2 h
unfolding density_part
density_part-from mass r2 h w is = ap (λ x. (mass * 166886 * x * 2 ^ 8) / (h * h * h)) is
