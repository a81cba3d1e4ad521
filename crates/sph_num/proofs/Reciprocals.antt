-- A quotient by a reciprocal: it lies between two quotients by the reciprocal's scale.
use Rattle.std.proofs.Common.{◌≡◌, ℕ, ◌+◌, ◌*◌, ◌/◌, ◌%◌, ◌^◌, ◌<◌, ◌≤◌, ap, sym, arith}
use Rattle.std.proofs.lemmas.Nat.{div-add-mod', div_below, le-div, mul-le, mod_below}
use Rattle.std.proofs.Math.Nat.{le_of_mul-le-mul_right}
use Rattle.sph_num.proofs.Divisions.{div-mul}

module _ (n s d k m : ℕ) (some : 0 < d) (scaled : 0 < k) (is : m ≡ (k * s) / d) where
  -- the reciprocal and the next number, over the divisor
  fits : m * d ≤ k * s
  fits = omega (arith, div-add-mod' (k * s) d, ap (λ x. x * d) is)

  exceeds : k * s ≤ m * d + d
  exceeds = omega (arith, div-add-mod' (k * s) d, mod_below (k * s) d some, ap (λ x. x * d) is)

  -- n times the reciprocal gives no more than the quotient
  pub quotient_from_below : (n * m) / k ≤ (n * s) / d
  quotient_from_below =
      let q = (n * m) / k in
      let first : q * k * d ≤ n * m * d = mul-le (q * k) d (n * m) d (omega (arith, div-add-mod' (n * m) k)) (omega arith) in
      let second : n * (m * d) ≤ n * (k * s) = mul-le n (m * d) n (k * s) (omega arith) fits in
      let both : q * d * k ≤ n * s * k = omega arith in
      le-div q (n * s) d some (le_of_mul-le-mul_right both scaled)

  -- n times the next number gives no less
  pub quotient_from_above : (n * s) / d ≤ (n * m + n) / k
  quotient_from_above =
      let q = (n * s) / d in
      let first : q * d * k ≤ n * s * k = mul-le (q * d) k (n * s) k (omega (arith, div-add-mod' (n * s) d)) (omega arith) in
      let second : n * (k * s) ≤ n * (m * d + d) = mul-le n (k * s) n (m * d + d) (omega arith) exceeds in
      let both : q * k * d ≤ (n * m + n) * d = omega arith in
      le-div q (n * m + n) k scaled (le_of_mul-le-mul_right both some)

  -- where the two are one, it is the quotient
  pub quotient_between : (n * m) / k ≡ (n * m + n) / k → (n * m) / k ≡ (n * s) / d
  quotient_between same = omega (arith, quotient_from_below, quotient_from_above)

-- 2^64 times a rest over its divisor, in two divisions of 128 bits
pub two_steps : (rest d : ℕ) → rest < d → d ≤ 2 ^ 85 → (((rest * 2 ^ 32) % 2 ^ 128 / d) * 2 ^ 32) % 2 ^ 128 + ((((rest * 2 ^ 32) % 2 ^ 128) % d) * 2 ^ 32) % 2 ^ 128 / d ≡ (2 ^ 64 * rest) / d
two_steps rest d less small =
    let some : 0 < d = omega arith in
    let scaled = rest * 2 ^ 32 in
    let whole : scaled % 2 ^ 128 ≡ scaled = omega arith in
    let high : scaled / d < 2 ^ 32 = div_below scaled d (2 ^ 32) some (omega arith) in
    let low : scaled % d < d = mod_below scaled d some in
    let first : ((scaled / d) * 2 ^ 32) % 2 ^ 128 ≡ (scaled / d) * 2 ^ 32 = omega arith in
    let second : ((scaled % d) * 2 ^ 32) % 2 ^ 128 ≡ (scaled % d) * 2 ^ 32 = omega arith in
    let all : 2 ^ 64 * rest ≡ scaled * 2 ^ 32 = omega arith in
    rw (whole, first, second, all) (sym (div-mul scaled d (2 ^ 32) some))
