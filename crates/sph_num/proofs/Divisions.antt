-- Quotients rounded down: a scaled one in two steps, and how large they get.
use Rattle.std.proofs.Common.{◌≡◌, ℕ, ◌+◌, ◌*◌, ◌/◌, ◌%◌, ◌<◌, ◌≤◌, ap, arith}
use Rattle.std.proofs.lemmas.Nat.{div-add-mod', div_below, le-div, mul-le}
use Rattle.std.proofs.Math.Nat.{mul-add-div_right}

-- a scaled number over d in two divisions: its whole part scaled, and its rest scaled and divided
pub div-mul : (n d k : ℕ) → 0 < d → (n * k) / d ≡ (n / d) * k + ((n % d) * k) / d
div-mul n d k positive =
    let split : n * k ≡ ((n / d) * k) * d + (n % d) * k = omega (arith, ap (λ x. x * k) (div-add-mod' n d)) in
    rw split (mul-add-div_right positive ((n / d) * k) ((n % d) * k))

-- a quotient is below m, if its number is below m times the least divisor
pub div-lt : (n d least m : ℕ) → 0 < least → least ≤ d → n < m * least → n / d < m
div-lt n d least m positive low fits =
    div_below n d m (omega arith) (omega (arith, mul-le m least m d (omega arith) low))

-- a quotient grows with its number, and falls with its divisor
pub div-le : (n d m e : ℕ) → 0 < e → n ≤ m → e ≤ d → n / d ≤ m / e
div-le n d m e positive more less =
    le-div (n / d) m e positive (omega (arith, mul-le (n / d) e (n / d) d (omega arith) less, div-add-mod' n d))
