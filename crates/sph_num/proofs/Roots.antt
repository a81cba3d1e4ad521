-- The greatest number that passes a test, and what it says of a distance in 1024ths of a length.
use Rattle.std.proofs.Common.{◌≡◌, ℕ, zero, suc, ◌+◌, ◌*◌, ◌^◌, ◌<◌, ◌≤◌, Bool, true, false, leb, cond, inl, inr, arith, rules, tests}
use Rattle.std.proofs.lemmas.Nat.{mul-le}
use Rattle.std.proofs.lemmas.Bool.{cases_lt}
use Rattle.std.proofs.lemmas.Bool.Decides.{nat_tests}
use Rattle.sph_num.specs.Kernel.{greatest_passing, root_of}

-- s is the root of r2 in 1024ths of h, rounded down
pub record IsRoot (r2 h s : ℕ) : Type 0 where
  pub within : (s * s) * (h * h) ≤ 2 ^ 20 * r2
  pub above : 2 ^ 20 * r2 < ((s + 1) * (s + 1)) * (h * h)

-- one number more: it is the greatest if it passes
greatest_passing_more : (passed : Bool) (n s rest : ℕ) → s ≤ suc n → (s ≡ suc n → passed ≡ true) → (s ≤ n → passed ≡ false) → (s ≤ n → rest ≡ s) → cond passed (suc n) rest ≡ s
greatest_passing_more passed n s rest low here above below = grind arith

-- a number that passes, and above which none does, is the greatest
pub greatest_passing-is : (passes : ℕ → Bool) (n s : ℕ) → s ≤ n → passes s ≡ true → ((k : ℕ) → s < k → k ≤ n → passes k ≡ false) → greatest_passing passes n ≡ s
greatest_passing-is passes zero s low passing above = omega arith
greatest_passing-is passes (suc n) s low passing above =
    greatest_passing_more (passes (suc n)) n s (greatest_passing passes n) low
    (λ e. rw e at passing)
    (λ h. above (suc n) (omega arith) (omega arith))
    (λ h. greatest_passing-is passes n s h passing (λ k p q. above k p (omega arith)))

-- the greatest passes, if 0 does
pub passes_at_greatest : (passes : ℕ → Bool) (n : ℕ) → passes 0 ≡ true → passes (greatest_passing passes n) ≡ true
passes_at_greatest passes zero passing = passing
passes_at_greatest passes (suc n) passing = grind (arith, passes_at_greatest passes n passing)

-- none above the greatest passes
pub fails_above_greatest : (passes : ℕ → Bool) (n k : ℕ) → greatest_passing passes n < k → k ≤ n → passes k ≡ false
fails_above_greatest passes zero k above high = absurd (omega arith)
fails_above_greatest passes (suc n) k above high = grind (arith, fails_above_greatest passes n k)

-- a greater number has a greater square
pub square-le : (s k n : ℕ) → s ≤ k → (s * s) * n ≤ (k * k) * n
square-le s k n h = mul-le (s * s) n (k * k) n (mul-le s s k k h h) (omega arith)

-- a number is within its square times m, if m isn't 0
le-square : (s m n : ℕ) → 1 ≤ m → (s * s) * m ≤ n → s ≤ n
le-square zero m n low h = omega arith
le-square (suc s) m n low h = omega (arith, mul-le (suc s) 1 (suc s * suc s) m (omega arith) low)

-- a number that fails the test of a limit is over it
lt-from_fails : (a n : ℕ) → (a ≤ n → leb a n ≡ false) → n < a
lt-from_fails a n fails = grind (arith, nat_tests)

-- such an s is the root
pub root_of-is : (r2 h s : ℕ) → 1 ≤ h → IsRoot r2 h s → root_of r2 h ≡ s
unfolding root_of
root_of-is r2 h s low is =
    let positive : 1 ≤ h * h = omega (arith, mul-le 1 1 h h low low) in
    let passes = λ (k : ℕ). leb ((k * k) * (h * h)) (2 ^ 20 * r2) in
    let passing : passes s ≡ true = search (rules, tests) in
    let above : (k : ℕ) → s < k → 2 ^ 20 * r2 < (k * k) * (h * h) = λ k p. omega (arith, is.above, square-le (s + 1) k (h * h) (omega arith)) in
    greatest_passing-is passes (2 ^ 20 * r2) s (le-square s (h * h) (2 ^ 20 * r2) positive is.within) passing
    (λ k p q. let over : 2 ^ 20 * r2 < (k * k) * (h * h) = above k p in search (rules, tests))

-- the root is such an s
pub IsRoot-root_of : (r2 h : ℕ) → 1 ≤ h → IsRoot r2 h (root_of r2 h)
unfolding root_of
IsRoot-root_of r2 h low =
    let positive : 1 ≤ h * h = omega (arith, mul-le 1 1 h h low low) in
    let n = 2 ^ 20 * r2 in
    let passes = λ (k : ℕ). leb ((k * k) * (h * h)) n in
    let root = greatest_passing passes n in
    let zero_passes : passes 0 ≡ true = search (rules, tests) in
    let passing : passes root ≡ true = passes_at_greatest passes n zero_passes in
    let next_fails : ((root + 1) * (root + 1)) * (h * h) ≤ n → passes (root + 1) ≡ false =
    λ p. fails_above_greatest passes n (root + 1) (omega arith) (le-square (root + 1) (h * h) n positive p) in
    record {
      within = search (rules, tests);
      above = lt-from_fails ((root + 1) * (root + 1) * (h * h)) n next_fails;
    }

-- the root of a distance within the length is below 1024
pub root_of-lt : (r2 h : ℕ) → 1 ≤ h → r2 < h * h → root_of r2 h < 1024
root_of-lt r2 h low reach =
    let root = root_of r2 h in
    let is : IsRoot r2 h root = IsRoot-root_of r2 h low in
    elim (cases_lt root 1024) [
      | inl below ↦ below
      | inr high ↦ absurd (omega (arith, is.within, square-le 1024 root (h * h) high))
    ]
