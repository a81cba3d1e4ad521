-- The kernel's two cubics: they stay between 0 and the kernel at no distance.
use Rattle.std.proofs.Common.{◌≡◌, ℕ, ◌+◌, ◌-◌, ◌*◌, ◌^◌, ◌<◌, ◌≤◌, inl, inr, arith, rules, tests}
use Rattle.std.proofs.lemmas.Nat.{mul-le}
use Rattle.std.proofs.lemmas.Bool.{cases_lt}
use Rattle.sph_num.specs.Kernel.{kernel_w}

-- the inner cubic's last term is less than the rest, at a distance s of s + t
inner_fits : (s t : ℕ) → 12 * (s + t) * (s * s) ≤ 8 * ((s + t) * (s + t) * (s + t)) + 6 * (s * s * s)
inner_fits s t = omega arith

-- the same in 1024ths
pub inner_not_negative : (s : ℕ) → s ≤ 512 → 6144 * (s * s) ≤ 2 ^ 30 + 6 * (s * s * s)
inner_not_negative s h =
    let e : s + (512 - s) ≡ 512 = omega arith in
    rw e at (inner_fits s (512 - s))

-- a third power against that of a greater number, and against its square
pub cube-le : (s n : ℕ) → s ≤ n → s * s * s ≤ n * n * n
cube-le s n h = mul-le (s * s) s (n * n) n (mul-le s s n n h h) h

cube-le-square : (s n : ℕ) → s ≤ n → s * s * s ≤ n * (s * s)
cube-le-square s n h = omega (arith, mul-le s (s * s) n (s * s) h (omega arith))

-- the two cubics
pub kernel_w_inner : (s : ℕ) → s ≤ 512 → kernel_w s ≡ (2 ^ 30 + 6 * (s * s * s)) - 6 * 2 ^ 10 * (s * s)
unfolding kernel_w
kernel_w_inner s h = search (rules, tests)

pub kernel_w_outer : (s : ℕ) → 512 < s → kernel_w s ≡ 2 * ((1024 - s) * (1024 - s) * (1024 - s))
unfolding kernel_w
kernel_w_outer s h = search (rules, tests)

-- the kernel is greatest at no distance
pub kernel_w-le : (s : ℕ) → kernel_w s ≤ 2 ^ 30
kernel_w-le s =
    elim (cases_lt 512 s) [
      | inl h ↦ omega (arith, kernel_w_outer s h, cube-le (1024 - s) 512 (omega arith))
      | inr h ↦ omega (arith, kernel_w_inner s h, cube-le-square s 512 h)
    ]
