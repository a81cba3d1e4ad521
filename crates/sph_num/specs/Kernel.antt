-- The cubic spline kernel in whole numbers: the distance in 1024ths of the smoothing length, the kernel at it.
use Rattle.std.specs.Prelude.{ℕ, zero, suc, ◌+◌, ◌-◌, ◌*◌, ◌/◌, ◌^◌, Bool, if◌then◌else◌, nat_le}

-- the greatest number from 1 to n that passes the test, or 0 where none does
abbrev pub greatest_passing : (ℕ → Bool) → ℕ → ℕ
greatest_passing passes zero = 0
greatest_passing passes (suc n) = if passes (suc n) then suc n else greatest_passing passes n

-- the distance in 1024ths of h, rounded down: the greatest s with s²·h² <= 2^20·r2. It is sought from 2^20·r2 down: no s above that passes.
unfoldable pub root_of : ℕ → ℕ → ℕ
root_of r2 h = greatest_passing (λ s. nat_le ((s * s) * (h * h)) (2 ^ 20 * r2)) (2 ^ 20 * r2)

-- the kernel at a distance of s 1024ths of h: its scale is 2^30 at no distance, and it ends at 1024
unfoldable pub kernel_w : ℕ → ℕ
kernel_w s =
    if nat_le s 512 then (2 ^ 30 + 6 * (s * s * s)) - 6 * 2 ^ 10 * (s * s)
    else 2 * ((1024 - s) * (1024 - s) * (1024 - s))

-- the kernel's slope over its distance, with the sign turned, at a scale of 12288 at no distance: it ends at 1024
unfoldable pub kernel_u : ℕ → ℕ
kernel_u s =
    if nat_le s 512 then 12288 - 18 * s
    else (6 * ((1024 - s) * (1024 - s))) / s

-- 8 over pi at a scale of 2^16, which makes the kernel's integral one, but for the rounding
abbrev pub kernel_constant : ℕ
kernel_constant = 166886
