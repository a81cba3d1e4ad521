-- What the square of a distance within a length is of the length's square.
use Rattle.std.proofs.Common.{◌≡◌, ℕ, zero, suc, ◌+◌, ◌*◌, ◌/◌, ◌^◌, ◌<◌, ◌≤◌, arith}
use Rattle.std.proofs.lemmas.Nat.{mul-le, div_below, div-add-mod', mod_below}
use Rattle.sph_num.specs.Kernel.{root_of}
use Rattle.sph_num.proofs.Roots.{root_of-is}

-- the square of a distance within the length is less than the whole of the length's
pub share-lt : (r2 square : ℕ) → r2 < square → (r2 * 2 ^ 20) / square < 2 ^ 20
share-lt r2 square within = div_below (r2 * 2 ^ 20) square (2 ^ 20) (omega arith) (omega arith)

-- a length of which a distance is within isn't 0
pub length_low : (r2 h : ℕ) → r2 < h * h → 1 ≤ h
length_low r2 zero within = absurd (omega arith)
length_low r2 (suc h) within = omega arith

-- the root of the share is the root in 1024ths of the length
pub root_of_share : (r2 h s : ℕ) → 1 ≤ h → s * s ≤ (r2 * 2 ^ 20) / (h * h) → (r2 * 2 ^ 20) / (h * h) < (s + 1) * (s + 1) → root_of r2 h ≡ s
root_of_share r2 h s low within above =
    let share = (r2 * 2 ^ 20) / (h * h) in
    let some : 0 < h * h = mul-le 1 1 h h low low in
    let split = div-add-mod' (r2 * 2 ^ 20) (h * h) in
    let rest = mod_below (r2 * 2 ^ 20) (h * h) some in
    let first : (s * s) * (h * h) ≤ share * (h * h) = mul-le (s * s) (h * h) share (h * h) within (omega arith) in
    let second : (share + 1) * (h * h) ≤ ((s + 1) * (s + 1)) * (h * h) = mul-le (share + 1) (h * h) ((s + 1) * (s + 1)) (h * h) (omega arith) (omega arith) in
    root_of-is r2 h s low (record {
      within = omega arith;
      above = omega arith;
    })
