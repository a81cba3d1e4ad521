-- A pair turned: its distance is the same, and in reach its image turns its sign.
use Rattle.std.proofs.Common.{◌≡◌, ℕ, ◌+◌, ◌-◌, ◌*◌, ◌%◌, ◌^◌, ◌<◌, max, List, get_or, inl, inr, sym, ap, ◌∙◌, arith}
use Rattle.std.specs.Prelude.{pos, ◌-ℤ◌, unsigned_abs}
use Rattle.std.proofs.lemmas.Bool.{cases_lt}
use Rattle.std.proofs.lemmas.Int.{ints}
use Rattle.std.proofs.Math.ListN.{get_or-eq_default}
use Rattle.sph_num.specs.Force.{InReach}
use Rattle.sph_num.specs.Ranges.{IsLength}
use Rattle.sph_num.specs.Space.{box_side, IsPlace, minimal, apart, axis2, dist2}
use Rattle.sph_num.proofs.Forces.{axis2-le, lt-from_squares}
use Rattle.sph_num.proofs.Ring.{coordinate-lt, minimal_is, abs_difference, apart-comm}
use Rattle.sph_num.proofs.Sums.{minimal_self}

-- two different images of the same two coordinates add up to the box's side, but for the one in the middle
pub minimal_turned : (x y : ℕ) → x < box_side → y < box_side → apart x y < 2 ^ 19 → minimal y x ≡ pos 0 -ℤ minimal x y
minimal_turned x y low_x low_y near =
    let a = (x + 2 ^ 20 + 2 ^ 19 - y) % 2 ^ 20 in
    let b = (y + 2 ^ 20 + 2 ^ 19 - x) % 2 ^ 20 in
    let small : (a - 2 ^ 19) + (2 ^ 19 - a) < 2 ^ 19 = omega (arith, ap unsigned_abs (minimal_is x y low_y) ∙ abs_difference a (2 ^ 19)) in
    let both : a + b ≡ 2 ^ 20 = omega arith in
    let difference : pos b -ℤ pos (2 ^ 19) ≡ pos 0 -ℤ (pos a -ℤ pos (2 ^ 19)) = omega (arith, ints) in
    minimal_is y x low_x ∙ difference ∙ ap (λ z. pos 0 -ℤ z) (sym (minimal_is x y low_y))

axis2-comm : (p q : List ℕ) (axis : ℕ) → IsPlace p → IsPlace q → axis < 3 → axis2 p q axis ≡ axis2 q p axis
axis2-comm p q axis of_p of_q low =
    ap (λ d. d * d) (apart-comm (get_or p axis 0) (get_or q axis 0) (coordinate-lt p axis of_p low) (coordinate-lt q axis of_q low))

pub dist2-comm : (p q : List ℕ) → IsPlace p → IsPlace q → dist2 p q ≡ dist2 q p
dist2-comm p q of_p of_q =
    omega (arith, axis2-comm p q 0 of_p of_q (omega arith), axis2-comm p q 1 of_p of_q (omega arith), axis2-comm p q 2 of_p of_q (omega arith))

-- in reach of two lengths no axis gives as much as half the box
apart_in_reach : (p q : List ℕ) (h h' axis : ℕ) → IsLength h → IsLength h' → InReach (dist2 p q) h h' → axis < 3 → apart (get_or p axis 0) (get_or q axis 0) < 2 ^ 19
apart_in_reach p q h h' axis is is' near low =
    let within = lt-from_squares (apart (get_or p axis 0) (get_or q axis 0)) (max h h') (omega (arith, axis2-le p q axis low)) in
    omega (arith, is.high, is'.high)

-- so there the image turns its sign, on each axis
pub minimal_turned_in_reach : (p q : List ℕ) (h h' axis : ℕ) → IsPlace p → IsPlace q → IsLength h → IsLength h' → InReach (dist2 p q) h h' → minimal (get_or q axis 0) (get_or p axis 0) ≡ pos 0 -ℤ minimal (get_or p axis 0) (get_or q axis 0)
minimal_turned_in_reach p q h h' axis of_p of_q is is' near =
    elim (cases_lt axis 3) [
      | inl low ↦ minimal_turned (get_or p axis 0) (get_or q axis 0) (coordinate-lt p axis of_p low) (coordinate-lt q axis of_q low) (apart_in_reach p q h h' axis is is' near low)
      | inr beyond ↦
          let none_p : get_or p axis 0 ≡ 0 = get_or-eq_default p 0 (omega (arith, of_p.0)) in
          let none_q : get_or q axis 0 ≡ 0 = get_or-eq_default q 0 (omega (arith, of_q.0)) in
          let still : minimal 0 0 ≡ pos 0 -ℤ minimal 0 0 = rw (minimal_self 0) (omega (arith, ints)) in
          rw (none_p, none_q) still
    ]
