-- The ring of coordinates: the distance of two of them is the nearer way round.
use Rattle.std.proofs.Common.{◌≡◌, ℕ, ◌+◌, ◌-◌, ◌*◌, ◌%◌, ◌^◌, ◌<◌, ◌≤◌, min, List, get_or, ap, ◌∙◌, arith}
use Rattle.std.specs.Prelude.{pos, ◌+ℤ◌, ◌-ℤ◌, unsigned_abs}
use Rattle.std.proofs.lemmas.Int.{ints, int_rem_euclid_is}
use Rattle.sph_num.specs.Space.{box_side, IsPlace, minimal, apart}

-- a place's coordinates
pub coordinate-lt : (place : List ℕ) (axis : ℕ) → IsPlace place → axis < 3 → get_or place axis 0 < box_side
coordinate-lt place axis is low = is.1 axis 0 (omega (arith, is.0))

-- the minimal image, from a remainder of a natural number
pub minimal_is : (x y : ℕ) → y < box_side → minimal x y ≡ pos ((x + box_side + 2 ^ 19 - y) % box_side) -ℤ pos (2 ^ 19)
minimal_is x y low =
    let turned : ((pos x -ℤ pos y) +ℤ pos (2 ^ 19)) +ℤ pos (1 * 2 ^ 20) ≡ pos (x + 2 ^ 20 + 2 ^ 19 - y) = omega (arith, ints) in
    ap (λ z. z -ℤ pos (2 ^ 19)) (int_rem_euclid_is ((pos x -ℤ pos y) +ℤ pos (2 ^ 19)) (pos (2 ^ 20)) (2 ^ 20) 1 (x + 2 ^ 20 + 2 ^ 19 - y) (omega arith) (omega (arith, ints)) turned)

-- the difference of two numbers, whichever is greater
pub abs_difference : (m n : ℕ) → unsigned_abs (pos m -ℤ pos n) ≡ (m - n) + (n - m)
abs_difference m n = omega (arith, ints)

-- the distance, from the same remainder
apart_as_remainder : (x y : ℕ) → y < box_side → apart x y ≡ ((x + box_side + 2 ^ 19 - y) % box_side - 2 ^ 19) + (2 ^ 19 - (x + box_side + 2 ^ 19 - y) % box_side)
apart_as_remainder x y low =
    ap unsigned_abs (minimal_is x y low) ∙ abs_difference ((x + 2 ^ 20 + 2 ^ 19 - y) % 2 ^ 20) (2 ^ 19)

-- the distance of two coordinates is the shorter of the two ways
pub apart_is : (x y : ℕ) → x < box_side → y < box_side → apart x y ≡ min ((x - y) + (y - x)) (box_side - ((x - y) + (y - x)))
apart_is x y low_x low_y = omega (arith, apart_as_remainder x y low_y)

-- no coordinate is at a distance of itself
pub apart_self : (x : ℕ) → x < box_side → apart x x ≡ 0
apart_self x low = omega (arith, apart_is x x low low)

-- the distance is the same from both
pub apart-comm : (x y : ℕ) → x < box_side → y < box_side → apart x y ≡ apart y x
apart-comm x y low_x low_y = omega (arith, apart_is x y low_x low_y, apart_is y x low_y low_x)

-- the distance is no more than that by way of a third
pub apart_triangle : (x y z : ℕ) → x < box_side → y < box_side → z < box_side → apart x z ≤ apart x y + apart y z
apart_triangle x y z low_x low_y low_z = omega (arith, apart_is x y low_x low_y, apart_is y z low_y low_z, apart_is x z low_x low_z)

-- two coordinates that move come nearer by no more than both moved
pub apart_moved : (x y x' y' : ℕ) → x < box_side → y < box_side → x' < box_side → y' < box_side → apart x y ≤ apart x' x + apart x' y' + apart y' y
apart_moved x y x' y' low_x low_y low_x' low_y' =
    omega (arith, apart_triangle x x' y low_x low_x' low_y, apart_triangle x' y' y low_x' low_y' low_y, apart-comm x x' low_x low_x')
