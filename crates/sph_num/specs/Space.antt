-- The periodic box, of a side of 2^20 length units on each of three axes.
use Rattle.std.specs.Prelude.{ℕ, ◌+◌, ◌*◌, ◌^◌, ◌<◌, ◌≡◌, List, length, All, slice_index, ℤ, pos, ◌+ℤ◌, ◌-ℤ◌, unsigned_abs}
use Rattle.std.specs.Int.{int_rem_euclid}

-- the side of the box, in length units
abbrev pub box_side : ℕ
box_side = 2 ^ 20

-- a place: three coordinates in the box
abbrev pub IsPlace : List ℕ → Type 0
IsPlace place = (length place ≡ 3) × All (λ x. x < box_side) place

-- the minimal image of a - b: ((a - b + 2^19) mod 2^20) - 2^19, where the box's side is 2^20
abbrev pub minimal : ℕ → ℕ → ℤ
minimal a b = int_rem_euclid ((pos a -ℤ pos b) +ℤ pos (2 ^ 19)) (pos box_side) -ℤ pos (2 ^ 19)

-- the distance of two coordinates
abbrev pub apart : ℕ → ℕ → ℕ
apart x y = unsigned_abs (minimal x y)

-- the square of the distance on one axis
abbrev pub axis2 : List ℕ → List ℕ → ℕ → ℕ
axis2 a b axis = let d = apart (slice_index a axis) (slice_index b axis) in d * d

-- the square of the distance of two places
abbrev pub dist2 : List ℕ → List ℕ → ℕ
dist2 a b = axis2 a b 0 + axis2 a b 1 + axis2 a b 2
