-- Where a drift leads: a coordinate is a remainder by the box's side, so a drifted particle has a place.
use Rattle.std.proofs.Common.{ℕ, ◌<◌, [], ◌∷◌, get_or, ℤ, pos, negsuc, ◌+ℤ◌, unsigned_abs, refl, arith}
use Rattle.std.specs.Int.{int_rem_euclid}
use Rattle.std.proofs.lemmas.List.Elements.{All-nil, All-cons}
use Rattle.sph_num.specs.declared.particle.Particle.{Particle}
use Rattle.sph_num.specs.Motion.{coordinate_at, drift_of, position_of}
use Rattle.sph_num.specs.Space.{box_side, IsPlace}

-- a number taken round the box lies in it
round-lt : (z : ℤ) → unsigned_abs (int_rem_euclid z (pos box_side)) < box_side
round-lt (pos n) = omega arith
round-lt (negsuc n) = omega arith

pub coordinate_at-lt : (shift t : ℕ) (p : Particle) (axis : ℕ) → coordinate_at shift t p axis < box_side
coordinate_at-lt shift t p axis = round-lt (pos (get_or p.x0 axis 0) +ℤ drift_of shift t p axis)

-- the place at a tick is one
pub IsPlace-position_of : (shift t : ℕ) (p : Particle) → IsPlace (position_of shift t p)
unfolding position_of
IsPlace-position_of shift t p =
    let inside = λ (x : ℕ). x < box_side in
    let at = coordinate_at shift t p in
    let last = All-cons inside (at 2) [] (coordinate_at-lt shift t p 2) (All-nil inside) in
    let rest = All-cons inside (at 1) (at 2 ∷ []) (coordinate_at-lt shift t p 1) last in
    (refl, All-cons inside (at 0) (at 1 ∷ at 2 ∷ []) (coordinate_at-lt shift t p 0) rest)
