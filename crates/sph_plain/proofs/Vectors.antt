-- Vectors of three signed numbers, as the code computes them.
use Rattle.std.proofs.Common.{◌≡◌, ℕ, ◌^◌, ◌<◌, List, [], ◌∷◌, get_or, to_z, of_z, FitsSigned, refl, ap, ◌∙◌, arith}
use Rattle.std.specs.Prelude.{ℤ, pos, ◌+ℤ◌, ◌*ℤ◌, unsigned_abs}
use Rattle.std.specs.Int.{w128}
use Rattle.std.proofs.lemmas.Int.{ints, fits_signed_from_abs}
use Rattle.sph_num.specs.Pull.{pair_factor}
use Rattle.sph_num.specs.Space.{minimal, dist2}
use Rattle.sph_num.specs.Totals.{component}
use Rattle.sph_bins.proofs.Vectors.{exact}
use Rattle.sph_plain.specs.declared.body.Body.{Body}
use Rattle.sph_plain.specs.inner.Bodies.{pulled}

-- so is a sum
pub sum_exact : (x y : ℤ) → unsigned_abs x < 2 ^ 120 → unsigned_abs y < 2 ^ 120 → to_z w128 (of_z w128 (to_z w128 (of_z w128 x) +ℤ to_z w128 (of_z w128 y))) ≡ x +ℤ y
sum_exact x y small_x small_y =
    let first : to_z w128 (of_z w128 x) ≡ x = exact x (omega arith) in
    let second : to_z w128 (of_z w128 y) ≡ y = exact y (omega arith) in
    rw (first, second) (exact (x +ℤ y) (omega (arith, ints)))

pub sum_fits : (x y : ℤ) → unsigned_abs x < 2 ^ 120 → unsigned_abs y < 2 ^ 120 → FitsSigned w128 (to_z w128 (of_z w128 x) +ℤ to_z w128 (of_z w128 y))
sum_fits x y small_x small_y =
    let first : to_z w128 (of_z w128 x) ≡ x = exact x (omega arith) in
    let second : to_z w128 (of_z w128 y) ≡ y = exact y (omega arith) in
    rw (first, second) (fits_signed_from_abs w128 (x +ℤ y) (omega (arith, ints)))

-- the force of a pair added to a sum, axis by axis
pub pulled-is : (total : List ℤ) (i j : Body) (factor r2 : ℕ) (x y z : ℤ) → r2 ≡ dist2 i.place j.place → factor ≡ pair_factor i.pull j.pull r2
    → x ≡ pos factor *ℤ minimal (get_or i.place 0 0) (get_or j.place 0 0) → y ≡ pos factor *ℤ minimal (get_or i.place 1 0) (get_or j.place 1 0) → z ≡ pos factor *ℤ minimal (get_or i.place 2 0) (get_or j.place 2 0)
    → (component total 0 +ℤ x) ∷ (component total 1 +ℤ y) ∷ (component total 2 +ℤ z) ∷ [] ≡ pulled total i j
unfolding pulled
pulled-is total i j factor r2 x y z distance is px py pz =
    let whole : factor ≡ pair_factor i.pull j.pull (dist2 i.place j.place) = is ∙ ap (pair_factor i.pull j.pull) distance in
    let on = λ (axis : ℕ). ap (λ n. pos n *ℤ minimal (get_or i.place axis 0) (get_or j.place axis 0)) whole in
    rw (px ∙ on 0, py ∙ on 1, pz ∙ on 2) refl
