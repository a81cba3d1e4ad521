-- The sum of the momenta of the first particles of a list, as the code adds it up.
use Rattle.std.proofs.Common.{◌≡◌, ℕ, zero, suc, ◌+◌, ◌*◌, ◌^◌, ◌<◌, ◌≤◌, List, [], ◌∷◌, length, get_or, take, to_z, of_z, ap, sym, ◌∙◌, add-one, arith}
use Rattle.std.specs.Prelude.{ℤ, pos, ◌+ℤ◌, unsigned_abs}
use Rattle.std.specs.Int.{w128}
use Rattle.std.specs.List.{All}
use Rattle.std.proofs.lemmas.Int.{ints, to_z-of_z, fits_signed_from_abs}
use Rattle.sph_num.specs.declared.particle.Particle.{Particle}
use Rattle.sph_num.specs.Motion.{IsMomentum}
use Rattle.sph_num.specs.Ranges.{most_particles}
use Rattle.sph_num.specs.Totals.{component, total_by}
use Rattle.sph_report.specs.SummaryLine.{total_momentum}

-- a sum takes one element more
total_next : {A : Type 0} (f : A → ℤ) (xs : List A) (k : ℕ) (d : A) → k < length xs → total_by f (take (suc k) xs) ≡ total_by f (take k xs) +ℤ f (get_or xs k d)
total_next f [] k d low = absurd (omega arith)
total_next f (x ∷ xs) zero d low = omega (arith, ints)
total_next f (x ∷ xs) (suc k) d low = omega (arith, ints, total_next f xs k d (omega arith))

-- a number that fits is read back as it was written
exact : (z : ℤ) → unsigned_abs z < 2 ^ 127 → to_z w128 (of_z w128 z) ≡ z
exact z small = to_z-of_z w128 z (fits_signed_from_abs w128 z small)

sum_is : (total z : ℤ) → unsigned_abs total < 2 ^ 120 → unsigned_abs z < 2 ^ 96 → to_z w128 (of_z w128 (total +ℤ to_z w128 (of_z w128 z))) ≡ total +ℤ z
sum_is total z narrow small =
    let read : to_z w128 (of_z w128 z) ≡ z = exact z (omega arith) in
    rw read (exact (total +ℤ z) (omega (arith, ints)))

-- the sum of one particle more, and how large it is
pub record IsNextSum (axis : ℕ) (list : List Particle) (k : ℕ) (total : ℤ) : Type 0 where
  pub sum : total ≡ total_momentum axis (take (k + 1) list)
  pub narrow : unsigned_abs total ≤ (k + 1) * 2 ^ 96

pub next_sum : (axis : ℕ) (list : List Particle) (k : ℕ) (d : Particle) (total : ℤ) → k < length list → length list ≤ most_particles → All (λ (p : Particle). IsMomentum p.q) list
    → total ≡ total_momentum axis (take k list) → unsigned_abs total ≤ k * 2 ^ 96
    → IsNextSum axis list k (to_z w128 (of_z w128 (total +ℤ to_z w128 (of_z w128 (component (get_or list k d).q axis)))))
next_sum axis list k d total low few momenta is narrow =
    let z = component (get_or list k d).q axis in
    let small : unsigned_abs z < 2 ^ 96 = momenta k d low axis in
    let added : to_z w128 (of_z w128 (total +ℤ to_z w128 (of_z w128 z))) ≡ total +ℤ z = sum_is total z (omega arith) small in
    let next : total +ℤ z ≡ total_momentum axis (take (k + 1) list) =
    ap (λ t. t +ℤ z) is ∙ sym (total_next (λ (p : Particle). component p.q axis) list k d low) ∙ ap (λ n. total_momentum axis (take n list)) (sym (add-one k)) in
    record { sum = added ∙ next; narrow = rw added (omega (arith, ints)) }
