-- Vectors of three signed numbers, as the code computes them.
use Rattle.std.proofs.Common.{◌≡◌, ℕ, zero, suc, ◌^◌, ◌<◌, ◌≤◌, List, [], ◌∷◌, map, to_z, of_z, refl, arith}
use Rattle.std.specs.Prelude.{ℤ, pos, ◌+ℤ◌, ◌*ℤ◌, unsigned_abs}
use Rattle.std.specs.Int.{w128}
use Rattle.std.proofs.lemmas.Int.{to_z-of_z, fits_signed_from_abs}
use Rattle.std.proofs.lemmas.List.Elements.{All-map, All-from_get_or}
use Rattle.std.proofs.lemmas.Nat.{mul-le}
use Rattle.lists.proofs.Extremes.{fold_max-lt}
use Rattle.sph_num.specs.Bound.{greatest_size}
use Rattle.sph_num.specs.Motion.{IsMomentum, pushed}
use Rattle.sph_num.specs.Totals.{component}
use Rattle.sph_bins.proofs.Room.{unsigned_abs-push}

-- a number that fits is read back as it was written
pub exact : (z : ℤ) → unsigned_abs z < 2 ^ 127 → to_z w128 (of_z w128 z) ≡ z
exact z small = to_z-of_z w128 z (fits_signed_from_abs w128 z small)

-- a push, axis by axis
pub pushed-is : (p f : List ℤ) (n : ℕ) (x y z : ℤ) → x ≡ component p 0 +ℤ (component f 0 *ℤ pos n) → y ≡ component p 1 +ℤ (component f 1 *ℤ pos n) → z ≡ component p 2 +ℤ (component f 2 *ℤ pos n) → x ∷ y ∷ z ∷ [] ≡ pushed p f n
pushed-is p f n x y z px py pz = rw (px, py, pz) refl

-- how large it gets
push-lt : (p f : ℤ) (n : ℕ) → unsigned_abs p < 2 ^ 96 → unsigned_abs f < 2 ^ 96 → n ≤ 1024 → unsigned_abs (p +ℤ (f *ℤ pos n)) < 2 ^ 110
push-lt p f n small weak short =
    omega (arith, unsigned_abs-push p f n, mul-le (unsigned_abs f) n (2 ^ 96) 1024 (omega arith) short)

pub pushed-lt : (p f : List ℤ) (n : ℕ) → IsMomentum p → IsMomentum f → n ≤ 1024 → (axis : ℕ) → unsigned_abs (component (pushed p f n) axis) < 2 ^ 110
pushed-lt p f n small weak short zero = push-lt (component p 0) (component f 0) n (small 0) (weak 0) short
pushed-lt p f n small weak short (suc zero) = push-lt (component p 1) (component f 1) n (small 1) (weak 1) short
pushed-lt p f n small weak short (suc (suc zero)) = push-lt (component p 2) (component f 2) n (small 2) (weak 2) short
pushed-lt p f n small weak short (suc (suc (suc axis))) = omega arith

-- the greatest size of a narrow vector
pub greatest_size-lt : (f : List ℤ) → IsMomentum f → greatest_size f < 2 ^ 96
greatest_size-lt f weak =
    fold_max-lt (2 ^ 96) 0 (map unsigned_abs f) (omega arith)
    (All-map (λ x. x < 2 ^ 96) unsigned_abs f (All-from_get_or (λ z. unsigned_abs z < 2 ^ 96) f (pos 0) (λ axis inside. weak axis)))
