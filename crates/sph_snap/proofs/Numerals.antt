-- Numbers and signed numbers in bytes: each has one spelling, and it reads back where it stands.
use Rattle.std.proofs.Common.{◌≡◌, ℕ, zero, suc, ◌+◌, ◌^◌, ◌<◌, List, ◌++◌, drop, refl, sym, ap, ◌∙◌, arith}
use Rattle.std.specs.Prelude.{ℤ, pos, negsuc, unsigned_abs}
use Rattle.std.specs.Int.{cast_unsigned, w128}
use Rattle.std.proofs.lemmas.Bool.Decides.{nat_tests}
use Rattle.std.proofs.lemmas.Int.{ints}
use Rattle.std.proofs.lemmas.List.{append_cancel_left, get_or-drop}
use Rattle.byteorder.specs.Endian.{little_from, little_bytes, twos_complement}
use Rattle.byteorder.specs.Numbers.{little_number-reads_back}
use Rattle.sph_snap.proofs.Codes.{IsCode}
use Rattle.sph_snap.specs.Snapshot.{signed_bytes}

-- the number at a place is the first one behind what stands before it
pub little_from-drop : (i n at : ℕ) (xs : List ℕ) → little_from (at + i) n xs ≡ little_from i n (drop at xs)
little_from-drop i zero at xs = refl
little_from-drop i (suc n) at xs =
    let next : suc (at + i) ≡ at + suc i = omega arith in
    let byte = get_or-drop at xs i 0 in
    let rest = little_from-drop (suc i) n at xs in
    rw (byte, next, rest) refl

-- two spellings of n bytes
same_number : (n x y : ℕ) (a b : List ℕ) → x < 256 ^ n → y < 256 ^ n → little_bytes n x ++ a ≡ little_bytes n y ++ b → x ≡ y
same_number n x y a b p q e =
    sym (little_number-reads_back n x a p) ∙ ap (little_from 0 n) e ∙ little_number-reads_back n y b q

-- numbers of n bytes
pub IsCode-number : (n : ℕ) → IsCode (λ x. x < 256 ^ n) (little_bytes n)
IsCode-number n = record { same = same }
  where
    same : (x y : ℕ) (a b : List ℕ) → x < 256 ^ n → y < 256 ^ n → little_bytes n x ++ a ≡ little_bytes n y ++ b → (x ≡ y) × (a ≡ b)
    same x y a b p q e =
        let one = same_number n x y a b p q e in
        (one, append_cancel_left (little_bytes n y) a b (ap (λ z. little_bytes n z ++ a) (sym one) ∙ e))

-- the bits of a signed number
pub twos_complement-bits : (z : ℤ) → unsigned_abs z < 2 ^ 96 → twos_complement 16 (cast_unsigned w128 z) ≡ z
twos_complement-bits (pos n) h = grind (arith, nat_tests, ints)
twos_complement-bits (negsuc n) h = grind (arith, nat_tests, ints)

pub bits-lt : (z : ℤ) → unsigned_abs z < 2 ^ 96 → cast_unsigned w128 z < 256 ^ 16
bits-lt (pos n) h = omega arith
bits-lt (negsuc n) h = omega arith

-- signed numbers of sixteen bytes
pub IsCode-signed : IsCode (λ z. unsigned_abs z < 2 ^ 96) signed_bytes
IsCode-signed = record { same = same }
  where
    same : (x y : ℤ) (a b : List ℕ) → unsigned_abs x < 2 ^ 96 → unsigned_abs y < 2 ^ 96 → signed_bytes x ++ a ≡ signed_bytes y ++ b → (x ≡ y) × (a ≡ b)
    same x y a b p q e =
        let numbers = (IsCode-number 16).same (cast_unsigned w128 x) (cast_unsigned w128 y) a b (bits-lt x p) (bits-lt y q) e in
        (sym (twos_complement-bits x p) ∙ ap (twos_complement 16) numbers.0 ∙ twos_complement-bits y q, numbers.1)
