-- What is read at one field, at three coordinates and at three components of a momentum.
use Rattle.std.proofs.Common.{◌≡◌, ℕ, ◌+◌, ◌^◌, ◌<◌, ◌≤◌, ◌⊎◌, inl, inr, true, false, List, [], ◌∷◌, length, drop, sym, ap, ◌∙◌, arith}
use Rattle.std.specs.Prelude.{slice_index, nat_lt, unsigned_abs, ℤ}
use Rattle.std.specs.Int.{cast_signed, w128}
use Rattle.std.proofs.lemmas.Bool.Decides.{nat_tests}
use Rattle.std.proofs.lemmas.Int.{ints}
use Rattle.byteorder.specs.Endian.{little_from, twos_complement}
use Rattle.byteorder.specs.Numbers.{little_from-lt}
use Rattle.sph_snap.specs.declared.fault.SnapFault.TheVariants.{Range}
use Rattle.sph_snap.specs.Fields.{field, between, is_component}
use Rattle.sph_snap.specs.inner.Parts.{AllFit, FailsFirst, number_in, signed_in, number_field, coordinate_field, component_field, place_fields, place_in, momentum_fields, momentum_in}
use Rattle.sph_snap.proofs.Fit.{AllFit-one, FailsFirst-range, fit_both}
use Rattle.sph_snap.proofs.Numerals.{little_from-drop}

-- the list is one of bytes
pub record AreBytes (bytes : List ℕ) : Type 0 where
  pub each : (i : ℕ) → slice_index bytes i < 256

-- the number that stands first behind an offset
pub number_behind : (bytes rest : List ℕ) (at n : ℕ) → rest ≡ drop at bytes → little_from 0 n rest ≡ little_from at n bytes
number_behind bytes rest at n is =
    let here : at + 0 ≡ at = omega arith in
    ap (little_from 0 n) is ∙ sym (little_from-drop 0 n at bytes) ∙ ap (λ k. little_from k n bytes) here

-- the test of a number between two ends
pub between-within : (least greatest x : ℕ) → least ≤ x → x ≤ greatest → between least greatest x ≡ true
between-within least greatest x low high = grind (arith, nat_tests)

between-beyond : (least greatest x : ℕ) → (x < least) ⊎ ((least ≤ x) × (greatest < x)) → between least greatest x ≡ false
between-beyond least greatest x (inl low) = grind (arith, nat_tests)
between-beyond least greatest x (inr (pass, high)) = grind (arith, nat_tests)

-- a number that was read: it fits, or it is out of its range
pub number_fits : (bytes rest : List ℕ) (at n least greatest x : ℕ) → at + n ≤ length bytes → rest ≡ drop at bytes → x ≡ little_from 0 n rest → least ≤ x → x ≤ greatest
    → AllFit bytes (number_field at n least greatest) × (x ≡ number_in bytes at n)
unfolding number_in
number_fits bytes rest at n least greatest x long is read low high =
    let here : x ≡ little_from at n bytes = read ∙ number_behind bytes rest at n is in
    let fits : between least greatest (little_from at n bytes) ≡ true = ap (between least greatest) (sym here) ∙ between-within least greatest x low high in
    (AllFit-one bytes (field at n (between least greatest)) long fits, here)

pub number_beyond : (bytes rest : List ℕ) (at n least greatest x : ℕ) → at + n ≤ length bytes → rest ≡ drop at bytes → x ≡ little_from 0 n rest
    → (x < least) ⊎ ((least ≤ x) × (greatest < x)) → FailsFirst bytes (number_field at n least greatest) (Range at)
number_beyond bytes rest at n least greatest x long is read beyond =
    let here : x ≡ little_from at n bytes = read ∙ number_behind bytes rest at n is in
    let fits : between least greatest (little_from at n bytes) ≡ false = ap (between least greatest) (sym here) ∙ between-beyond least greatest x beyond in
    FailsFirst-range bytes (field at n (between least greatest)) long fits

-- sixteen bytes in two's complement
pub twos_complement-cast : (n : ℕ) → n < 2 ^ 128 → twos_complement 16 n ≡ cast_signed w128 n
twos_complement-cast n h = grind (arith, nat_tests, ints)

signed_behind : (bytes rest : List ℕ) (at : ℕ) (q : ℤ) → AreBytes bytes → rest ≡ drop at bytes → q ≡ cast_signed w128 (little_from 0 16 rest) → q ≡ twos_complement 16 (little_from at 16 bytes)
signed_behind bytes rest at q small is read =
    let below : little_from at 16 bytes < 256 ^ 16 = little_from-lt at 16 bytes small.each in
    read ∙ ap (cast_signed w128) (number_behind bytes rest at 16 is) ∙ sym (twos_complement-cast (little_from at 16 bytes) below)

-- a component that was read
pub component_fits : (bytes rest : List ℕ) (at : ℕ) (q : ℤ) → AreBytes bytes → at + 16 ≤ length bytes → rest ≡ drop at bytes → q ≡ cast_signed w128 (little_from 0 16 rest)
    → unsigned_abs q < 2 ^ 96 → AllFit bytes (component_field at) × (q ≡ signed_in bytes at)
unfolding signed_in
component_fits bytes rest at q small long is read below =
    let here = signed_behind bytes rest at q small is read in
    let test : nat_lt (unsigned_abs q) (2 ^ 96) ≡ true = grind (arith, nat_tests) in
    let fits : is_component (little_from at 16 bytes) ≡ true = ap (λ z. nat_lt (unsigned_abs z) (2 ^ 96)) (sym here) ∙ test in
    (AllFit-one bytes (field at 16 is_component) long fits, here)

pub component_beyond : (bytes rest : List ℕ) (at : ℕ) (q : ℤ) → AreBytes bytes → at + 16 ≤ length bytes → rest ≡ drop at bytes → q ≡ cast_signed w128 (little_from 0 16 rest)
    → 2 ^ 96 ≤ unsigned_abs q → FailsFirst bytes (component_field at) (Range at)
component_beyond bytes rest at q small long is read beyond =
    let here = signed_behind bytes rest at q small is read in
    let test : nat_lt (unsigned_abs q) (2 ^ 96) ≡ false = grind (arith, nat_tests) in
    let fits : is_component (little_from at 16 bytes) ≡ false = ap (λ z. nat_lt (unsigned_abs z) (2 ^ 96)) (sym here) ∙ test in
    FailsFirst-range bytes (field at 16 is_component) long fits

-- three coordinates
pub place_fits : {bytes : List ℕ} {at x y z : ℕ} → AllFit bytes (coordinate_field at) → x ≡ number_in bytes at 4
    → AllFit bytes (coordinate_field (at + 4)) → y ≡ number_in bytes (at + 4) 4
    → AllFit bytes (coordinate_field (at + 8)) → z ≡ number_in bytes (at + 8) 4 → AllFit bytes (place_fields at) × (x ∷ y ∷ z ∷ [] ≡ place_in bytes at)
unfolding place_fields place_in
place_fits p e q f r g = (fit_both p (fit_both q r), cc)

-- three components of a momentum
pub momentum_fits : {bytes : List ℕ} {at : ℕ} {x y z : ℤ} → AllFit bytes (component_field at) → x ≡ signed_in bytes at
    → AllFit bytes (component_field (at + 16)) → y ≡ signed_in bytes (at + 16)
    → AllFit bytes (component_field (at + 32)) → z ≡ signed_in bytes (at + 32) → AllFit bytes (momentum_fields at) × (x ∷ y ∷ z ∷ [] ≡ momentum_in bytes at)
unfolding momentum_fields momentum_in
momentum_fits p e q f r g = (fit_both p (fit_both q r), cc)
