-- The other way round: where the fields of a row or a snapshot have no fault, one in range is spelled.
use Rattle.std.proofs.Common.{◌≡◌, ℕ, zero, suc, ◌+◌, ◌*◌, ◌/◌, ◌%◌, ◌-◌, ◌^◌, ◌<◌, ◌≤◌, Bool, true, false, Option, Some, None, List, [], ◌∷◌, ◌++◌, length, get_or, drop, refl, sym, ap, ap₂, ◌∙◌, subst, inl, inr, arith}
use Rattle.std.specs.Prelude.{pos, negsuc, unsigned_abs, slice_get, nat_lt, if◌then◌else◌}
use Rattle.std.specs.Int.{byte_at, bytes_low_first, cast_unsigned, w128}
use Rattle.std.specs.List.{All, flat_map, filter_map, cons_option}
use Rattle.std.proofs.Math.Nat.{div-div-eq-div-mul, div-one, pow-succ'}
use Rattle.std.proofs.lemmas.Bool.{cases_lt, eqb-true, ltb-true}
use Rattle.std.proofs.lemmas.Bool.Decides.{nat_tests}
use Rattle.std.proofs.lemmas.Int.{ints}
use Rattle.std.proofs.lemmas.List.{length-drop, get_or_past, take-append-drop}
use Rattle.std.proofs.lemmas.List.Elements.{All-drop, All-tail}
use Rattle.lists.proofs.Elements.{All-three}
use Rattle.byteorder.specs.Endian.{little_from, little_bytes, twos_complement}
use Rattle.byteorder.specs.Numbers.{little_from-cons, little_from-lt}
use Rattle.sph_snap.specs.Fields.{Field, field, between, is_component, field_fault, row_fields, rows_fields, snapshot_fields, first_fault, is_coordinate}
use Rattle.sph_snap.specs.inner.Parts.{number_in, row_in, rows_in, signed_in, snapshot_in}
use Rattle.sph_snap.specs.Reads.{IsMarkAt}
use Rattle.sph_snap.specs.Snapshot.{IsRow, IsSnapshot, row_bytes, signed_bytes, snapshot_mark, spell}
use Rattle.sph_snap.specs.declared.fault.SnapFault.{SnapFault}
use Rattle.sph_snap.specs.declared.fault.SnapFault.TheVariants.{Short, Range}
use Rattle.sph_snap.specs.declared.snapshot.SnapRow.{SnapRow}
use Rattle.sph_snap.specs.declared.snapshot.Snapshot.{Snapshot}
use Rattle.sph_snap.proofs.Pieces.{IsAt, IsAt-append, IsAt-nil, IsAt-three}
use Rattle.sph_snap.proofs.Numerals.{little_from-drop}
use Rattle.sph_num.specs.Ranges.{most_particles}
use Rattle.sph_num.specs.Space.{box_side}

-- ---- bytes

abbrev pub IsByte : ℕ → Type 0
IsByte b = b < 256

-- a byte of a number, by its place
byte_at-pow : (i x : ℕ) → byte_at i x ≡ x / 256 ^ i % 256
byte_at-pow zero x = ap (λ (y : ℕ). y % 256) (sym (div-one x))
byte_at-pow (suc i) x = refl

-- the bytes of a number above its lowest one
byte_at-above : (i b r : ℕ) → b < 256 → byte_at (suc i) (b + 256 * r) ≡ byte_at i r
byte_at-above i b r h =
    let top : (b + 256 * r) / 256 ≡ r = omega arith in
    let shift : (b + 256 * r) / 256 ^ suc i ≡ r / 256 ^ i =
    ap (λ p. (b + 256 * r) / p) (pow-succ' 256 i) ∙ sym (div-div-eq-div-mul (b + 256 * r) 256 (256 ^ i)) ∙ ap (λ n. n / 256 ^ i) top in
    ap (λ n. n % 256) shift ∙ sym (byte_at-pow i r)

bytes_above : (i k b r : ℕ) → b < 256 → bytes_low_first (suc i) k (b + 256 * r) ≡ bytes_low_first i k r
bytes_above i zero b r h = refl
bytes_above i (suc k) b r h = ap₂ (λ (x : ℕ) (xs : List ℕ). x ∷ xs) (byte_at-above i b r h) (bytes_above (suc i) k b r h)

-- the first n bytes are those of the number that they make
bytes_read : (n : ℕ) (xs : List ℕ) → n ≤ length xs → All IsByte xs → xs ≡ little_bytes n (little_from 0 n xs) ++ drop n xs
bytes_read zero xs h bytes = refl
bytes_read (suc n) [] h bytes = absurd (omega arith)
bytes_read (suc n) (x ∷ xs) h bytes =
    let low : x < 256 = bytes 0 x (omega arith) in
    let rest = bytes_read n xs (omega arith) (All-tail IsByte x xs bytes) in
    let r = little_from 0 n xs in
    let value : little_from 0 (suc n) (x ∷ xs) ≡ x + 256 * r = ap (λ y. x + 256 * y) (little_from-cons 0 n x xs) in
    let first : (x + 256 * r) % 256 ≡ x = omega arith in
    let whole : x ∷ xs ≡ little_bytes (suc n) (x + 256 * r) ++ drop n xs =
    ap₂ (λ (y : ℕ) (ys : List ℕ). y ∷ ys) (sym first) (rest ∙ ap (λ ys. ys ++ drop n xs) (sym (bytes_above 0 n x r low))) in
    whole ∙ ap (λ v. little_bytes (suc n) v ++ drop n xs) (sym value)

byte_below : (bytes : List ℕ) → All IsByte bytes → (k : ℕ) → get_or bytes k 0 < 256
byte_below bytes are k = elim (cases_lt k (length bytes)) [ inl within ↦ are k 0 within | inr past ↦ rw (get_or_past bytes k 0 past) (omega arith) ]

-- the bytes of the number that is read at an offset stand there
pub number_spelled : (n : ℕ) (bytes : List ℕ) (at : ℕ) → All IsByte bytes → at + n ≤ length bytes → IsAt (little_bytes n (little_from at n bytes)) bytes at
number_spelled n bytes at are long =
    let here : at + 0 ≡ at = omega arith in
    let value : little_from at n bytes ≡ little_from 0 n (drop at bytes) = ap (λ k. little_from k n bytes) (sym here) ∙ little_from-drop 0 n at bytes in
    let left = length-drop at bytes in
    record {
      after = drop n (drop at bytes);
      is = bytes_read n (drop at bytes) (omega arith) (All-drop IsByte at bytes are) ∙ ap (λ v. little_bytes n v ++ drop n (drop at bytes)) (sym value);
    }

-- the bits of the signed number that bits are
bits_back : (n : ℕ) → n < 256 ^ 16 → cast_unsigned w128 (twos_complement 16 n) ≡ n
bits_back n h = elim (cases_lt n (2 ^ 127)) [
  | inl low ↦
      let is : twos_complement 16 n ≡ pos n = grind (arith, nat_tests) in
      ap (cast_unsigned w128) is
  | inr high ↦
      let is : twos_complement 16 n ≡ negsuc (2 ^ 128 - suc n) = grind (arith, nat_tests, ints) in
      ap (cast_unsigned w128) is ∙ omega arith
]

signed_spelled : (bytes : List ℕ) (at : ℕ) → All IsByte bytes → at + 16 ≤ length bytes → IsAt (signed_bytes (twos_complement 16 (little_from at 16 bytes))) bytes at
signed_spelled bytes at are long =
    let small : little_from at 16 bytes < 256 ^ 16 = little_from-lt at 16 bytes (byte_below bytes are) in
    subst (λ n. IsAt (little_bytes 16 n) bytes at) (sym (bits_back (little_from at 16 bytes) small)) (number_spelled 16 bytes at are long)

-- ---- fields

-- the field is there, with a number that it may hold
pub record FitsAt (bytes : List ℕ) (f : Field) : Type 0 where
  pub long : f.offset + f.size ≤ length bytes
  pub good : f.fits (little_from f.offset f.size bytes) ≡ true

abbrev pub AllFitAt : List ℕ → List Field → Type 0
AllFitAt bytes [] = Unit {0}
AllFitAt bytes (f ∷ fs) = FitsAt bytes f × AllFitAt bytes fs

-- the two tests of a field
tests_passed : (cut fits : Bool) (a b : SnapFault) → (if cut then Some a else if fits then None else Some b) ≡ None → (cut ≡ false) × (fits ≡ true)
tests_passed true fits a b e = cc
tests_passed false true a b e = (refl, refl)
tests_passed false false a b e = cc

FitsAt-from_none : (bytes : List ℕ) (f : Field) → field_fault bytes f ≡ None → FitsAt bytes f
unfolding field_fault
FitsAt-from_none bytes f none =
    let passed = tests_passed (nat_lt (length bytes) (f.offset + f.size)) (f.fits (little_from f.offset f.size bytes)) (Short f.offset) (Range f.offset) none in
    let whole : nat_lt (length bytes) (f.offset + f.size) ≡ false = passed.0 in
    record { long = grind (arith, nat_tests); good = passed.1 }

no_fault_first : (o : Option SnapFault) (rest : List SnapFault) → cons_option o rest ≡ [] → (o ≡ None) × (rest ≡ [])
no_fault_first None rest e = (refl, e)
no_fault_first (Some fault) rest e = cc

pub AllFitAt-from_none : (bytes : List ℕ) (fields : List Field) → filter_map (field_fault bytes) fields ≡ [] → AllFitAt bytes fields
AllFitAt-from_none bytes [] none = tt
AllFitAt-from_none bytes (f ∷ fs) none =
    let split = no_fault_first (field_fault bytes f) (filter_map (field_fault bytes) fs) none in
    (FitsAt-from_none bytes f split.0, AllFitAt-from_none bytes fs split.1)

-- a list with no first element
nothing_first : {X : Type 0} (xs : List X) → slice_get xs 0 ≡ None → xs ≡ []
nothing_first [] e = refl
nothing_first (x ∷ xs) e = cc

between-is : (least greatest n : ℕ) → between least greatest n ≡ true → (least ≤ n) × (n ≤ greatest)
between-is least greatest n e = grind (arith, nat_tests)

one-add : (k : ℕ) → 1 + k ≡ suc k
one-add k = omega arith

-- no more than a number is below the next
below_next : (n m : ℕ) → n ≤ m → n < suc m
below_next n m h = omega arith

-- ---- rows

component_below : (bytes : List ℕ) (at : ℕ) → FitsAt bytes (field at 16 is_component) → unsigned_abs (signed_in bytes at) < 2 ^ 96
unfolding signed_in
component_below bytes at fit = ltb-true (unsigned_abs (signed_in bytes at)) (2 ^ 96) fit.good

-- the number of a field between two ends
range_of : (bytes : List ℕ) (at n least greatest : ℕ) → FitsAt bytes (field at n (between least greatest)) → (least ≤ number_in bytes at n) × (number_in bytes at n ≤ greatest)
unfolding number_in
range_of bytes at n least greatest fit = between-is least greatest (number_in bytes at n) fit.good

coordinate_of : (bytes : List ℕ) (at n : ℕ) → FitsAt bytes (field at n is_coordinate) → number_in bytes at n < box_side
coordinate_of bytes at n fit = let range = range_of bytes at n 0 (box_side - 1) fit in omega arith

-- the row of fields that fit is in its ranges
pub IsRow-from_fields : (bytes : List ℕ) (number at : ℕ) → AllFitAt bytes (row_fields number at) → IsRow number (row_in bytes at)
unfolding row_fields row_in number_in
IsRow-from_fields bytes number at fit =
    let mass = range_of bytes (at + 4) 4 1 65536 fit.1.0 in
    let h = range_of bytes (at + 8) 4 1024 131072 fit.1.1.0 in
    let place = fit.1.1.1 in
    let momentum = place.1.1.1 in
    let rho = range_of bytes (at + 72) 8 20 2305843009213693951 momentum.1.1.1.0 in
    let bin = range_of bytes (at + 80) 4 0 10 momentum.1.1.1.1.0 in
    record {
      number_is = eqb-true (number_in bytes at 4) number fit.0.good;
      mass = record { low = mass.0; high = mass.1 };
      h = record { low = h.0; high = h.1 };
      place = (
        refl,
        All-three (λ x. x < box_side) (number_in bytes (at + 12) 4) (number_in bytes (at + 16) 4) (number_in bytes (at + 20) 4)
            (coordinate_of bytes (at + 12) 4 place.0) (coordinate_of bytes (at + 16) 4 place.1.0) (coordinate_of bytes (at + 20) 4 place.1.1.0),
      );
      axes = refl;
      momentum =
          All-three (λ z. unsigned_abs z < 2 ^ 96) (signed_in bytes (at + 24)) (signed_in bytes (at + 40)) (signed_in bytes (at + 56))
          (component_below bytes (at + 24) momentum.0) (component_below bytes (at + 40) momentum.1.0) (component_below bytes (at + 56) momentum.1.1.0);
      density_low = rho.0;
      density_high = below_next (number_in bytes (at + 72) 8) 2305843009213693951 rho.1;
      bin = bin.1;
    }

-- and its bytes stand there
pub row_spelled : (bytes : List ℕ) (number at : ℕ) → All IsByte bytes → AllFitAt bytes (row_fields number at) → IsAt (row_bytes (row_in bytes at)) bytes at
unfolding row_fields row_in row_bytes number_in signed_in
row_spelled bytes number at are fit =
    let place_fit = fit.1.1.1 in
    let momentum_fit = place_fit.1.1.1 in
    let one = number_spelled 4 bytes at are fit.0.long in
    let mass = number_spelled 4 bytes (at + 4) are fit.1.0.long in
    let h = number_spelled 4 bytes (at + 8) are fit.1.1.0.long in
    let place = IsAt-three (little_bytes 4) 4 (number_in bytes (at + 12) 4) (number_in bytes (at + 16) 4) (number_in bytes (at + 20) 4) bytes (at + 12) (at + 16) (at + 20)
    refl refl (omega arith) (omega arith)
    (number_spelled 4 bytes (at + 12) are place_fit.0.long) (number_spelled 4 bytes (at + 16) are place_fit.1.0.long) (number_spelled 4 bytes (at + 20) are place_fit.1.1.0.long) in
    let momentum = IsAt-three signed_bytes 16 (signed_in bytes (at + 24)) (signed_in bytes (at + 40)) (signed_in bytes (at + 56)) bytes (at + 24) (at + 40) (at + 56)
    refl refl (omega arith) (omega arith)
    (signed_spelled bytes (at + 24) are momentum_fit.0.long) (signed_spelled bytes (at + 40) are momentum_fit.1.0.long) (signed_spelled bytes (at + 56) are momentum_fit.1.1.0.long) in
    let rho = number_spelled 8 bytes (at + 72) are momentum_fit.1.1.1.0.long in
    let bin = number_spelled 4 bytes (at + 80) are momentum_fit.1.1.1.1.0.long in
    IsAt-append (IsAt-append (IsAt-append (IsAt-append (IsAt-append (IsAt-append one mass refl) h refl) place refl) momentum refl) rho refl) bin refl

-- so many rows, one behind the other
length-rows_in : (bytes : List ℕ) (count at : ℕ) → length (rows_in bytes count at) ≡ count
length-rows_in bytes zero at = refl
length-rows_in bytes (suc count) at = ap suc (length-rows_in bytes count (at + 84))

AllFitAt-split : (bytes : List ℕ) (fs gs : List Field) → AllFitAt bytes (fs ++ gs) → AllFitAt bytes fs × AllFitAt bytes gs
AllFitAt-split bytes [] gs fit = (tt, fit)
AllFitAt-split bytes (f ∷ fs) gs fit = let rest = AllFitAt-split bytes fs gs fit.1 in ((fit.0, rest.0), rest.1)

rows_in_range : (bytes : List ℕ) (count number at : ℕ) → AllFitAt bytes (rows_fields count number at)
    → (k : ℕ) (d : SnapRow) → k < count → IsRow (number + k) (get_or (rows_in bytes count at) k d)
rows_in_range bytes zero number at fit k d h = absurd (omega arith)
rows_in_range bytes (suc count) number at fit zero d h =
    let here : number ≡ number + 0 = omega arith in
    subst (λ n. IsRow n (row_in bytes at)) here
    (IsRow-from_fields bytes number at (AllFitAt-split bytes (row_fields number at) (rows_fields count (suc number) (at + 84)) fit).0)
rows_in_range bytes (suc count) number at fit (suc k) d h =
    let moved : suc number + k ≡ number + suc k = omega arith in
    subst (λ n. IsRow n (get_or (rows_in bytes count (at + 84)) k d)) moved
    (rows_in_range bytes count (suc number) (at + 84) (AllFitAt-split bytes (row_fields number at) (rows_fields count (suc number) (at + 84)) fit).1 k d (omega arith))

rows_spelled : (bytes : List ℕ) (count number at : ℕ) → All IsByte bytes → AllFitAt bytes (rows_fields count number at)
    → IsAt (flat_map row_bytes (rows_in bytes count at)) bytes at
unfolding row_bytes row_in
rows_spelled bytes zero number at are fit = IsAt-nil bytes at
rows_spelled bytes (suc count) number at are fit =
    let split = AllFitAt-split bytes (row_fields number at) (rows_fields count (suc number) (at + 84)) fit in
    IsAt-append (row_spelled bytes number at are split.0) (rows_spelled bytes count (suc number) (at + 84) are split.1) refl

-- ---- snapshots

-- a snapshot in range is spelled at the offset, and its tick is no less than the least one
pub record IsSpelledAt (snapshot : Snapshot) (bytes : List ℕ) (least at : ℕ) : Type 0 where
  pub ranges : IsSnapshot snapshot
  pub tick : least ≤ snapshot.tick
  pub stands : IsAt (spell snapshot) bytes at

-- its fields
all_fit : (bytes : List ℕ) (least at : ℕ) → first_fault bytes (snapshot_fields bytes least at) ≡ None → AllFitAt bytes (snapshot_fields bytes least at)
all_fit bytes least at none =
    AllFitAt-from_none bytes (snapshot_fields bytes least at) (nothing_first (filter_map (field_fault bytes) (snapshot_fields bytes least at)) none)

IsSnapshot-from_fields : (bytes : List ℕ) (least at : ℕ) → AllFitAt bytes (snapshot_fields bytes least at) → IsSnapshot (snapshot_in bytes at)
unfolding snapshot_fields snapshot_in number_in
IsSnapshot-from_fields bytes least at fit =
    let tick = range_of bytes (at + 8) 4 least 65536 fit.0 in
    let count = range_of bytes (at + 12) 4 1 most_particles fit.1.0 in
    let n = number_in bytes (at + 12) 4 in
    let size = length-rows_in bytes n (at + 16) in
    record {
      tick = tick.1;
      some = subst (λ m. 1 ≤ m) (sym size) count.0;
      few = subst (λ m. m ≤ most_particles) (sym size) count.1;
      rows = λ k d h. subst (λ m. IsRow m (get_or (rows_in bytes n (at + 16)) k d)) (one-add k)
          (rows_in_range bytes n 1 (at + 16) fit.1.1 k d (subst (λ m. k < m) size h));
    }

snapshot_spelled : (bytes : List ℕ) (least at : ℕ) → All IsByte bytes → IsMarkAt snapshot_mark bytes at → AllFitAt bytes (snapshot_fields bytes least at)
    → IsAt (spell (snapshot_in bytes at)) bytes at
unfolding snapshot_fields snapshot_in spell number_in
snapshot_spelled bytes least at are marked fit =
    let n = number_in bytes (at + 12) 4 in
    let mark : IsAt snapshot_mark bytes at = record { after = drop 8 (drop at bytes); is = sym (take-append-drop 8 (drop at bytes)) ∙ ap (λ l. l ++ drop 8 (drop at bytes)) marked } in
    let tick = number_spelled 4 bytes (at + 8) are fit.0.long in
    let counted : IsAt (little_bytes 4 (length (rows_in bytes n (at + 16)))) bytes (at + 12) =
    subst (λ m. IsAt (little_bytes 4 m) bytes (at + 12)) (sym (length-rows_in bytes n (at + 16))) (number_spelled 4 bytes (at + 12) are fit.1.0.long) in
    IsAt-append (IsAt-append (IsAt-append mark tick refl) counted refl) (rows_spelled bytes n 1 (at + 16) are fit.1.1) refl

-- where a mark stands and no field has a fault, a snapshot in range is spelled
pub IsSpelledAt-from_fields : (bytes : List ℕ) (least at : ℕ) → All IsByte bytes → IsMarkAt snapshot_mark bytes at
    → first_fault bytes (snapshot_fields bytes least at) ≡ None → IsSpelledAt (snapshot_in bytes at) bytes least at
unfolding snapshot_fields snapshot_in number_in
IsSpelledAt-from_fields bytes least at are marked none =
    let fit = all_fit bytes least at none in
    record {
      ranges = IsSnapshot-from_fields bytes least at fit;
      tick = (range_of bytes (at + 8) 4 least 65536 fit.0).0;
      stands = snapshot_spelled bytes least at are marked fit;
    }
