-- What is read at the fields of a row, and at rows one after the other.
use Rattle.std.proofs.Common.{◌≡◌, ℕ, zero, suc, ◌+◌, ◌-◌, ◌*◌, ◌<◌, ◌≤◌, List, [], ◌∷◌, ◌++◌, refl, sym, ap, ◌∙◌, subst, arith, append_assoc, append-nil}
use Rattle.std.specs.Prelude.{ℤ, ◌==◌, Result}
use Rattle.std.specs.Result.{IsErrAnd}
use Rattle.std.proofs.lemmas.Bool.Decides.{nat_tests}
use Rattle.byteorder.specs.Endian.{little_from}
use Rattle.sph_snap.specs.declared.fault.SnapFault.{SnapFault}
use Rattle.sph_snap.specs.declared.snapshot.SnapRow.{SnapRow}
use Rattle.sph_snap.specs.Fields.{Field, field, between, field_fault, first_fault, row_fields, rows_fields}
use Rattle.sph_snap.specs.inner.Parts.{AllFit, FailsFirst, Gives, number_in, number_field, place_fields, place_in, momentum_fields, momentum_in, row_in, rows_in}
use Rattle.sph_snap.proofs.Fit.{Gives-fault, fails_behind, fails_here, fit_both}

-- the fields of a row from each part on
abbrev pub from_rho : ℕ → List Field
from_rho at = number_field (at + 72) 8 20 2305843009213693951 ++ number_field (at + 80) 4 0 10

abbrev pub from_momentum : ℕ → List Field
from_momentum at = momentum_fields (at + 24) ++ from_rho at

abbrev pub from_place : ℕ → List Field
from_place at = place_fields (at + 12) ++ from_momentum at

abbrev pub from_h : ℕ → List Field
from_h at = number_field (at + 8) 4 1024 131072 ++ from_place at

abbrev pub from_mass : ℕ → List Field
from_mass at = number_field (at + 4) 4 1 65536 ++ from_h at

abbrev pub from_number : ℕ → ℕ → List Field
from_number number at = number_field at 4 number number ++ from_mass at

-- a test for one number
between_same : (number n : ℕ) → between number number n ≡ (n == number)
between_same number n = grind (arith, nat_tests)

same_fault : (bytes : List ℕ) (at number : ℕ) → field_fault bytes (field at 4 (between number number)) ≡ field_fault bytes (field at 4 (λ n. n == number))
unfolding field_fault
same_fault bytes at number = rw (between_same number (little_from at 4 bytes)) refl

-- those are the fields of a row
row_parts : (number at : ℕ) → row_fields number at ≡ field at 4 (λ n. n == number) ∷ from_mass at
unfolding row_fields place_fields momentum_fields
row_parts number at =
    let y : at + 12 + 4 ≡ at + 16 = omega arith in
    let z : at + 12 + 8 ≡ at + 20 = omega arith in
    let qy : at + 24 + 16 ≡ at + 40 = omega arith in
    let qz : at + 24 + 32 ≡ at + 56 = omega arith in
    rw (y, z, qy, qz) refl

same_first : (bytes : List ℕ) (number at : ℕ) → first_fault bytes (row_fields number at) ≡ first_fault bytes (from_number number at)
same_first bytes number at =
    ap (first_fault bytes) (row_parts number at)
    ∙ sym (rw (same_fault bytes at number) refl)

AllFit-row : (bytes : List ℕ) (number at : ℕ) → AllFit bytes (from_number number at) → AllFit bytes (row_fields number at)
AllFit-row bytes number at p = record { none = same_first bytes number at ∙ p.none }

-- what the exit of a `?` between them gives
pub row_fails : (bytes : List ℕ) (number at : ℕ) (r : Result SnapRow SnapFault) (fault : SnapFault) → IsErrAnd r (λ y. y ≡ fault) → FailsFirst bytes (from_number number at) fault
    → Gives bytes (row_fields number at) (row_in bytes at) r
row_fails bytes number at r fault e p = Gives-fault bytes (row_fields number at) (row_in bytes at) r fault e (record { first = same_first bytes number at ∙ p.first })

-- no part fails
pub row_fits : (bytes : List ℕ) (number at n mass h : ℕ) (x : List ℕ) (q : List ℤ) (rho bin : ℕ)
    → AllFit bytes (number_field at 4 number number) → n ≡ number_in bytes at 4
    → AllFit bytes (number_field (at + 4) 4 1 65536) → mass ≡ number_in bytes (at + 4) 4
    → AllFit bytes (number_field (at + 8) 4 1024 131072) → h ≡ number_in bytes (at + 8) 4
    → AllFit bytes (place_fields (at + 12)) → x ≡ place_in bytes (at + 12)
    → AllFit bytes (momentum_fields (at + 24)) → q ≡ momentum_in bytes (at + 24)
    → AllFit bytes (number_field (at + 72) 8 20 2305843009213693951) → rho ≡ number_in bytes (at + 72) 8
    → AllFit bytes (number_field (at + 80) 4 0 10) → bin ≡ number_in bytes (at + 80) 4
    → AllFit bytes (row_fields number at) × (◌≡◌ {A = SnapRow} (record { number = n; mass = mass; h = h; x = x; q = q; rho = rho; bin = bin }) (row_in bytes at))
unfolding row_in place_in momentum_in
row_fits bytes number at n mass h x q rho bin a0 e0 a1 e1 a2 e2 a3 e3 a4 e4 a5 e5 a6 e6 =
    let y : at + 12 + 4 ≡ at + 16 = omega arith in
    let z : at + 12 + 8 ≡ at + 20 = omega arith in
    let qy : at + 24 + 16 ≡ at + 40 = omega arith in
    let qz : at + 24 + 32 ≡ at + 56 = omega arith in
    (AllFit-row bytes number at (fit_both a0 (fit_both a1 (fit_both a2 (fit_both a3 (fit_both a4 (fit_both a5 a6)))))), rw (e0, e1, e2, e3, e4, e5, e6, y, z, qy, qz) refl)

-- the fields of some rows and of those behind them
rows_fields-add : (i j number at : ℕ) → rows_fields (i + j) number at ≡ rows_fields i number at ++ rows_fields j (number + i) (at + 84 * i)
rows_fields-add zero j number at =
    let count : zero + j ≡ j = omega arith in
    let first : number ≡ number + zero = omega arith in
    let here : at ≡ at + 84 * zero = omega arith in
    ap (λ n. rows_fields n number at) count ∙ ap (λ n. rows_fields j n at) first ∙ ap (rows_fields j (number + zero)) here
rows_fields-add (suc i) j number at =
    let count : suc i + j ≡ suc (i + j) = omega arith in
    let first : suc number + i ≡ number + suc i = omega arith in
    let here : at + 84 + 84 * i ≡ at + 84 * suc i = omega arith in
    ap (λ n. rows_fields n number at) count
    ∙ ap (λ l. row_fields number at ++ l) (
    rows_fields-add i j (suc number) (at + 84)
    ∙ ap (λ n. rows_fields i (suc number) (at + 84) ++ rows_fields j n (at + 84 + 84 * i)) first
    ∙ ap (λ k. rows_fields i (suc number) (at + 84) ++ rows_fields j (number + suc i) k) here
    )
    ∙ sym (append_assoc (row_fields number at) (rows_fields i (suc number) (at + 84)) (rows_fields j (number + suc i) (at + 84 * suc i)))

-- one row more
rows_in-more : (bytes : List ℕ) (i at : ℕ) → rows_in bytes (i + 1) at ≡ rows_in bytes i at ++ row_in bytes (at + 84 * i) ∷ []
rows_in-more bytes zero at =
    let here : at ≡ at + 84 * zero = omega arith in
    ap (λ k. row_in bytes k ∷ []) here
rows_in-more bytes (suc i) at =
    let count : suc i + 1 ≡ suc (i + 1) = omega arith in
    let here : at + 84 + 84 * i ≡ at + 84 * suc i = omega arith in
    ap (λ n. rows_in bytes n at) count
    ∙ ap (λ l. row_in bytes at ∷ l) (rows_in-more bytes i (at + 84) ∙ ap (λ k. rows_in bytes i (at + 84) ++ row_in bytes k ∷ []) here)

-- so many rows were read
pub record AreRowsRead (bytes : List ℕ) (at i : ℕ) (rows : List SnapRow) : Type 0 where
  pub fit : AllFit bytes (rows_fields i 1 at)
  pub are : rows ≡ rows_in bytes i at

pub rows_more : (bytes : List ℕ) (at i : ℕ) (rows next : List SnapRow) (row : SnapRow) → AreRowsRead bytes at i rows
    → AllFit bytes (row_fields (i + 1) (at + 84 * i)) → row ≡ row_in bytes (at + 84 * i) → next ≡ rows ++ row ∷ [] → AreRowsRead bytes at (i + 1) next
rows_more bytes at i rows next row so_far fits is put =
    let number : 1 + i ≡ i + 1 = omega arith in
    let fields : rows_fields (i + 1) 1 at ≡ rows_fields i 1 at ++ row_fields (i + 1) (at + 84 * i) =
    rows_fields-add i 1 1 at ∙ ap (λ l. rows_fields i 1 at ++ l) (append-nil (row_fields (1 + i) (at + 84 * i)) ∙ ap (λ n. row_fields n (at + 84 * i)) number) in
    record {
      fit = subst (AllFit bytes) (sym fields) (fit_both so_far.fit fits);
      are = let before = so_far.are in put ∙ ap (λ l. l ++ row ∷ []) before ∙ ap (λ r. rows_in bytes i at ++ r ∷ []) is ∙ sym (rows_in-more bytes i at);
    }

pub rows_fail : (bytes : List ℕ) (at i count : ℕ) (rows : List SnapRow) (fault : SnapFault) → i < count → AreRowsRead bytes at i rows
    → FailsFirst bytes (row_fields (i + 1) (at + 84 * i)) fault → FailsFirst bytes (rows_fields count 1 at) fault
rows_fail bytes at i count rows fault within so_far fails =
    let left = count - suc i in
    let number : 1 + i ≡ i + 1 = omega arith in
    let whole : count ≡ i + suc (count - suc i) = omega arith in
    let fields : rows_fields count 1 at ≡ rows_fields i 1 at ++ (row_fields (i + 1) (at + 84 * i) ++ rows_fields left (suc (1 + i)) (at + 84 * i + 84)) =
    ap (λ n. rows_fields n 1 at) whole ∙ rows_fields-add i (suc left) 1 at
    ∙ ap (λ n. rows_fields i 1 at ++ (row_fields n (at + 84 * i) ++ rows_fields left (suc (1 + i)) (at + 84 * i + 84))) number in
    subst (λ l. FailsFirst bytes l fault) (sym fields)
    (fails_behind so_far.fit (fails_here (rows_fields left (suc (1 + i)) (at + 84 * i + 84)) fails))

pub rows_all : (bytes : List ℕ) (at i count : ℕ) (rows : List SnapRow) → count ≤ i → i ≤ count → AreRowsRead bytes at i rows
    → AllFit bytes (rows_fields count 1 at) × (rows ≡ rows_in bytes count at)
rows_all bytes at i count rows done within so_far =
    let same : i ≡ count = omega arith in
    let all : AreRowsRead bytes at count rows = subst (λ n. AreRowsRead bytes at n rows) same so_far in
    (all.fit, all.are)
