-- Fields one after the other: whether all of them fit, and which fault is the first.
use Rattle.std.proofs.Common.{◌≡◌, ℕ, ◌+◌, ◌<◌, ◌≤◌, ◌⊎◌, true, false, List, [], ◌∷◌, ◌++◌, length, Option, Some, None, refl, sym, ap, ◌∙◌, subst, arith}
use Rattle.std.specs.Prelude.{slice_get, filter_map, nat_lt, Result, Ok, Err}
use Rattle.std.specs.Result.{IsErrAnd}
use Rattle.std.proofs.lemmas.Bool.Decides.{nat_tests}
use Rattle.std.proofs.lemmas.List.Elements.{filter_map-append}
use Rattle.byteorder.specs.Endian.{little_from}
use Rattle.sph_snap.specs.declared.fault.SnapFault.{SnapFault}
use Rattle.sph_snap.specs.declared.fault.SnapFault.TheVariants.{Memory, Range, Short}
use Rattle.sph_snap.specs.Fields.{Field, field_fault, first_fault}
use Rattle.sph_snap.specs.inner.Parts.{AllFit, FailsFirst, Gives, GivesInRoom}

-- what stands first in two lists
first-append : {X : Type 0} (xs ys : List X) → slice_get xs 0 ≡ None → slice_get (xs ++ ys) 0 ≡ slice_get ys 0
first-append [] ys e = refl
first-append (x ∷ xs) ys e = cc

first-append-some : {X : Type 0} (xs ys : List X) (x : X) → slice_get xs 0 ≡ Some x → slice_get (xs ++ ys) 0 ≡ Some x
first-append-some [] ys x e = cc
first-append-some (y ∷ xs) ys x e = e

-- no field of either list has a fault
pub fit_both : {bytes : List ℕ} {xs ys : List Field} → AllFit bytes xs → AllFit bytes ys → AllFit bytes (xs ++ ys)
fit_both {bytes = bytes} {xs = xs} {ys = ys} p q = record {
  none =
      ap (λ l. slice_get l 0) (filter_map-append (field_fault bytes) xs ys)
      ∙ first-append (filter_map (field_fault bytes) xs) (filter_map (field_fault bytes) ys) p.none ∙ q.none;
}

-- the first fault stands in the first list, or in the second
pub fails_here : {bytes : List ℕ} {xs : List Field} {fault : SnapFault} (ys : List Field) → FailsFirst bytes xs fault → FailsFirst bytes (xs ++ ys) fault
fails_here {bytes = bytes} {xs = xs} {fault = fault} ys p = record {
  first =
      ap (λ l. slice_get l 0) (filter_map-append (field_fault bytes) xs ys)
      ∙ first-append-some (filter_map (field_fault bytes) xs) (filter_map (field_fault bytes) ys) fault p.first;
}

pub fails_behind : {bytes : List ℕ} {xs ys : List Field} {fault : SnapFault} → AllFit bytes xs → FailsFirst bytes ys fault → FailsFirst bytes (xs ++ ys) fault
fails_behind {bytes = bytes} {xs = xs} {ys = ys} p q = record {
  first =
      ap (λ l. slice_get l 0) (filter_map-append (field_fault bytes) xs ys)
      ∙ first-append (filter_map (field_fault bytes) xs) (filter_map (field_fault bytes) ys) p.none ∙ q.first;
}

-- one field alone
one_fault : (bytes : List ℕ) (f : Field) (o : Option SnapFault) → field_fault bytes f ≡ o → first_fault bytes (f ∷ []) ≡ o
one_fault bytes f None e = rw e refl
one_fault bytes f (Some fault) e = rw e refl

pub AllFit-one : (bytes : List ℕ) (f : Field) → f.offset + f.size ≤ length bytes → f.fits (little_from f.offset f.size bytes) ≡ true → AllFit bytes (f ∷ [])
unfolding field_fault
AllFit-one bytes f long fits =
    let there : nat_lt (length bytes) (f.offset + f.size) ≡ false = grind (arith, nat_tests) in
    record { none = one_fault bytes f None (rw (there, fits) refl) }

pub FailsFirst-short : (bytes : List ℕ) (f : Field) → length bytes < f.offset + f.size → FailsFirst bytes (f ∷ []) (Short f.offset)
unfolding field_fault
FailsFirst-short bytes f short =
    let cut : nat_lt (length bytes) (f.offset + f.size) ≡ true = grind (arith, nat_tests) in
    record { first = one_fault bytes f (Some (Short f.offset)) (rw cut refl) }

pub FailsFirst-range : (bytes : List ℕ) (f : Field) → f.offset + f.size ≤ length bytes → f.fits (little_from f.offset f.size bytes) ≡ false → FailsFirst bytes (f ∷ []) (Range f.offset)
unfolding field_fault
FailsFirst-range bytes f long fits =
    let there : nat_lt (length bytes) (f.offset + f.size) ≡ false = grind (arith, nat_tests) in
    record { first = one_fault bytes f (Some (Range f.offset)) (rw (there, fits) refl) }

-- what the exit of a `?` gives
pub Gives-fault : {X : Type 0} (bytes : List ℕ) (fields : List Field) (value : X) (r : Result X SnapFault) (fault : SnapFault)
    → IsErrAnd r (λ y. y ≡ fault) → FailsFirst bytes fields fault → Gives bytes fields value r
Gives-fault bytes fields value (Ok x) fault e p = absurd e
Gives-fault bytes fields value (Err y) fault e p = subst (FailsFirst bytes fields) (sym e) p

-- the same, where memory may run out
pub GivesInRoom-fault : {X Y : Type 0} (view : X → Y) (bytes : List ℕ) (fields : List Field) (value : Y) (r : Result X SnapFault) (fault : SnapFault)
    → IsErrAnd r (λ y. y ≡ fault) → (fault ≡ Memory) ⊎ FailsFirst bytes fields fault → GivesInRoom view bytes fields value r
GivesInRoom-fault view bytes fields value (Ok x) fault e p = absurd e
GivesInRoom-fault view bytes fields value (Err y) fault e p = subst (λ z. (z ≡ Memory) ⊎ FailsFirst bytes fields z) (sym e) p
