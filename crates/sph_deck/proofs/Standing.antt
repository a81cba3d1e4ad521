-- The faults of a row and of an element stand in the document.
use Rattle.std.proofs.Common.{◌≡◌, ℕ, suc, false, ℤ, ◌≤ℤ◌, Option, Some, None, Err, IsSome, MatchOption, option_and_then, slice_get, refl, ap, ◌∙◌, inl, inr, arith}
use Rattle.std.proofs.lemmas.Bool.{cases_Bool, false≢true}
use Rattle.std.proofs.lemmas.Int.{ints}
use Rattle.toml.specs.Data.{Data, integer, Members, as_integer, as_table}
use Rattle.sph_deck.specs.declared.fault.DeckFault.{DeckFault}
use Rattle.sph_deck.specs.declared.fault.DeckFault.TheVariants.{Missing, WrongKind, OutOfRange}
use Rattle.sph_deck.specs.declared.key.Key.{Key}
use Rattle.sph_deck.specs.declared.key.Key.TheVariants.{Particle}
use Rattle.sph_deck.specs.Document.{value_at, elements, table_at}
use Rattle.sph_deck.specs.Faults.{IsKeyOf, IsOfKind, StandsInTable}
use Rattle.sph_deck.specs.inner.Judged.{place_at, judged, judged_number, judged_integer, is_within}
use Rattle.sph_deck.specs.Keys.{is_top, range_of}
use Rattle.sph_deck.specs.inner.Row.{IsRowFault, unknown_name, at_key}
use Rattle.sph_deck.specs.inner.Rows.{HasElementFault}

-- a value that has an integer is that integer
integer_is : (value : Data) (z : ℤ) → as_integer value ≡ Some z → value ≡ integer z
integer_is (integer n) z h = cc
integer_is _ z h = cc

-- what is out of a range is not within its ends
out_of_range : (range : ℤ × ℤ) (z : ℤ) → is_within range z ≡ false → (range.0 ≤ℤ z) × (z ≤ℤ range.1) → ⊥
out_of_range range z out ends = grind (arith, ints)

module _ (top : Members) (row : ℕ) (table : Members) (key : Key) (fault : DeckFault) (at : IsKeyOf top (place_at key row) key table) where
  -- an integer outside the key's range
  stands_by_integer : (value : Data) (z : ℤ) (o : Option (ℤ × ℤ)) → value_at key table ≡ Some value → value ≡ integer z → range_of key ≡ o → IsSome o → judged_integer key row o z ≡ Err fault → StandsInTable top fault
  stands_by_integer value z None found is ranges some h = absurd (false≢true some)
  stands_by_integer value z (Some range) found is ranges some h =
      elim (cases_Bool (is_within range z)) [
        | inl within ↦ let e = rw within at h in cc
        | inr out ↦
            let e : OutOfRange (place_at key row) z ≡ fault = let e = rw out at h in cc in
            rw (← e)
            (record { key = key; table = table; at = at; found = found ∙ ap Some is; low = range.0; high = range.1; range = ranges; outside = out_of_range range z out })
      ]

  -- a value that has no integer is not of the kind of a key that wants one
  no_integer : (o : Option (ℤ × ℤ)) (value : Data) → IsSome o → as_integer value ≡ None → IsOfKind o value → ⊥
  no_integer None value some none h = false≢true some
  no_integer (Some range) value some none h = false≢true (rw none at h)

  -- a value that may be no integer
  stands_by_number : (value : Data) (o : Option ℤ) → value_at key table ≡ Some value → as_integer value ≡ o → IsSome (range_of key) → judged_number key row o ≡ Err fault → StandsInTable top fault
  stands_by_number value None found is wants h =
      let e : WrongKind (place_at key row) ≡ fault = cc in
      rw (← e)
      (inl (record { key = key; table = table; at = at; value = value; found = found; wrong = no_integer (range_of key) value wants is }))
  stands_by_number value (Some z) found is wants h = stands_by_integer value z (range_of key) found (integer_is value z is) refl wants h

  -- what may stand at the key
  stands_by_value : (v : Option Data) → value_at key table ≡ v → IsSome (range_of key) → judged key row v ≡ Err fault → StandsInTable top fault
  unfolding judged
  stands_by_value None is wants h =
      let e : Missing (place_at key row) ≡ fault = cc in
      rw (← e) (record { key = key; table = table; at = at; missing = is })
  stands_by_value (Some value) is wants h = stands_by_number value (as_integer value) is refl wants h

-- the fault of a row stands where the document has the row's table
pub fault_of_row : (top : Members) (row : ℕ) (table : Members) (fault : DeckFault) → table_at top row ≡ Some table → IsRowFault (is_top row) row table fault → StandsInTable top fault
fault_of_row top row table fault at (unknown_name has) =
    record { no_key = refl; table = table; row = at; name = has.name; stands = has.stands; unknown = has.unknown }
fault_of_row top row table fault at (at_key key f own wants is) =
    stands_by_value top row table key fault (record { number = refl; own = own; row = at }) (value_at key table) refl wants is

-- the fault of an element, by whether it is a table
fault_by_table : (top : Members) (i : ℕ) (element : Data) (fault : DeckFault) (o : Option Members) → slice_get (elements top) i ≡ Some element → as_table element ≡ o
    → MatchOption o (fault ≡ WrongKind (place_at Particle (suc i))) (λ table. IsRowFault false (suc i) table fault) → StandsInTable top fault
fault_by_table top i element fault None found is wrong =
    rw wrong (inr (record { number = refl; index = i; row = refl; element = element; found = found; no_table = is }))
fault_by_table top i element fault (Some table) found is wrong =
    fault_of_row top (suc i) table fault (ap (option_and_then as_table) found ∙ is) wrong

-- so does the fault of an element
pub fault_of_elements : (top : Members) (fault : DeckFault) → HasElementFault (elements top) fault → StandsInTable top fault
fault_of_elements top fault has = fault_by_table top has.index has.element fault (as_table has.element) has.found refl has.wrong
