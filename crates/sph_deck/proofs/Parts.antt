-- The faults of a table are those of its own row, of the array of particles and of that array's elements.
use Rattle.std.proofs.Common.{◌≡◌, ℕ, suc, zero, ◌⊎◌, true, false, ℤ, ◌≤ℤ◌, List, map, Option, Some, None, Err, IsSome, MatchOption, slice_get, inl, inr, refl, sym, ap, ◌∙◌, subst, arith}
use Rattle.std.proofs.lemmas.Bool.{cases_Bool, false≢true}
use Rattle.std.proofs.lemmas.Int.{ints}
use Rattle.std.proofs.lemmas.Option.{option_and_then_some}
use Rattle.toml.specs.Data.{Data, integer, Items, Members, as_array, as_integer, as_table}
use Rattle.toml.specs.View.{view}
use Rattle.toml.specs.declared.value.Value.{Value}
use Rattle.sph_deck.specs.declared.fault.DeckFault.{DeckFault}
use Rattle.sph_deck.specs.declared.fault.DeckFault.TheVariants.{TooLong, NotToml, Unknown, Missing, WrongKind, OutOfRange, NoParticles, TooMany, BadEvery, BadTicks, BadBins, Sums}
use Rattle.sph_deck.specs.declared.fault.Place.{Place}
use Rattle.sph_deck.specs.declared.key.Key.{Key}
use Rattle.sph_deck.specs.declared.key.Key.TheVariants.{Particle}
use Rattle.sph_deck.specs.Document.{value_at, elements, table_at}
use Rattle.sph_deck.specs.Faults.{IsKeyOf, IsMissingAt, IsNoTableAt, IsOfKind, IsOutside, IsUnknownAt, IsWrongAt, StandsInTable}
use Rattle.sph_deck.specs.inner.Judged.{place_at, judged, is_within}
use Rattle.sph_deck.specs.Keys.{is_top, number_of, range_of, IsOwn}
use Rattle.sph_deck.specs.inner.Meets.{Meets}
use Rattle.sph_deck.specs.inner.Row.{IsRowFault, unknown_name, at_key}
use Rattle.sph_deck.specs.inner.Rows.{HasElementFault, IsArrayFault, judged_array, judged_items}
use Rattle.sph_deck.proofs.Array.{fault_of_array}
use Rattle.sph_deck.proofs.Standing.{fault_of_row, fault_of_elements}
use Rattle.sph_deck.proofs.Walks.{meets_as, meets_both}

-- a fault of one of the three parts
abbrev pub IsOfPart : Members → DeckFault → Type 0
IsOfPart top fault = IsRowFault true 0 top fault ⊎ (IsArrayFault top fault ⊎ HasElementFault (elements top) fault)

-- such a fault stands in the table
pub part_stands : (top : Members) (fault : DeckFault) → IsOfPart top fault → StandsInTable top fault
part_stands top fault (inl row) = fault_of_row top 0 top fault refl row
part_stands top fault (inr (inl whole)) = fault_of_array top fault whole
part_stands top fault (inr (inr has)) = fault_of_elements top fault has

-- a key wants an integer, or it is that of the array of particles
wants_or_is : (key : Key) → IsSome (range_of key) ⊎ (key ≡ Particle)
wants_or_is Particle = inr refl
wants_or_is _ = inl refl

-- a place by its key
place_is : (place : Place) (n : ℕ) → place.key ≡ n → record { key = n; row = place.row } ≡ place
place_is place n h = ap (place_in place.row) (sym h)
  where
    place_in : ℕ → ℕ → Place
    place_in row key = record { key = key; row = row }

-- a fault of a row is one of the top's own, or of an element
row_part : (top : Members) (row : ℕ) (table : Members) (fault : DeckFault) → table_at top row ≡ Some table → IsRowFault (is_top row) row table fault → IsOfPart top fault
row_part top zero table fault at h =
    let same : table ≡ top = cc in
    let P : Members → Type 0 = λ t. IsRowFault true 0 t fault in
    inl (subst P same h)
row_part top (suc i) table fault at h =
    option_and_then_some as_table (slice_get (elements top) i) table at
    (λ element found is.
    let P : Option Members → Type 0 = λ o. MatchOption o (fault ≡ WrongKind (place_at Particle (suc i))) (λ t. IsRowFault false (suc i) t fault) in
    inr (inr (record { index = i; element = element; found = found; wrong = subst P (sym is) h })))

-- the fault at a key that wants an integer, of this kind at its place
key_part : (top : Members) (place : Place) (key : Key) (table : Members) (kind : Place → DeckFault) → IsKeyOf top place key table → IsSome (range_of key)
    → judged key place.row (value_at key table) ≡ Err (kind (place_at key place.row)) → IsOfPart top (kind place)
key_part top place key table kind at wants is =
    let P : Place → Type 0 = λ p. IsRowFault (is_top place.row) place.row table (kind p) in
    row_part top place.row table (kind place) at.row
    (subst P (place_is place (number_of key) at.number) (at_key key (kind (place_at key place.row)) at.own wants is))

-- the key of the array is one of the top's
array_at : (top : Members) (row : ℕ) (table : Members) → IsOwn Particle row → table_at top row ≡ Some table → (row ≡ 0) × (top ≡ table)
array_at top zero table own at = (refl, cc)
array_at top (suc i) table own at = cc

-- the fault at that key
array_part : (top : Members) (place : Place) (key : Key) (table : Members) (kind : Place → DeckFault) → IsKeyOf top place key table → key ≡ Particle
    → judged_array (value_at key table) ≡ Err (kind (place_at Particle 0)) → IsOfPart top (kind place)
array_part top place key table kind at is h =
    let own : IsOwn Particle place.row = subst (λ (k : Key). IsOwn k place.row) is at.own in
    let (zeroth, same) = array_at top place.row table own at.row in
    let number : place.key ≡ number_of Particle = at.number ∙ ap number_of is in
    let there : place_at Particle 0 ≡ place = ap (λ (row : ℕ). place_in_row row) (sym zeroth) ∙ place_is place (number_of Particle) number in
    let judged_there : judged_array (value_at Particle top) ≡ Err (kind (place_at Particle 0)) = let e = ap (λ (k : Key). value_at k table) is in rw (same, ← e) h in
    inr (inl (rw judged_there (ap kind (sym there))))
  where
    place_in_row : ℕ → Place
    place_in_row row = record { key = number_of Particle; row = row }

-- a missing value is judged so
judged_missing : (key : Key) (row : ℕ) (v : Option Data) → v ≡ None → judged key row v ≡ Err (Missing (place_at key row))
unfolding judged
judged_missing key row v is = rw is refl

-- a value of another kind has no integer
no_integer : (range : Option (ℤ × ℤ)) (value : Data) (o : Option ℤ) → IsSome range → as_integer value ≡ o → (IsOfKind range value → ⊥) → o ≡ None
no_integer None value o some is wrong = absurd (false≢true some)
no_integer (Some range) value None some is wrong = refl
no_integer (Some range) value (Some z) some is wrong = absurd (wrong (rw is refl))

-- so it is judged so
judged_wrong : (key : Key) (row : ℕ) (v : Option Data) (value : Data) → v ≡ Some value → as_integer value ≡ None → judged key row v ≡ Err (WrongKind (place_at key row))
unfolding judged
judged_wrong key row v value found none = rw (found, none) refl

-- a value of another kind has no items
no_items_at : (range : Option (ℤ × ℤ)) (value : Data) (o : Option Items) → range ≡ None → as_array value ≡ o → (IsOfKind range value → ⊥) → judged_items o ≡ Err (WrongKind (place_at Particle 0))
no_items_at None value None none is wrong = refl
no_items_at None value (Some items) none is wrong = absurd (wrong (rw is refl))
no_items_at (Some range) value o none is wrong = cc

-- an integer that is not within the ends is out of the range
out_of : (low high z : ℤ) → ((low ≤ℤ z) × (z ≤ℤ high) → ⊥) → is_within (low, high) z ≡ false
out_of low high z outside = elim (cases_Bool (is_within (low, high) z)) [ inl within ↦ absurd (outside (grind (arith, ints))) | inr out ↦ out ]

-- so it is judged so
judged_outside : (key : Key) (row : ℕ) (v : Option Data) (z low high : ℤ) → v ≡ Some (integer z) → range_of key ≡ Some (low, high) → is_within (low, high) z ≡ false
    → judged key row v ≡ Err (OutOfRange (place_at key row) z)
unfolding judged
judged_outside key row v z low high found ranges out = rw (found, ranges, out) refl

-- the fault of a name that is unknown
unknown_part : (top : Members) (place : Place) → IsUnknownAt top place → IsOfPart top (Unknown place)
unknown_part top place u =
    let P : Place → Type 0 = λ p. IsRowFault (is_top place.row) place.row u.table (Unknown p) in
    row_part top place.row u.table (Unknown place) u.row
    (subst P (place_is place 0 u.no_key) (unknown_name (record { name = u.name; stands = u.stands; unknown = u.unknown })))

-- of a key that is missing
missing_part : (top : Members) (place : Place) → IsMissingAt top place → IsOfPart top (Missing place)
missing_part top place m =
    elim (wants_or_is m.key) [
      | inl wants ↦ key_part top place m.key m.table Missing m.at wants (judged_missing m.key place.row (value_at m.key m.table) m.missing)
      | inr is ↦ array_part top place m.key m.table Missing m.at is (rw m.missing refl)
    ]

-- of a value of another kind
wrong_part : (top : Members) (place : Place) → IsWrongAt top place → IsOfPart top (WrongKind place)
wrong_part top place w =
    elim (wants_or_is w.key) [
      | inl wants ↦
          key_part top place w.key w.table WrongKind w.at wants
          (judged_wrong w.key place.row (value_at w.key w.table) w.value w.found (no_integer (range_of w.key) w.value (as_integer w.value) wants refl w.wrong))
      | inr is ↦
          array_part top place w.key w.table WrongKind w.at is
          (rw w.found (no_items_at (range_of w.key) w.value (as_array w.value) (ap range_of is) refl w.wrong))
    ]

-- of an element that is no table
no_table_part : (top : Members) (place : Place) → IsNoTableAt top place → IsOfPart top (WrongKind place)
no_table_part top place n =
    let there : place_at Particle (suc n.index) ≡ place = rw (← n.row) (place_is place (number_of Particle) n.number) in
    let P : Option Members → Type 0 = λ o. MatchOption o (WrongKind place ≡ WrongKind (place_at Particle (suc n.index))) (λ table. IsRowFault false (suc n.index) table (WrongKind place)) in
    inr (inr (record { index = n.index; element = n.element; found = n.found; wrong = subst P (sym n.no_table) (ap WrongKind (sym there)) }))

-- and of an integer outside its range
outside_part : (top : Members) (place : Place) (z : ℤ) → IsOutside top place z → IsOfPart top (OutOfRange place z)
outside_part top place z o =
    key_part top place o.key o.table (λ p. OutOfRange p z) o.at (rw o.range refl)
    (judged_outside o.key place.row (value_at o.key o.table) z o.low o.high o.found o.range (out_of o.low o.high z o.outside))

-- each fault that stands in the table is one of a part
pub part_of : (top : Members) (fault : DeckFault) → StandsInTable top fault → IsOfPart top fault
part_of top (Unknown place) h = unknown_part top place h
part_of top (Missing place) h = missing_part top place h
part_of top (WrongKind place) (inl h) = wrong_part top place h
part_of top (WrongKind place) (inr h) = no_table_part top place h
part_of top (OutOfRange place z) h = outside_part top place z h
part_of top NoParticles h = inr (inl (rw h.found (let e = h.count_is in rw h.found at e)))
part_of top (TooMany count) h =
    inr (inl (rw h.0.found (let e = h.0.count_is in let e' = rw h.0.found at e in (e', rw e' h.1))))
part_of top TooLong h = absurd h
part_of top NotToml h = absurd h
part_of top (BadEvery every unit) h = absurd h
part_of top (BadTicks ticks every) h = absurd h
part_of top (BadBins low high) h = absurd h
part_of top (Sums bound) h = absurd h

-- the faults of a walk over the three parts
pub table_met : {a b c : Option DeckFault} (top : Members) (values : List Value) → elements top ≡ map view values → Meets (IsRowFault true 0 top) None a → Meets (IsArrayFault top) a b
    → Meets (HasElementFault (map view values)) b c → Meets (StandsInTable top) None c
table_met {b = b} {c = c} top values e row whole has =
    let has' : Meets (HasElementFault (elements top)) b c = rw e has in
    meets_as (part_stands top) (part_of top) (meets_both row (meets_both whole has'))
