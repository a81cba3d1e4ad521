-- The array of particles.
use Rattle.std.proofs.Common.{◌≡◌, ℕ, List, [], ◌∷◌, map, length, Option, Some, None, Result, Ok, Err, MatchResult, refl, sym, ap, subst, ◌∙◌, inl}
use Rattle.std.proofs.lemmas.Bool.{false≢true}
use Rattle.std.proofs.lemmas.List.{length-map}
use Rattle.toml.specs.Data.{Data, array, Items, Members, as_array}
use Rattle.toml.specs.View.{view, items_view}
use Rattle.toml.specs.declared.value.Value.{Value}
use Rattle.sph_deck.specs.declared.fault.DeckFault.{DeckFault}
use Rattle.sph_deck.specs.declared.fault.DeckFault.TheVariants.{Missing, WrongKind, NoParticles, TooMany}
use Rattle.sph_deck.specs.declared.key.Key.TheVariants.{Particle}
use Rattle.sph_deck.specs.Document.{value_at, elements, elements_at, list_of_items}
use Rattle.sph_deck.specs.Faults.{StandsInTable}
use Rattle.sph_deck.specs.inner.Judged.{place_at}
use Rattle.sph_deck.specs.inner.Meets.{Meets}
use Rattle.sph_deck.specs.inner.Rows.{judged_array, judged_items, IsArrayFault, IsCountFault}

-- an array's elements are its values' data
list_of_items-view : (values : List Value) → list_of_items (items_view values) ≡ map view values
list_of_items-view [] = refl
list_of_items-view (value ∷ values) = ap (λ ds. view value ∷ ds) (list_of_items-view values)

-- the elements of an array that was found
pub elements-found : (top : Members) (values : List Value) → value_at Particle top ≡ Some (array (items_view values)) → elements top ≡ map view values
elements-found top values found = ap elements_at found ∙ list_of_items-view values

-- items that were judged are those of an array
items_found : (value : Data) (o : Option Items) (items : Items) → as_array value ≡ o → judged_items o ≡ Ok items → o ≡ Some items
items_found value None items is h = cc
items_found value (Some ds) items is h = cc

-- a value that has items is their array
array_is : (value : Data) (items : Items) → as_array value ≡ Some items → value ≡ array items
array_is (array ds) items h = cc
array_is _ items h = cc

-- an array that was judged stands there
found_of : (v : Option Data) (items : Items) → judged_array v ≡ Ok items → v ≡ Some (array items)
found_of None items h = cc
found_of (Some value) items h = ap Some (array_is value items (items_found value (as_array value) items refl h))

-- so it stands at the key
pub array_found : (top : Members) (items : Items) → judged_array (value_at Particle top) ≡ Ok items → value_at Particle top ≡ Some (array items)
array_found top items h = found_of (value_at Particle top) items h

-- the faults of an array of so many elements
pub meets_count : {a b : Option DeckFault} (top : Members) (values : List Value) → judged_array (value_at Particle top) ≡ Ok (items_view values) → Meets (IsCountFault (length values)) a b → Meets (IsArrayFault top) a b
meets_count {a} {b} top values is m =
    let count : length (list_of_items (items_view values)) ≡ length values = ap length (list_of_items-view values) ∙ length-map values view in
    let P : ℕ → Type 0 = λ n. Meets (IsCountFault n) a b in
    let Q : Result Items DeckFault → Type 0 = λ r. Meets (λ fault. MatchResult r (λ items. IsCountFault (length (list_of_items items)) fault) (λ wrong. fault ≡ wrong)) a b in
    subst Q (sym is) (subst P (sym count) m)

-- an array that was judged has its elements
pub elements_judged : (top : Members) (values : List Value) → judged_array (value_at Particle top) ≡ Ok (items_view values) → elements top ≡ map view values
elements_judged top values h = elements-found top values (array_found top (items_view values) h)

-- a value that has no items is of a wrong kind
no_array : (value : Data) (o : Option Items) (fault : DeckFault) → as_array value ≡ o → judged_items o ≡ Err fault → (o ≡ None) × (WrongKind (place_at Particle 0) ≡ fault)
no_array value None fault is h = (refl, cc)
no_array value (Some ds) fault is h = cc

-- the fault, by what stands at the key
fault_of : (top : Members) (v : Option Data) (fault : DeckFault) → value_at Particle top ≡ v → judged_array v ≡ Err fault → StandsInTable top fault
fault_of top None fault is h =
    let same : Missing (place_at Particle 0) ≡ fault = cc in
    rw (← same) (record { key = Particle; table = top; at = record { number = refl; own = refl; row = refl }; missing = is })
fault_of top (Some value) fault is h =
    let (none, same) = no_array value (as_array value) fault refl h in
    rw (← same)
    (inl (record { key = Particle; table = top; at = record { number = refl; own = refl; row = refl }; value = value; found = is; wrong = λ some. false≢true (rw none at some) }))

-- a fault of the array stands, by what is judged at its key
fault_by : (top : Members) (fault : DeckFault) (r : Result Items DeckFault) → judged_array (value_at Particle top) ≡ r → MatchResult r (λ items. IsCountFault (length (list_of_items items)) fault) (λ wrong. fault ≡ wrong)
    → StandsInTable top fault
fault_by top fault (Err wrong) is h = rw h (fault_of top (value_at Particle top) wrong refl is)
fault_by top NoParticles (Ok items) is h =
    let found = array_found top items is in
    record { items = items; found = found; count_is = ap (λ v. length (elements_at v)) found ∙ h }
fault_by top (TooMany many) (Ok items) is h =
    let found = array_found top items is in
    (record { items = items; found = found; count_is = ap (λ v. length (elements_at v)) found ∙ h.0 }, rw (← h.0) h.1)
fault_by top _ (Ok items) is h = absurd h

-- so it stands
pub fault_of_array : (top : Members) (fault : DeckFault) → IsArrayFault top fault → StandsInTable top fault
fault_of_array top fault h = fault_by top fault (judged_array (value_at Particle top)) refl h
