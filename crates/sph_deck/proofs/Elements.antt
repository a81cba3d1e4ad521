-- The elements of the array of particles.
use Rattle.std.proofs.Common.{◌≡◌, ℕ, zero, suc, ◌+◌, ◌<◌, ◌⊎◌, add-one, List, [], ◌∷◌, ◌++◌, map, length, get_or, take, Option, Some, slice_get, inl, inr, refl, ap, ◌∙◌, arith}
use Rattle.std.proofs.lemmas.List.{take_more, length-map, length-take-le, map-append}
use Rattle.sph_num.specs.declared.particle.Particle.{Particle as OneParticle}
use Rattle.toml.specs.Data.{Data}
use Rattle.toml.specs.View.{view}
use Rattle.toml.specs.declared.value.Value.{Value}
use Rattle.sph_deck.specs.declared.fault.DeckFault.{DeckFault}
use Rattle.sph_deck.specs.inner.Meets.{Meets}
use Rattle.sph_deck.specs.inner.Rows.{AreElementsRead, HasElementFault, IsElementFault, IsElementRead}
use Rattle.sph_deck.proofs.Walks.{meets_as, meets_both}

-- an element of a list with one more at its end is one of the list, or that one
element_of : (ds : List Data) (d : Data) (i : ℕ) (element : Data) → slice_get (ds ++ d ∷ []) i ≡ Some element → (slice_get ds i ≡ Some element) ⊎ ((i ≡ length ds) × (d ≡ element))
element_of [] d zero element h = inr (refl, cc)
element_of [] d (suc i) element h = cc
element_of (e ∷ ds) d zero element h = inl h
element_of (e ∷ ds) d (suc i) element h = elim (element_of ds d i element h) [ inl in_front ↦ inl in_front | inr last ↦ inr (ap suc last.0, last.1) ]

-- an element stays where it is when one more is added
element_stays : (ds : List Data) (d : Data) (i : ℕ) (element : Data) → slice_get ds i ≡ Some element → slice_get (ds ++ d ∷ []) i ≡ Some element
element_stays [] d i element h = cc
element_stays (e ∷ ds) d zero element h = h
element_stays (e ∷ ds) d (suc i) element h = element_stays ds d i element h

-- the one that is added stands at the end
element_last : (ds : List Data) (d : Data) → slice_get (ds ++ d ∷ []) (length ds) ≡ Some d
element_last [] d = refl
element_last (e ∷ ds) d = element_last ds d

module _ (ds : List Data) (d : Data) (fault : DeckFault) where
  -- a fault of these elements, or of the one that is added
  fault_pushed : HasElementFault ds fault ⊎ IsElementFault (suc (length ds)) d fault → HasElementFault (ds ++ d ∷ []) fault
  fault_pushed (inl has) = record { index = has.index; element = has.element; found = element_stays ds d has.index has.element has.found; wrong = has.wrong }
  fault_pushed (inr wrong) = record { index = length ds; element = d; found = element_last ds d; wrong = wrong }

  -- and back
  fault_popped : HasElementFault (ds ++ d ∷ []) fault → HasElementFault ds fault ⊎ IsElementFault (suc (length ds)) d fault
  fault_popped has =
      elim (element_of ds d has.index has.element has.found) [
        | inl in_front ↦ inl (record { index = has.index; element = has.element; found = in_front; wrong = has.wrong })
        | inr last ↦ inr (rw (← last.0, last.1) has.wrong)
      ]

-- the faults of one more element
pub meets_more : {a b c : Option DeckFault} (values : List Value) (i : ℕ) (value : Value) → i < length values → value ≡ get_or values i value → Meets (HasElementFault (map view (take i values))) a b
    → Meets (IsElementFault (i + 1) (view value)) b c → Meets (HasElementFault (map view (take (i + 1) values))) a c
meets_more {a} {b} {c} values i value low is m n =
    let front = map view (take i values) in
    let count : length front ≡ i = length-map (take i values) view ∙ length-take-le i values (omega arith) in
    let same : map view (take (i + 1) values) ≡ front ++ view value ∷ [] = rw (take_more values i value low, ← is) (map-append view (take i values) (value ∷ [])) in
    let n' : Meets (IsElementFault (suc (length front)) (view value)) b c = rw (count, ← add-one) n in
    rw same
    (meets_as (λ fault. fault_pushed front (view value) fault) (λ fault. fault_popped front (view value) fault) (meets_both m n'))

-- one more element, and its particle
elements_push : (values : List Value) (particles : List OneParticle) (value : Value) (particle : OneParticle) → AreElementsRead values particles → IsElementRead (view value) particle
    → AreElementsRead (values ++ value ∷ []) (particles ++ particle ∷ [])
elements_push [] [] value particle all here = (here, tt)
elements_push [] (p ∷ ps) value particle all here = absurd all
elements_push (v ∷ vs) [] value particle all here = absurd all
elements_push (v ∷ vs) (p ∷ ps) value particle all here = (all.0, elements_push vs ps value particle all.1 here)

pub elements_more : (values : List Value) (particles : List OneParticle) (i : ℕ) (value : Value) (particle : OneParticle) → i < length values → value ≡ get_or values i value → AreElementsRead (take i values) particles
    → IsElementRead (view value) particle → AreElementsRead (take (i + 1) values) (particles ++ particle ∷ [])
elements_more values particles i value particle low is all here =
    rw (take_more values i value low, ← is) (elements_push (take i values) particles value particle all here)
