-- The first fault of a text: there is one at most.
use Rattle.std.proofs.Common.{◌≡◌, ℕ, ◌^◌, ◌<◌, ◌⊎◌, ℤ, List, length, Some, Result, Ok, Err, IsOk, refl, sym, ap, ◌∙◌, subst, inl, inr, arith}
use Rattle.sph_num.specs.Bound.{bound_of}
use Rattle.toml.specs.Data.{integer, Members}
use Rattle.sph_deck.specs.declared.deck.Deck.{Deck}
use Rattle.sph_deck.specs.declared.fault.DeckFault.{DeckFault}
use Rattle.sph_deck.specs.declared.fault.DeckFault.TheVariants.{TooLong, NotToml, Unknown, Missing, WrongKind, OutOfRange, NoParticles, TooMany, BadEvery, BadTicks, BadBins, Sums}
use Rattle.sph_deck.specs.declared.fault.Place.{Place}
use Rattle.sph_deck.specs.declared.key.Key.{Key}
use Rattle.sph_deck.specs.declared.refusal.DeckRefusal.{DeckRefusal}
use Rattle.sph_deck.specs.declared.refusal.DeckRefusal.TheVariants.{Fault, Memory}
use Rattle.sph_deck.specs.Document.{IsDocument, value_at, params_of, particles_of}
use Rattle.sph_deck.specs.Faults.{Stands, IsAccepted, IsKeyOf, IsOutside, HasElements, longest_text}
use Rattle.sph_deck.specs.FirstFault.{AnswersDeck, IsFirstFault, IsNoLater, IsPlaceNoLater, kind_of, place_of}
use Rattle.sph_deck.specs.Keys.{key_numbered, number_of}
use Rattle.sph_deck.proofs.KeyNumbers.{key_numbered-number_of}

-- bytes are one document at most
pub IsDocument-unique : (bytes : List ℕ) (top other : Members) → IsDocument bytes top → IsDocument bytes other → top ≡ other
IsDocument-unique bytes top other a b = let p = a.parsed in let q = b.parsed in cc

-- a place names one key of its row's table at most
IsKeyOf-unique : (top : Members) (place : Place) (a b : Key) (s t : Members) → IsKeyOf top place a s → IsKeyOf top place b t → (a ≡ b) × (s ≡ t)
IsKeyOf-unique top place a b s t p q =
    let is : number_of a ≡ number_of b = sym p.number ∙ q.number in
    let row = p.row in
    let same = q.row in
    let keys : Some a ≡ Some b = sym (key_numbered-number_of a) ∙ ap key_numbered is ∙ key_numbered-number_of b in
    (cc, cc)

-- the integer at a place is one
IsOutside-unique : (top : Members) (place : Place) (x y : ℤ) → IsOutside top place x → IsOutside top place y → x ≡ y
IsOutside-unique top place x y a b =
    let same = IsKeyOf-unique top place a.key b.key a.table b.table a.at b.at in
    let p : value_at b.key b.table ≡ Some (integer x) = subst (λ t. value_at b.key t ≡ Some (integer x)) same.1
    (subst (λ k. value_at k a.table ≡ Some (integer x)) same.0 a.found) in
    let q = b.found in
    cc

-- the number of elements is one
HasElements-unique : (top : Members) (m n : ℕ) → HasElements top m → HasElements top n → m ≡ n
HasElements-unique top m n a b = sym a.count_is ∙ b.count_is

-- two faults of one kind at one place of a text are the same
Stands-unique : (bytes : List ℕ) (a b : DeckFault) → kind_of a ≡ kind_of b → place_of a ≡ place_of b → Stands bytes a → Stands bytes b → a ≡ b
Stands-unique bytes TooLong TooLong kind place s t = refl
Stands-unique bytes NotToml NotToml kind place s t = refl
Stands-unique bytes (Unknown p) (Unknown q) kind place s t = ap Unknown place
Stands-unique bytes (Missing p) (Missing q) kind place s t = ap Missing place
Stands-unique bytes (WrongKind p) (WrongKind q) kind place s t = ap WrongKind place
Stands-unique bytes (OutOfRange p x) (OutOfRange q y) kind place s t =
    let top = IsDocument-unique bytes t.0 s.0 t.1 s.1 in
    let there : IsOutside s.0 p y = subst (λ m. IsOutside m p y) top (subst (λ r. IsOutside t.0 r y) (sym place) t.2) in
    let value = IsOutside-unique s.0 p x y s.2 there in
    ap (λ r. OutOfRange r x) place ∙ ap (OutOfRange q) value
Stands-unique bytes NoParticles NoParticles kind place s t = refl
Stands-unique bytes (TooMany m) (TooMany n) kind place s t =
    let top = IsDocument-unique bytes t.0 s.0 t.1 s.1 in
    ap TooMany (HasElements-unique s.0 m n s.2.0 (subst (λ o. HasElements o n) top t.2.0))
Stands-unique bytes (BadEvery every unit) (BadEvery every' unit') kind place s t =
    let top = IsDocument-unique bytes s.0 t.0 s.1.document t.1.document in
    let first = sym s.2.0 ∙ ap (λ o. (params_of o).every) top ∙ t.2.0 in
    let second = sym s.2.1 ∙ ap (λ o. 2 ^ (params_of o).bin_max) top ∙ t.2.1 in
    ap (λ n. BadEvery n unit) first ∙ ap (BadEvery every') second
Stands-unique bytes (BadTicks ticks every) (BadTicks ticks' every') kind place s t =
    let top = IsDocument-unique bytes s.0 t.0 s.1.document t.1.document in
    let first = sym s.2.0 ∙ ap (λ o. (params_of o).ticks) top ∙ t.2.0 in
    let second = sym s.2.1 ∙ ap (λ o. (params_of o).every) top ∙ t.2.1 in
    ap (λ n. BadTicks n every) first ∙ ap (BadTicks ticks') second
Stands-unique bytes (BadBins low high) (BadBins low' high') kind place s t =
    let top = IsDocument-unique bytes s.0 t.0 s.1.document t.1.document in
    let first = sym s.2.0 ∙ ap (λ o. (params_of o).bin_min) top ∙ t.2.0 in
    let second = sym s.2.1 ∙ ap (λ o. (params_of o).bin_max) top ∙ t.2.1 in
    ap (λ n. BadBins n high) first ∙ ap (BadBins low') second
Stands-unique bytes (Sums bound) (Sums bound') kind place s t =
    let top = IsDocument-unique bytes s.0 t.0 s.1.document t.1.document in
    ap Sums (sym s.2.0 ∙ ap (λ o. bound_of (params_of o) (particles_of o)) top ∙ t.2.0)
Stands-unique bytes a b kind _ _ _ = absurd (omega arith)

abbrev place : ℕ → ℕ → Place
place key row = record { key = key; row = row }

-- two places that come no later than each other are one
Place-antisym : (a b : Place) → IsPlaceNoLater a b → IsPlaceNoLater b a → a ≡ b
Place-antisym a b p q =
    let key : a.key ≡ b.key = omega arith in
    let row : a.row ≡ b.row = omega arith in
    ap (λ n. place n a.row) key ∙ ap (place b.key) row

-- two faults that come no later than each other have one kind and one place
IsNoLater-antisym : (a b : DeckFault) → IsNoLater a b → IsNoLater b a → (kind_of a ≡ kind_of b) × (place_of a ≡ place_of b)
IsNoLater-antisym a b (inl p) (inl q) = absurd (omega arith)
IsNoLater-antisym a b (inl p) (inr q) = let kind = q.0 in absurd (omega arith)
IsNoLater-antisym a b (inr p) (inl q) = let kind = p.0 in absurd (omega arith)
IsNoLater-antisym a b (inr p) (inr q) = (p.0, Place-antisym (place_of a) (place_of b) p.1 q.1)

-- a text has one first fault at most
pub IsFirstFault-unique : (bytes : List ℕ) (a b : DeckFault) → IsFirstFault bytes a → IsFirstFault bytes b → a ≡ b
IsFirstFault-unique bytes a b p q =
    let same = IsNoLater-antisym a b (p.first b q.stands) (q.first a p.stands) in
    Stands-unique bytes a b same.0 same.1 p.stands q.stands

-- no fault comes before a text's being too long
TooLong-first : (other : DeckFault) → IsNoLater TooLong other
TooLong-first TooLong = inr (refl, inr (refl, omega arith))
TooLong-first other = inl (omega arith)

-- the first fault of a text that is too long
pub first_too_long : (bytes : List ℕ) → longest_text < length bytes → IsFirstFault bytes TooLong
first_too_long bytes long = record { stands = long; first = λ other stands. TooLong-first other }

-- a text with a first fault is answered by that fault, or by want of memory
pub first_answered : (bytes : List ℕ) (result : Result Deck DeckRefusal) → AnswersDeck bytes result → (fault : DeckFault) → IsFirstFault bytes fault
    → (result ≡ Err (Fault fault)) ⊎ (result ≡ Err Memory)
first_answered bytes (Ok deck) answers fault first = absurd (answers.0 fault first.stands)
first_answered bytes (Err (Fault other)) answers fault first = inl (ap (λ f. Err (Fault f)) (IsFirstFault-unique bytes other fault answers first))
first_answered bytes (Err Memory) answers fault first = inr refl

-- a text without a fault is answered by its deck, or by want of memory
pub accepted_answered : (bytes : List ℕ) (result : Result Deck DeckRefusal) → AnswersDeck bytes result → IsAccepted bytes → IsOk result ⊎ (result ≡ Err Memory)
accepted_answered bytes (Ok deck) answers accepted = inl refl
accepted_answered bytes (Err (Fault fault)) answers accepted = absurd (accepted fault answers.stands)
accepted_answered bytes (Err Memory) answers accepted = inr refl
