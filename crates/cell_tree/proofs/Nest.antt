-- Lists in which what an element contains stands in one run that begins with it.
use Rattle.std.proofs.Common.{◌≡◌, ℕ, zero, suc, ◌+◌, ◌-◌, ◌<◌, ◌≤◌, List, [], ◌∷◌, ◌++◌, length, get_or, refl, sym, ap, ◌∙◌, subst, ◌⊎◌, inl, inr, length-append, arith}
use Rattle.std.proofs.lemmas.List.{get_or_append_left, get_or-append-add, get_or_push}
use Rattle.std.proofs.lemmas.Bool.{cases_lt}

-- a place is in the first list or in the second
pub cases_place : (n m k : ℕ) → k < n + m → (k < n) ⊎ ((j : ℕ) × (k ≡ n + j) × (j < m))
cases_place n m k h = elim (cases_lt k n) [ inl l ↦ inl l | inr l ↦ inr (k - n, omega arith, omega arith) ]

-- what holds at each place of both lists holds at each of the two joined
pub each_of_both : {X : Type 0} (P : X → Type 0) (d : X) (xs ys : List X) → ((i : ℕ) → i < length xs → P (get_or xs i d)) → ((i : ℕ) → i < length ys → P (get_or ys i d))
    → (i : ℕ) → i < length (xs ++ ys) → P (get_or (xs ++ ys) i d)
each_of_both P d xs ys p q i h =
    elim (cases_place (length xs) (length ys) i (omega (arith, length-append xs ys))) [
      | inl l ↦ subst P (sym (get_or_append_left xs ys d i l)) (p i l)
      | inr w ↦ let e : get_or (xs ++ ys) i d ≡ get_or ys (w.0) d = ap (λ k. get_or (xs ++ ys) k d) w.1 ∙ get_or-append-add xs ys w.0 d in
          subst P (sym e) (q w.0 w.2)
    ]

module _ {X : Type 0} (d : X) (size : X → ℕ) (R : X → X → Type 0) where
  -- each element heads a run of as many as its size says, just those that it contains
  pub record IsNested (xs : List X) : Type 0 where
    pub within : (i : ℕ) → i < length xs → i + size (get_or xs i d) ≤ length xs
    pub inside : (i j : ℕ) → i < length xs → i ≤ j → j < i + size (get_or xs i d) → R (get_or xs i d) (get_or xs j d)
    pub outside : (i j : ℕ) → i < length xs → j < length xs → R (get_or xs i d) (get_or xs j d) → (i ≤ j) × (j < i + size (get_or xs i d))

  -- the empty list nests
  pub IsNested-nil : IsNested []
  IsNested-nil = record { within = λ i h. absurd (omega arith); inside = λ i j h. absurd (omega arith); outside = λ i j h. absurd (omega arith) }

  -- an element before a nested list, all of which it contains
  pub IsNested-cons : (x : X) (xs : List X) → size x ≡ suc (length xs) → R x x → ((i : ℕ) → i < length xs → R x (get_or xs i d))
      → ((i : ℕ) → i < length xs → R (get_or xs i d) x → ⊥) → IsNested xs → IsNested (x ∷ xs)
  IsNested-cons x xs s r all none n = record { within = within; inside = inside; outside = outside }
    where
      within : (i : ℕ) → i < suc (length xs) → i + size (get_or (x ∷ xs) i d) ≤ suc (length xs)
      within zero h = omega arith
      within (suc i) h = omega (arith, n.within i (omega arith))

      inside : (i j : ℕ) → i < suc (length xs) → i ≤ j → j < i + size (get_or (x ∷ xs) i d) → R (get_or (x ∷ xs) i d) (get_or (x ∷ xs) j d)
      inside zero zero h l u = r
      inside zero (suc j) h l u = all j (omega arith)
      inside (suc i) zero h l u = absurd (omega arith)
      inside (suc i) (suc j) h l u = n.inside i j (omega arith) (omega arith) (omega arith)

      outside : (i j : ℕ) → i < suc (length xs) → j < suc (length xs) → R (get_or (x ∷ xs) i d) (get_or (x ∷ xs) j d) → (i ≤ j) × (j < i + size (get_or (x ∷ xs) i d))
      outside zero j h k q = (omega arith, omega arith)
      outside (suc i) zero h k q = absurd (none i (omega arith) q)
      outside (suc i) (suc j) h k q = let w = n.outside i j (omega arith) (omega arith) q in (omega arith, omega arith)

  -- two nested lists of which neither contains anything of the other
  pub IsNested-append : (xs ys : List X) → IsNested xs → IsNested ys
      → ((i j : ℕ) → i < length xs → j < length ys → R (get_or xs i d) (get_or ys j d) → ⊥)
      → ((i j : ℕ) → i < length xs → j < length ys → R (get_or ys j d) (get_or xs i d) → ⊥) → IsNested (xs ++ ys)
  IsNested-append xs ys m n apart turned = record { within = within; inside = inside; outside = outside }
    where
      len : length (xs ++ ys) ≡ length xs + length ys
      len = length-append xs ys

      left : (i : ℕ) → i < length xs → get_or (xs ++ ys) i d ≡ get_or xs i d
      left i h = get_or_append_left xs ys d i h

      right : (j : ℕ) → get_or (xs ++ ys) (length xs + j) d ≡ get_or ys j d
      right j = get_or-append-add xs ys j d

      within' : (i : ℕ) → (i < length xs) ⊎ ((j : ℕ) × (i ≡ length xs + j) × (j < length ys)) → i + size (get_or (xs ++ ys) i d) ≤ length xs + length ys
      within' i (inl l) = rw (left i l) (omega (arith, m.within i l))
      within' i (inr w) = rw (w.1, right w.0) (omega (arith, n.within w.0 w.2))

      within : (i : ℕ) → i < length (xs ++ ys) → i + size (get_or (xs ++ ys) i d) ≤ length (xs ++ ys)
      within i h = rw len (within' i (cases_place (length xs) (length ys) i (omega (arith, len))))

      inside' : (i j : ℕ) → (i < length xs) ⊎ ((k : ℕ) × (i ≡ length xs + k) × (k < length ys)) → i ≤ j → j < i + size (get_or (xs ++ ys) i d) → R (get_or (xs ++ ys) i d) (get_or (xs ++ ys) j d)
      inside' i j (inl l) h u =
          let u' : j < i + size (get_or xs i d) = rw (left i l) at u in
          let j_in : j < length xs = omega (arith, m.within i l) in
          rw (left i l, left j j_in) (m.inside i j l h u')
      inside' i j (inr w) h u =
          let e : get_or (xs ++ ys) i d ≡ get_or ys w.0 d = ap (λ k. get_or (xs ++ ys) k d) w.1 ∙ right w.0 in
          let u' : j < i + size (get_or ys w.0 d) = rw e at u in
          let e' : get_or (xs ++ ys) j d ≡ get_or ys (j - length xs) d = ap (λ k. get_or (xs ++ ys) k d) (let q : j ≡ length xs + (j - length xs) = omega arith in q) ∙ right (j - length xs) in
          rw (e, e') (n.inside w.0 (j - length xs) w.2 (omega arith) (omega arith))

      inside : (i j : ℕ) → i < length (xs ++ ys) → i ≤ j → j < i + size (get_or (xs ++ ys) i d) → R (get_or (xs ++ ys) i d) (get_or (xs ++ ys) j d)
      inside i j h l u = inside' i j (cases_place (length xs) (length ys) i (omega (arith, len))) l u

      outside' : (i j : ℕ) → (i < length xs) ⊎ ((k : ℕ) × (i ≡ length xs + k) × (k < length ys)) → (j < length xs) ⊎ ((k : ℕ) × (j ≡ length xs + k) × (k < length ys))
          → R (get_or (xs ++ ys) i d) (get_or (xs ++ ys) j d) → (i ≤ j) × (j < i + size (get_or (xs ++ ys) i d))
      outside' i j (inl l) (inl k) q =
          let q' : R (get_or xs i d) (get_or xs j d) = rw (left i l, left j k) at q in
          rw (left i l) (m.outside i j l k q')
      outside' i j (inl l) (inr w) q =
          let e' : get_or (xs ++ ys) j d ≡ get_or ys w.0 d = ap (λ k. get_or (xs ++ ys) k d) w.1 ∙ right w.0 in
          let q' : R (get_or xs i d) (get_or ys w.0 d) = rw (left i l, e') at q in
          absurd (apart i w.0 l w.2 q')
      outside' i j (inr w) (inl k) q =
          let e : get_or (xs ++ ys) i d ≡ get_or ys w.0 d = ap (λ k. get_or (xs ++ ys) k d) w.1 ∙ right w.0 in
          let q' : R (get_or ys w.0 d) (get_or xs j d) = rw (e, left j k) at q in
          absurd (turned j w.0 k w.2 q')
      outside' i j (inr w) (inr v) q =
          let e : get_or (xs ++ ys) i d ≡ get_or ys w.0 d = ap (λ k. get_or (xs ++ ys) k d) w.1 ∙ right w.0 in
          let e' : get_or (xs ++ ys) j d ≡ get_or ys v.0 d = ap (λ k. get_or (xs ++ ys) k d) v.1 ∙ right v.0 in
          let q' : R (get_or ys w.0 d) (get_or ys v.0 d) = rw (e, e') at q in
          let t = n.outside w.0 v.0 w.2 v.2 q' in
          rw e (omega arith, omega arith)

      outside : (i j : ℕ) → i < length (xs ++ ys) → j < length (xs ++ ys) → R (get_or (xs ++ ys) i d) (get_or (xs ++ ys) j d) → (i ≤ j) × (j < i + size (get_or (xs ++ ys) i d))
      outside i j h k q =
          outside' i j (cases_place (length xs) (length ys) i (omega (arith, len))) (cases_place (length xs) (length ys) j (omega (arith, len))) q

-- what holds at each place holds after a push, if it holds of the new element at the end
pub indexed_push : {X : Type 0} (P : ℕ → X → Type 0) (xs : List X) (x : X) → ((k : ℕ) (d : X) → k < length xs → P k (get_or xs k d)) → P (length xs) x
    → (k : ℕ) (d : X) → k < length (xs ++ x ∷ []) → P k (get_or (xs ++ x ∷ []) k d)
indexed_push P xs x h p k d l =
    elim (cases_lt k (length xs)) [
      | inl m ↦ subst (P k) (sym (get_or_append_left xs (x ∷ []) d k m)) (h k d m)
      | inr m ↦ let e : k ≡ length xs = omega (arith, length-append xs (x ∷ [])) in rw e (subst (P (length xs)) (sym (get_or_push xs x d (length xs) refl)) p)
    ]
