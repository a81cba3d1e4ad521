-- Sums over the numbers that pass a test, by any operation that has a zero and can be turned and regrouped.
use Rattle.std.proofs.Common.{◌≡◌, ℕ, ◌==◌, ◌<◌, ◌||◌, Bool, true, false, cond, List, [], ◌∷◌, ◌++◌, filter, inl, inr, refl, ap, sym, ◌∙◌, ◌⊎◌, arith}
use Rattle.std.specs.Prelude.{⊤}
use Rattle.std.specs.List.{Contains, range_with_len}
use Rattle.std.proofs.lemmas.Bool.{both_ways, cases_Bool, eq-eqb, eqb-true}
use Rattle.std.proofs.lemmas.List.Elements.{Contains-append_cases}
use Rattle.lists.proofs.Elements.{Contains-head, Contains-later, only}
use Rattle.lists.proofs.Rising.{Rises, Rises-tail, filter_is, head_below}
use Rattle.sph_num.specs.Cover.{is_member}
use Rattle.cell_block.proofs.LeafMembers.{is_member-decides}

-- a sum of a number for each element of a list, by an operation with a zero
pub record IsSum {X : Type 0} (plus : X → X → X) (none : X) (total : (ℕ → X) → List ℕ → X) : Type 0 where
  pub nil : (f : ℕ → X) → total f [] ≡ none
  pub cons : (f : ℕ → X) (x : ℕ) (xs : List ℕ) → total f (x ∷ xs) ≡ plus (f x) (total f xs)
  pub zero : (x : X) → plus none x ≡ x
  pub turned : (x y : X) → plus x y ≡ plus y x
  pub joined : (x y z : X) → plus (plus x y) z ≡ plus x (plus y z)

-- a list without repetitions
abbrev pub AreDistinct : List ℕ → Type 0
AreDistinct [] = ⊤
AreDistinct (x ∷ xs) = (Contains xs x → ⊥) × AreDistinct xs

pub AreDistinct-append : (xs ys : List ℕ) → AreDistinct xs → AreDistinct ys → ((x : ℕ) → Contains xs x → Contains ys x → ⊥) → AreDistinct (xs ++ ys)
AreDistinct-append [] ys distinct distinct' apart = distinct'
AreDistinct-append (x ∷ xs) ys distinct distinct' apart = (
  λ at. elim (Contains-append_cases xs ys x at) [ inl c ↦ distinct.0 c | inr c ↦ apart x (Contains-head x xs) c ],
  AreDistinct-append xs ys distinct.1 distinct' (λ y c d. apart y (Contains-later x xs y c) d),
)

pub AreDistinct-from_Rises : (xs : List ℕ) → Rises xs → AreDistinct xs
AreDistinct-from_Rises [] rises = tt
AreDistinct-from_Rises (x ∷ xs) rises = (λ at. let low = head_below x xs rises x at in absurd (omega arith), AreDistinct-from_Rises xs (Rises-tail x xs rises))

-- tests that split the numbers of one: where a number counts for something, one or other passes it, and not both
abbrev pub Splits : {X : Type 0} → X → X → Bool → Bool → Bool → Type 0
Splits none value p q r = (value ≡ none) ⊎ ((p ≡ (q || r)) × (q ≡ true → r ≡ false))

-- a number that doesn't stand in a list isn't found there
apart_from : (ys : List ℕ) (y j : ℕ) → (Contains ys y → ⊥) → (y == j) ≡ true → is_member ys j ≡ false
apart_from ys y j none same =
    let e : y ≡ j = eqb-true y j same in
    elim (cases_Bool (is_member ys j)) [
      | inl t ↦ absurd (none (rw e ((is_member-decides ys j).0 t)))
      | inr f ↦ f
    ]

filter_none : (xs : List ℕ) → filter (is_member []) xs ≡ []
filter_none [] = refl
filter_none (x ∷ xs) = filter_none xs

module _ {X : Type 0} (plus : X → X → X) (none : X) (total : (ℕ → X) → List ℕ → X) (is : IsSum plus none total) where
  zero_right : (x : X) → plus x none ≡ x
  zero_right x = is.turned x none ∙ is.zero x

  -- (a + b) + (c + d) is (a + c) + (b + d)
  middle : (a b c d : X) → plus (plus a b) (plus c d) ≡ plus (plus a c) (plus b d)
  middle a b c d =
      is.joined a b (plus c d)
      ∙ ap (plus a) (sym (is.joined b c d) ∙ ap (λ x. plus x d) (is.turned b c) ∙ is.joined c b d)
      ∙ sym (is.joined a c (plus b d))

  share : Bool → X → X
  share b x = cond b x none

  share_none : (b : Bool) (x : X) → x ≡ none → share b x ≡ none
  unfolding share
  share_none true x e = e
  share_none false x e = refl

  pick : (f : ℕ → X) (b : Bool) (x : ℕ) (xs : List ℕ) → total f (cond b (x ∷ xs) xs) ≡ plus (share b (f x)) (total f xs)
  unfolding share
  pick f true x xs = is.cons f x xs
  pick f false x xs = sym (is.zero (total f xs))

  joins : (q r : Bool) (x : X) → (q ≡ true → r ≡ false) → share (q || r) x ≡ plus (share q x) (share r x)
  unfolding share
  joins true true x apart = absurd (both_ways true (apart refl) refl)
  joins true false x apart = sym (zero_right x)
  joins false r x apart = sym (is.zero (cond r x none))

  split_share : (x : X) (p q r : Bool) → Splits none x p q r → share p x ≡ plus (share q x) (share r x)
  split_share x p q r splits =
      elim splits [
        | inl e ↦ share_none p x e ∙ sym (is.zero none) ∙ sym (ap (λ y. plus y none) (share_none q x e)) ∙ sym (ap (plus (share q x)) (share_none r x e))
        | inr both ↦ ap (λ b. share b x) both.0 ∙ joins q r x both.1
      ]

  pub total_split : (f : ℕ → X) (p q r : ℕ → Bool) (xs : List ℕ) → ((x : ℕ) → Contains xs x → Splits none (f x) (p x) (q x) (r x)) → total f (filter p xs) ≡ plus (total f (filter q xs)) (total f (filter r xs))
  total_split f p q r [] splits = is.nil f ∙ sym (is.zero none) ∙ sym (ap (λ y. plus y none) (is.nil f)) ∙ sym (ap (plus (total f [])) (is.nil f))
  total_split f p q r (x ∷ xs) splits =
      pick f (p x) x (filter p xs)
      ∙ ap (λ y. plus y (total f (filter p xs))) (split_share (f x) (p x) (q x) (r x) (splits x (Contains-head x xs)))
      ∙ ap (plus (plus (share (q x) (f x)) (share (r x) (f x)))) (total_split f p q r xs (λ y at. splits y (Contains-later x xs y at)))
      ∙ middle (share (q x) (f x)) (share (r x) (f x)) (total f (filter q xs)) (total f (filter r xs))
      ∙ ap (λ y. plus y (plus (share (r x) (f x)) (total f (filter r xs)))) (sym (pick f (q x) x (filter q xs)))
      ∙ ap (plus (total f (filter q (x ∷ xs)))) (sym (pick f (r x) x (filter r xs)))

  whole : (f : ℕ → X) (p : ℕ → Bool) (x : ℕ) → (f x ≡ none) ⊎ (p x ≡ true) → share (p x) (f x) ≡ f x
  unfolding share
  whole f p x some = elim some [ inl e ↦ share_none (p x) (f x) e ∙ sym e | inr t ↦ ap (λ b. share b (f x)) t ]

  -- what doesn't pass counts for nothing
  pub total_all : (f : ℕ → X) (p : ℕ → Bool) (xs : List ℕ) → ((x : ℕ) → Contains xs x → (f x ≡ none) ⊎ (p x ≡ true)) → total f (filter p xs) ≡ total f xs
  total_all f p [] passes = refl
  total_all f p (x ∷ xs) passes =
      pick f (p x) x (filter p xs)
      ∙ ap (λ y. plus y (total f (filter p xs))) (whole f p x (passes x (Contains-head x xs)))
      ∙ ap (plus (f x)) (total_all f p xs (λ y at. passes y (Contains-later x xs y at)))
      ∙ sym (is.cons f x xs)

  -- one number of the range
  one_of_range : (n y : ℕ) → y < n → filter (λ j. y == j) (range_with_len 0 n) ≡ y ∷ []
  one_of_range n y inside =
      filter_is (λ j. y == j) n (y ∷ []) (λ i j d less within. absurd (omega arith))
      (λ z at. let e = only y z at in (omega arith, eq-eqb y z e))
      (λ k below passes. let e : y ≡ k = eqb-true y k passes in rw e (Contains-head k []))

  -- a sum over a list without repetitions is over the numbers that stand in it
  pub total_distinct : (f : ℕ → X) (n : ℕ) (ys : List ℕ) → AreDistinct ys → ((y : ℕ) → Contains ys y → y < n) → total f (filter (is_member ys) (range_with_len 0 n)) ≡ total f ys
  total_distinct f n [] distinct inside = ap (total f) (filter_none (range_with_len 0 n))
  total_distinct f n (y ∷ ys) distinct inside =
      total_split f (is_member (y ∷ ys)) (λ j. y == j) (is_member ys) (range_with_len 0 n) (λ j at. inr (refl, λ same. apart_from ys y j distinct.0 same))
      ∙ ap (λ xs. plus (total f xs) (total f (filter (is_member ys) (range_with_len 0 n)))) (one_of_range n y (inside y (Contains-head y ys)))
      ∙ ap (plus (total f (y ∷ []))) (total_distinct f n ys distinct.1 (λ z at. inside z (Contains-later y ys z at)))
      ∙ ap (λ x. plus x (total f ys)) (is.cons f y [] ∙ ap (plus (f y)) (is.nil f) ∙ zero_right (f y))
      ∙ sym (is.cons f y ys)
