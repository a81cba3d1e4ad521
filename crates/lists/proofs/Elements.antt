-- Which elements a list has, and what holds of them.
use Rattle.std.proofs.Common.{◌≡◌, ℕ, zero, suc, ◌<◌, Bool, true, false, cond, List, [], ◌∷◌, ◌++◌, length, take, drop, map, filter, flat_map, get_or, refl, sym, ap, ◌∙◌, subst, arith, ◌≢◌, ◌⊎◌, ◌↔◌, slice_index, Contains, inl, inr}
use Rattle.std.specs.List.{All}
use Rattle.std.proofs.Math.Seq.{take-append_seam}
use Rattle.std.proofs.lemmas.List.Elements.{All-nil, All-cons, All-head, All-tail, All-append, All-filter, All-contains, All-contains_itself, filter_passes, Contains-append_left, Contains-append_right, Contains-get_or, Contains-append_cases}

-- nothing stands in no list
pub Contains-nil : {X : Type 0} (x : X) → Contains [] x → ⊥
Contains-nil x c = let l = c.1 in omega arith

pub Contains-head : {X : Type 0} (x : X) (xs : List X) → Contains (x ∷ xs) x
Contains-head x xs = (0, omega arith, refl)

pub Contains-later : {X : Type 0} (y : X) (ys : List X) (x : X) → Contains ys x → Contains (y ∷ ys) x
Contains-later y ys x c = (suc c.0, (let l = c.1 in omega arith), c.2)

-- an element of a longer list, by cases on its place
at_place : {X : Type 0} (P : Type 0) (y : X) (ys : List X) (x : X) → (y ≡ x → P) → (Contains ys x → P) → (k : ℕ) → k < length (y ∷ ys) → get_or (y ∷ ys) k x ≡ x → P
at_place P y ys x here there zero l e = here e
at_place P y ys x here there (suc k) l e = there (k, omega arith, e)

pub cases_Contains-cons : {X : Type 0} (P : Type 0) (y : X) (ys : List X) (x : X) → (y ≡ x → P) → (Contains ys x → P) → Contains (y ∷ ys) x → P
cases_Contains-cons P y ys x here there c = at_place P y ys x here there c.0 c.1 c.2

-- what holds of each element that is there holds of all
pub All-from_Contains : {X : Type 0} (P : X → Type 0) (xs : List X) → ((x : X) → Contains xs x → P x) → All P xs
All-from_Contains P xs h k d l = h (get_or xs k d) (Contains-get_or xs k d l)

-- what holds of three elements holds of their list
pub All-three : {X : Type 0} (P : X → Type 0) (x y z : X) → P x → P y → P z → All P (x ∷ y ∷ z ∷ [])
All-three P x y z p q r = All-cons P x (y ∷ z ∷ []) p (All-cons P y (z ∷ []) q (All-cons P z [] r (All-nil P)))

-- what a function gives an element is among what it gives all
pub Contains-map : {X Y : Type 0} (f : X → Y) (xs : List X) (x : X) → Contains xs x → Contains (map f xs) (f x)
Contains-map f [] x c = absurd (Contains-nil x c)
Contains-map f (z ∷ zs) x c =
    cases_Contains-cons (Contains (f z ∷ map f zs) (f x)) z zs x
    (λ e. subst (λ w. Contains (f z ∷ map f zs) w) (ap f e) (Contains-head (f z) (map f zs)))
    (λ w. Contains-later (f z) (map f zs) (f x) (Contains-map f zs x w)) c

-- what stands in a part of a list that is joined of parts stands in the list
pub Contains-flat_map : {X Y : Type 0} (f : X → List Y) (xs : List X) (x : X) (y : Y) → Contains xs x → Contains (f x) y → Contains (flat_map f xs) y
Contains-flat_map f [] x y c d = absurd (Contains-nil x c)
Contains-flat_map f (z ∷ zs) x y c d =
    cases_Contains-cons (Contains (f z ++ flat_map f zs) y) z zs x
    (λ e. Contains-append_left (f z) (flat_map f zs) y (subst (λ w. Contains (f w) y) (sym e) d))
    (λ w. Contains-append_right (f z) (flat_map f zs) y (Contains-flat_map f zs x y w d)) c

-- what holds of each element of each part holds of each of the joined list
pub All-flat_map : {X Y : Type 0} (P : Y → Type 0) (f : X → List Y) (xs : List X) → All (λ x. All P (f x)) xs → All P (flat_map f xs)
All-flat_map P f [] each = All-nil P
All-flat_map P f (x ∷ xs) each =
    All-append P (f x) (flat_map f xs) (All-head (λ x. All P (f x)) x xs each) (All-flat_map P f xs (All-tail (λ x. All P (f x)) x xs each))

-- a filter keeps what passes
pub Contains-filter : {X : Type 0} (p : X → Bool) (xs : List X) (x : X) → p x ≡ true → Contains xs x → Contains (filter p xs) x
Contains-filter p [] x t c = absurd (Contains-nil x c)
Contains-filter p (y ∷ ys) x t c = cases_Contains-cons (Contains (cond (p y) (y ∷ filter p ys) (filter p ys)) x) y ys x here (λ w. later (Contains-filter p ys x t w)) c
  where
    here : y ≡ x → Contains (cond (p y) (y ∷ filter p ys) (filter p ys)) x
    here e = let t' : p y ≡ true = ap p e ∙ t in rw t' (0, omega arith, e)

    later : Contains (filter p ys) x → Contains (cond (p y) (y ∷ filter p ys) (filter p ys)) x
    later v =
        elim (p y) as (λ b. Contains (cond b (y ∷ filter p ys) (filter p ys)) x) [ true ↦ Contains-later y (filter p ys) x v | false ↦ v ]

-- what a filter keeps was there
pub Contains-from_filter : {X : Type 0} (p : X → Bool) (xs : List X) (x : X) → Contains (filter p xs) x → Contains xs x
Contains-from_filter p xs x c = All-contains (Contains xs) (filter p xs) x (All-filter p (Contains xs) xs (All-contains_itself xs)) c

-- what a filter keeps passes
pub passes_from_filter : {X : Type 0} (p : X → Bool) (xs : List X) (x : X) → Contains (filter p xs) x → p x ≡ true
passes_from_filter p xs x c = All-contains (λ y. p y ≡ true) (filter p xs) x (filter_passes p xs) c

-- a list of one length, written over another's front
pub written_back : {X : Type 0} (n : ℕ) (xs ys : List X) → n ≡ length xs → length ys ≡ length xs → take n (ys ++ drop (length ys) xs) ≡ ys
written_back n xs ys e f = ap (λ k. take k (ys ++ drop (length ys) xs)) (e ∙ sym f) ∙ take-append_seam ys (drop (length ys) xs)

-- the first element of a list or one of the others
pub Contains-cons_cases : {X : Type 0} (x : X) (xs : List X) (y : X) → Contains (x ∷ xs) y → (x ≡ y) ⊎ Contains xs y
Contains-cons_cases x xs y (zero, l, e) = inl e
Contains-cons_cases x xs y (suc k, l, e) = inr (k, omega arith, e)

-- a list of one element, and of two
pub only : {X : Type 0} (x y : X) → Contains (x ∷ []) y → x ≡ y
only x y c = elim (Contains-cons_cases x [] y c) [ inl e ↦ e | inr n ↦ absurd (Contains-nil y n) ]

pub either : {X : Type 0} (x y z : X) → Contains (x ∷ y ∷ []) z → (x ≡ z) ⊎ (y ≡ z)
either x y z c = elim (Contains-cons_cases x (y ∷ []) z c) [ inl e ↦ inl e | inr h ↦ inr (only y z h) ]

-- the first of a list that has one
pub first-contained : (xs : List ℕ) → xs ≢ [] → Contains xs (slice_index xs 0)
first-contained [] n = absurd (n refl)
first-contained (x ∷ xs) n = Contains-head x xs

-- an element of the one list or of the other
pub Contains-append : {X : Type 0} (xs ys : List X) (x : X) → Contains (xs ++ ys) x ↔ (Contains xs x ⊎ Contains ys x)
Contains-append xs ys x = (Contains-append_cases xs ys x, λ s. elim s [ inl h ↦ Contains-append_left xs ys x h | inr h ↦ Contains-append_right xs ys x h ])

-- what holds of the first and of the others holds of each
pub each_cons : {X : Type 0} (P : X → Type 0) (x : X) (xs : List X) → P x → ((y : X) → Contains xs y → P y) → (y : X) → Contains (x ∷ xs) y → P y
each_cons P x xs p q y h = elim (Contains-cons_cases x xs y h) [ inl e ↦ subst P e p | inr m ↦ q y m ]

-- a list of three from equal elements
pub three-eq : {X : Type 0} (a b c x y z : X) → a ≡ x → b ≡ y → c ≡ z → a ∷ b ∷ c ∷ [] ≡ x ∷ y ∷ z ∷ []
three-eq a b c x y z p q r = rw (p, q, r) refl

-- what two functions make of a list on whose elements they agree
pub map_agree : {X Y : Type 0} (f g : X → Y) (xs : List X) → ((x : X) → Contains xs x → f x ≡ g x) → map f xs ≡ map g xs
map_agree f g [] same = refl
map_agree f g (x ∷ xs) same = ap (λ y. y ∷ map f xs) (same x (Contains-head x xs)) ∙ ap (λ ys. g x ∷ ys) (map_agree f g xs (λ y at. same y (Contains-later x xs y at)))
