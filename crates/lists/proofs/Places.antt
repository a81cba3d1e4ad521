-- What stands at a place of a list.
use Rattle.std.proofs.Common.{◌≡◌, ℕ, zero, suc, ◌+◌, ◌-◌, ◌<◌, ◌≤◌, List, [], ◌∷◌, ◌++◌, Contains, length, map, slice_get, take, drop, Some, refl, sym, ap, ◌∙◌, ◌⊎◌, inl, inr, arith, ◌≢◌, set, length-set, length-append, length-drop}
use Rattle.std.specs.List.{slice_range}
use Rattle.std.proofs.lemmas.Option.{none-some, same_Some, slice_get_within, get_or_from_slice_get, slice_get-get_or}
use Rattle.std.proofs.lemmas.List.{get_or-set_same, take-append-le, drop-append-le, drop_at, take_all}

-- a list has an element at each number below its length
pub element_at : {X : Type 0} (xs : List X) (k : ℕ) → k < length xs → (x : X) × (slice_get xs k ≡ Some x)
element_at [] k l = absurd (omega arith)
element_at (x ∷ xs) zero l = (x, refl)
element_at (x ∷ xs) (suc k) l = element_at xs k (omega arith)

-- an element that is found in a list is in it
pub Contains-from_slice_get : {X : Type 0} (xs : List X) (k : ℕ) (x : X) → slice_get xs k ≡ Some x → Contains xs x
Contains-from_slice_get xs k x e = (k, slice_get_within xs k x e, get_or_from_slice_get xs k x x e)

-- an element of two lists one after another stands in one of them
pub slice_get-append_left : {X : Type 0} (xs ys : List X) (k : ℕ) (x : X) → slice_get xs k ≡ Some x → slice_get (xs ++ ys) k ≡ Some x
slice_get-append_left [] ys k x e = absurd (none-some x e)
slice_get-append_left (y ∷ xs) ys zero x e = e
slice_get-append_left (y ∷ xs) ys (suc k) x e = slice_get-append_left xs ys k x e

pub slice_get-append_right : {X : Type 0} (xs ys : List X) (k : ℕ) → slice_get (xs ++ ys) (length xs + k) ≡ slice_get ys k
slice_get-append_right [] ys k = let e : 0 + k ≡ k = omega arith in ap (slice_get ys) e
slice_get-append_right (x ∷ xs) ys k =
    let e : suc (length xs) + k ≡ suc (length xs + k) = omega arith in
    ap (slice_get ((x ∷ xs) ++ ys)) e ∙ slice_get-append_right xs ys k

pub slice_get-append_cases : {X : Type 0} (xs ys : List X) (k : ℕ) (x : X) → slice_get (xs ++ ys) k ≡ Some x
    → (slice_get xs k ≡ Some x) ⊎ ((rest : ℕ) × (k ≡ length xs + rest) × (slice_get ys rest ≡ Some x))
slice_get-append_cases [] ys k x e = inr (k, omega arith, e)
slice_get-append_cases (y ∷ xs) ys zero x e = inl e
slice_get-append_cases (y ∷ xs) ys (suc k) x e =
    elim (slice_get-append_cases xs ys k x e) [
      | inl w ↦ inl w
      | inr w ↦ inr (w.0, (let m = w.1 in omega arith), w.2)
    ]

-- an element of a mapped list
pub slice_get-map_cases : {X Y : Type 0} (f : X → Y) (xs : List X) (k : ℕ) (y : Y) → slice_get (map f xs) k ≡ Some y → (x : X) × (slice_get xs k ≡ Some x) × (y ≡ f x)
slice_get-map_cases f [] k y e = absurd (none-some y e)
slice_get-map_cases f (x ∷ xs) zero y e = (x, refl, sym (same_Some (f x) y e))
slice_get-map_cases f (x ∷ xs) (suc k) y e = slice_get-map_cases f xs k y e

pub slice_get-map_at : {X Y : Type 0} (f : X → Y) (xs : List X) (k : ℕ) (x : X) → slice_get xs k ≡ Some x → slice_get (map f xs) k ≡ Some (f x)
slice_get-map_at f [] k x e = absurd (none-some x e)
slice_get-map_at f (y ∷ xs) zero x e = ap (λ z. Some (f z)) (same_Some y x e)
slice_get-map_at f (y ∷ xs) (suc k) x e = slice_get-map_at f xs k x e

-- and an element stands at some place
pub get_from_Contains : {X : Type 0} (xs : List X) (x : X) → Contains xs x → (i : ℕ) × (slice_get xs i ≡ Some x)
get_from_Contains xs x (i, l, e) = (i, slice_get-get_or xs i x l ∙ ap Some e)

-- an element that was put is there
pub slice_get-set_same : {X : Type 0} (xs : List X) (i : ℕ) (y : X) → i < length xs → slice_get (set xs i y) i ≡ Some y
slice_get-set_same xs i y l = slice_get-get_or (set xs i y) i y (rw (length-set xs i y) l) ∙ ap Some (get_or-set_same xs i y y l)

-- the other elements stay
pub slice_get-set_other : {X : Type 0} (xs : List X) (i j : ℕ) (y : X) → j ≢ i → slice_get (set xs i y) j ≡ slice_get xs j
slice_get-set_other [] i j y n = refl
slice_get-set_other (x ∷ xs) zero zero y n = absurd (n refl)
slice_get-set_other (x ∷ xs) zero (suc j) y n = refl
slice_get-set_other (x ∷ xs) (suc i) zero y n = refl
slice_get-set_other (x ∷ xs) (suc i) (suc j) y n = slice_get-set_other xs i j y (λ e. n (ap suc e))

-- what stands at a place after a write
pub slice_get-set_cases : {X : Type 0} (xs : List X) (i j : ℕ) (y z : X) → slice_get (set xs i y) j ≡ Some z → ((j ≡ i) × (y ≡ z)) ⊎ (slice_get xs j ≡ Some z)
slice_get-set_cases [] i j y z e = absurd (none-some z e)
slice_get-set_cases (x ∷ xs) zero zero y z e = inl (refl, same_Some y z e)
slice_get-set_cases (x ∷ xs) zero (suc j) y z e = inr e
slice_get-set_cases (x ∷ xs) (suc i) zero y z e = inr e
slice_get-set_cases (x ∷ xs) (suc i) (suc j) y z e = elim (slice_get-set_cases xs i j y z e) [ inl p ↦ inl (ap suc p.0, p.1) | inr q ↦ inr q ]

-- an element of a longer list
pub slice_get-push_cases : {X : Type 0} (xs : List X) (y : X) (i : ℕ) (z : X) → slice_get (xs ++ y ∷ []) i ≡ Some z → (slice_get xs i ≡ Some z) ⊎ (y ≡ z)
slice_get-push_cases [] y zero z e = inr (same_Some y z e)
slice_get-push_cases [] y (suc i) z e = absurd (none-some z e)
slice_get-push_cases (x ∷ xs) y zero z e = inl e
slice_get-push_cases (x ∷ xs) y (suc i) z e = slice_get-push_cases xs y i z e

-- a part of two lists one after another that ends within the first, and the part behind the first
pub slice_range-append : {X : Type 0} (xs ys : List X) (from to : ℕ) → from ≤ to → to ≤ length xs → slice_range (xs ++ ys) from to ≡ slice_range xs from to
slice_range-append xs ys from to rises within =
    ap (take (to - from)) (drop-append-le from xs ys (omega arith))
    ∙ take-append-le (to - from) (drop from xs) ys (omega (arith, length-drop from xs))

pub slice_range-end : {X : Type 0} (xs ys : List X) (from to : ℕ) → from ≡ length xs → to ≡ length (xs ++ ys) → slice_range (xs ++ ys) from to ≡ ys
slice_range-end xs ys from to e f =
    ap (take (to - from)) (drop_at xs ys from (sym e)) ∙ take_all (to - from) ys (omega (arith, length-append xs ys))
