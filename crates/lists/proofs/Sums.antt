-- Sums over lists: what bounds them, and sums of sums in either order.
use Rattle.std.proofs.Common.{◌≡◌, ℕ, suc, ◌+◌, ◌<◌, ◌≤◌, Bool, cond, List, [], ◌∷◌, length, get_or, take, slice_get, Contains, sum_by, count_by, Some, refl, sym, ap, inl, inr, arith, get_or-take, length-take-le, ◌*◌}
use Rattle.std.proofs.lemmas.Bool.{cases_lt, cases_order}
use Rattle.std.proofs.lemmas.Option.{slice_get_within, get_or_from_slice_get}
use Rattle.std.proofs.lemmas.List.Elements.{All-from_get_or}
use Rattle.std.proofs.lemmas.List.Sums.{sum_by-cons, sum_by_more_le, get_or-le-sum_by, sum_by-le, sum_by-le-sum_by}
use Rattle.std.specs.List.{range_with_len}
use Rattle.std.proofs.lemmas.List.FromFn.{length-range_with_len}
use Rattle.lists.proofs.Elements.{Contains-head, Contains-later}
use Rattle.lists.proofs.Places.{get_from_Contains}

-- an element's share is within the sum
pub share-le : {X : Type 0} (f : X → ℕ) (xs : List X) (x : X) → Contains xs x → f x ≤ sum_by f xs
share-le f xs x (k, l, e) = rw (ap f e) at (get_or-le-sum_by f xs k x l)

-- two elements' shares are within the sum
pub two_shares-le : {X : Type 0} (f : X → ℕ) (xs : List X) (i j : ℕ) (d : X) → i < j → j < length xs → f (get_or xs i d) + f (get_or xs j d) ≤ sum_by f xs
two_shares-le f xs i j d l m =
    let a = sum_by_more_le f xs j d m in
    let len : length (take j xs) ≡ j = length-take-le j xs (omega arith) in
    let b = get_or-le-sum_by f (take j xs) i d (omega arith) in
    let c : f (get_or (take j xs) i d) ≡ f (get_or xs i d) = ap f (get_or-take j xs i d l) in
    omega (arith, a, b, c)

-- where the sum is at most 1, one place has a share
pub same_place : {X : Type 0} (f : X → ℕ) (xs : List X) (i j : ℕ) (x y : X) → slice_get xs i ≡ Some x → slice_get xs j ≡ Some y → 0 < f x → 0 < f y → sum_by f xs ≤ 1 → i ≡ j
same_place f xs i j x y a b p q few =
    let i_in = slice_get_within xs i x a in
    let j_in = slice_get_within xs j y b in
    let at_i : f (get_or xs i x) ≡ f x = ap f (get_or_from_slice_get xs i x x a) in
    let at_j : f (get_or xs j x) ≡ f y = ap f (get_or_from_slice_get xs j y x b) in
    elim (cases_order i j) [
      | inl e ↦ e
      | inr o ↦ elim o [
        | inl l ↦ let t = two_shares-le f xs i j x l j_in in absurd (omega arith)
        | inr l ↦ let t = two_shares-le f xs j i x l i_in in absurd (omega arith)
      ]
    ]

-- what is nothing everywhere sums to nothing
pub sum_by-none : {X : Type 0} (f : X → ℕ) (xs : List X) → ((x : X) → Contains xs x → f x ≡ 0) → sum_by f xs ≡ 0
sum_by-none f [] none = refl
sum_by-none f (x ∷ xs) none =
    let a = sum_by-cons f x xs in
    let b = none x (Contains-head x xs) in
    let c = sum_by-none f xs (λ y h. none y (Contains-later x xs y h)) in
    omega arith

-- where a sum is more than 0, some element's share is
pub some_share : {X : Type 0} (f : X → ℕ) (xs : List X) → 0 < sum_by f xs → (x : X) × Contains xs x × (0 < f x)
some_share f [] l = absurd (omega arith)
some_share f (x ∷ xs) l =
    let a = sum_by-cons f x xs in
    elim (cases_lt 0 (f x)) [
      | inl here ↦ (x, Contains-head x xs, here)
      | inr none ↦ let w = some_share f xs (omega arith) in (w.0, Contains-later x xs w.0 w.1, w.2)
    ]

-- sums of equal parts are equal
pub sum_by-same : {X : Type 0} (f g : X → ℕ) (xs : List X) → ((x : X) → f x ≡ g x) → sum_by f xs ≡ sum_by g xs
sum_by-same f g xs e =
    let a = sum_by-le-sum_by f g xs (λ x. let h = e x in omega arith) in
    let b = sum_by-le-sum_by g f xs (λ x. let h = e x in omega arith) in
    omega arith

-- what is less everywhere sums to less
pub sum_by-le_each : {X : Type 0} (f g : X → ℕ) (xs : List X) → ((x : X) → Contains xs x → f x ≤ g x) → sum_by f xs ≤ sum_by g xs
sum_by-le_each f g [] less = omega arith
sum_by-le_each f g (x ∷ xs) less =
    let a = sum_by-cons f x xs in
    let b = sum_by-cons g x xs in
    let c = less x (Contains-head x xs) in
    let d = sum_by-le_each f g xs (λ y h. less y (Contains-later x xs y h)) in
    omega arith

-- a sum of two at each element
pub sum_by-add : {X : Type 0} (f g : X → ℕ) (xs : List X) → sum_by (λ x. f x + g x) xs ≡ sum_by f xs + sum_by g xs
sum_by-add f g [] = refl
sum_by-add f g (x ∷ xs) =
    let a = sum_by-cons f x xs in
    let b = sum_by-cons g x xs in
    let c = sum_by-cons (λ y. f y + g y) x xs in
    let d = sum_by-add f g xs in
    omega arith

-- a sum of sums, in the other order
pub sum_by-turned : {X Y : Type 0} (f : X → Y → ℕ) (xs : List X) (ys : List Y) → sum_by (λ x. sum_by (f x) ys) xs ≡ sum_by (λ y. sum_by (λ x. f x y) xs) ys
sum_by-turned f [] ys = sym (sum_by-none (λ y. 0) ys (λ y h. refl))
sum_by-turned {X} {Y} f (x ∷ xs) ys =
    let a = sum_by-cons (λ z. sum_by (f z) ys) x xs in
    let b = sum_by-turned f xs ys in
    let c = sum_by-add (f x) (λ y. sum_by (λ z. f z y) xs) ys in
    let d : sum_by (λ y. sum_by (λ z. f z y) (x ∷ xs)) ys ≡ sum_by (λ y. f x y + sum_by (λ z. f z y) xs) ys =
    ap (λ (g : Y → ℕ). sum_by g ys) (λ i y. sum_by-cons (λ z. f z y) x xs i) in
    omega arith

-- where each element has no more than its shares of so many places, and each place gives one at most, there are no more than places
pub few_for_places : {X : Type 0} (f : X → ℕ) (share : X → ℕ → ℕ) (xs : List X) (n : ℕ) → ((x : X) → Contains xs x → f x ≤ sum_by (share x) (range_with_len 0 n))
    → ((k : ℕ) → sum_by (λ x. share x k) xs ≤ 1) → sum_by f xs ≤ n
few_for_places f share xs n within one =
    let a = sum_by-le_each f (λ x. sum_by (share x) (range_with_len 0 n)) xs within in
    let b = sum_by-turned share xs (range_with_len 0 n) in
    let c = sum_by-le (λ k. sum_by (λ x. share x k) xs) 1 (range_with_len 0 n)
    (All-from_get_or (λ k. sum_by (λ x. share x k) xs ≤ 1) (range_with_len 0 n) 0 (λ i l. one _)) in
    let d = length-range_with_len 0 n in
    omega arith

-- one at most in all, where each element has one at most and no two places have one
pub one_in_all : {X : Type 0} (f : X → ℕ) (xs : List X) → ((x : X) → Contains xs x → f x ≤ 1)
    → ((i j : ℕ) (x y : X) → slice_get xs i ≡ Some x → slice_get xs j ≡ Some y → 0 < f x → 0 < f y → i ≡ j) → sum_by f xs ≤ 1
one_in_all f [] each alone = omega arith
one_in_all f (x ∷ xs) each alone =
    let a = sum_by-cons f x xs in
    let b = each x (Contains-head x xs) in
    let c = one_in_all f xs (λ y h. each y (Contains-later x xs y h)) (λ i j y z p q l m. let e = alone (suc i) (suc j) y z p q l m in omega arith) in
    elim (cases_lt 0 (f x)) [
      | inl some ↦
          let none = sum_by-none f xs (λ y h. elim (cases_lt 0 (f y)) [
            | inl l ↦ let w = get_from_Contains xs y h in let e = alone 0 (suc w.0) x y refl w.1 some l in absurd (omega arith)
            | inr l ↦ omega arith
          ]) in
          omega arith
      | inr none ↦ omega arith
    ]

-- a factor of each term
pub sum_by-mul : {X : Type 0} (f : X → ℕ) (k : ℕ) (xs : List X) → sum_by (λ x. f x * k) xs ≡ sum_by f xs * k
sum_by-mul f k [] = omega arith
sum_by-mul f k (x ∷ xs) =
    let rest = sum_by-mul f k xs in
    omega (arith, sum_by-cons f x xs, ap (λ n. n * k) (sum_by-cons f x xs), sum_by-cons (λ y. f y * k) x xs)

-- parts of a list that share no element have no more elements than the list
pub parts_most : (holds : ℕ → ℕ → Bool) (parts xs : List ℕ) → ((x : ℕ) → count_by (λ part. holds part x) parts ≤ 1) → sum_by (λ part. count_by (holds part) xs) parts ≤ length xs
parts_most holds parts [] h = let z = sum_by-le (λ part. count_by (holds part) []) 0 parts (λ k d l. omega arith) in omega arith
parts_most holds parts (x ∷ xs) h =
    let rest = parts_most holds parts xs h in
    let split = sum_by-le-sum_by (λ part. count_by (holds part) (x ∷ xs)) (λ part. cond (holds part x) 1 0 + count_by (holds part) xs) parts
    (λ part. omega (arith, sum_by-cons (λ y. cond (holds part y) 1 0) x xs)) in
    let sum = sum_by-add (λ part. cond (holds part x) 1 0) (λ part. count_by (holds part) xs) parts in
    let one = h x in
    omega arith
