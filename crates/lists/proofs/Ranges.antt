-- Ranges of numbers.
use Rattle.std.proofs.Common.{◌≡◌, ◌≢◌, ℕ, Bool, true, false, filter, zero, suc, ◌+◌, ◌-◌, ◌<◌, ◌≤◌, cond, eqb, List, [], ◌∷◌, length, get_or, sum_by, count_by, Contains, refl, sym, ap, ◌∙◌, subst, inl, inr, arith, ◌++◌, append_assoc, map}
use Rattle.std.specs.List.{range_with_len, flat_map}
use Rattle.std.proofs.lemmas.Bool.{cases_eq, eq-eqb, ne_eqb}
use Rattle.std.proofs.lemmas.List.FromFn.{length-range_with_len, get_or-range_with_len}
use Rattle.std.proofs.lemmas.List.Sums.{sum_by-cons}
use Rattle.lists.proofs.Counts.{count-zero}
use Rattle.lists.proofs.Sums.{share-le}
use Rattle.std.specs.List.Sorted.{IsStrictlyIncreasing}
use Rattle.std.proofs.lemmas.List.{append-nil, get_or-map, length-map, get_or_default, same_lists}
use Rattle.std.proofs.lemmas.List.Concat.{flat_map-append}
use Rattle.std.proofs.lemmas.List.Elements.{filter-append}

-- the numbers of a range lie in it
pub range-within : (a n x : ℕ) → Contains (range_with_len a n) x → (a ≤ x) × (x < a + n)
range-within a n x c =
    let l : c.0 < n = subst (λ k. c.0 < k) (length-range_with_len a n) c.1 in
    let e = sym (get_or-range_with_len a n c.0 x l) ∙ c.2 in
    (omega arith, omega arith)

-- and what lies in it is one of them
pub Contains-range : (a n x : ℕ) → a ≤ x → x < a + n → Contains (range_with_len a n) x
Contains-range a n x low high =
    let l : x - a < n = omega arith in
    let e : a + (x - a) ≡ x = omega arith in
    (x - a, subst (λ k. x - a < k) (sym (length-range_with_len a n)) l, get_or-range_with_len a n (x - a) x l ∙ e)

-- the number at a place of those from 0 on
pub number_at : (n k d : ℕ) → k < n → get_or (range_with_len 0 n) k d ≡ k
number_at n k d l = get_or-range_with_len 0 n k d l ∙ omega arith

-- numbers from 0 on rise
pub numbers_rise : (n : ℕ) → IsStrictlyIncreasing (range_with_len 0 n)
numbers_rise n k l =
    let long = length-range_with_len 0 n in
    omega (arith, number_at n k 0 (omega arith), number_at n (k + 1) 0 (omega arith))

-- the numbers from 0 on are below their count
pub below_from_numbers : (n i : ℕ) → Contains (range_with_len 0 n) i → i < n
below_from_numbers n i c = let b = range-within 0 n i c in omega (arith, b.1)

-- each number below the count is there
pub Contains-numbers : (n i : ℕ) → i < n → Contains (range_with_len 0 n) i
Contains-numbers n i l = Contains-range 0 n i (omega arith) (omega arith)

-- one number more at the end
pub range_push : (first n : ℕ) → range_with_len first (n + 1) ≡ range_with_len first n ++ (first + n) ∷ []
range_push first zero = ap (λ k. k ∷ []) (omega arith)
range_push first (suc n) =
    let e : suc n + 1 ≡ suc (n + 1) = omega arith in
    let e' : first + 1 + n ≡ first + suc n = omega arith in
    ap (range_with_len first) e ∙ ap (λ ks. first ∷ ks) (range_push (first + 1) n ∙ ap (λ k. range_with_len (first + 1) n ++ k ∷ []) e')

-- one number more
pub flat_map_range_more : {A : Type 0} (f : ℕ → List A) (first n : ℕ) → flat_map f (range_with_len first (n + 1)) ≡ flat_map f (range_with_len first n) ++ f (first + n)
flat_map_range_more f first n =
    ap (flat_map f) (range_push first n) ∙ flat_map-append f (range_with_len first n) ((first + n) ∷ []) ∙ ap (λ ys. flat_map f (range_with_len first n) ++ ys) (append-nil (f (first + n)))

-- numbers counted from a further number on
pub map_add-range : (k first n : ℕ) → map (λ i. k + i) (range_with_len first n) ≡ range_with_len (k + first) n
map_add-range k first zero = refl
map_add-range k first (suc n) =
    let e : k + (first + 1) ≡ k + first + 1 = omega arith in
    ap (λ ks. (k + first) ∷ ks) (map_add-range k (first + 1) n ∙ ap (λ m. range_with_len m n) e)

-- the next number at the end
pub append-range-push : (olds : List ℕ) (from number : ℕ) → from ≤ number → olds ++ range_with_len from (number - from) ++ number ∷ [] ≡ olds ++ range_with_len from (number + 1 - from)
append-range-push olds from number l =
    let last : from + (number - from) ≡ number = omega arith in
    let more : number + 1 - from ≡ number - from + 1 = omega arith in
    append_assoc olds (range_with_len from (number - from)) (number ∷ [])
    ∙ ap (λ ks. olds ++ ks) (ap (λ k. range_with_len from (number - from) ++ k ∷ []) (sym last) ∙ sym (range_push from (number - from)) ∙ ap (range_with_len from) (sym more))

-- a list whose elements a function gives one by one
pub by_numbers : {X : Type 0} (f : ℕ → X) (d : X) (xs : List X) (first n : ℕ) → length xs ≡ n → ((k : ℕ) → k < n → get_or xs k d ≡ f (first + k)) → xs ≡ map f (range_with_len first n)
by_numbers f d xs first n long each =
    let count = length-range_with_len first n in
    same_lists xs (map f (range_with_len first n)) (long ∙ sym (length-map (range_with_len first n) f ∙ count))
    (λ k e below.
    let l : k < n = omega arith in
    get_or_default xs k e d below ∙ each k l ∙ ap f (sym (get_or-range_with_len first n k 0 l)) ∙ sym (get_or-map f (range_with_len first n) k 0 e (omega arith)))

-- m + n numbers are m and then n
pub range-add : (first m n : ℕ) → range_with_len first (m + n) ≡ range_with_len first m ++ range_with_len (first + m) n
range-add first zero n =
    let e : 0 + n ≡ n = omega arith in
    let e' : first ≡ first + 0 = omega arith in
    ap (range_with_len first) e ∙ ap (λ k. range_with_len k n) e'
range-add first (suc m) n =
    let e : suc m + n ≡ suc (m + n) = omega arith in
    let e' : first + 1 + m ≡ first + suc m = omega arith in
    ap (range_with_len first) e ∙ ap (λ ks. first ∷ ks) (range-add (first + 1) m n ∙ ap (λ k. range_with_len (first + 1) m ++ range_with_len k n) e')

-- each stands there once
pub count-range : (a n x : ℕ) → count_by (λ y. eqb y x) (range_with_len a n) ≤ 1
count-range a zero x = omega arith
count-range a (suc n) x =
    let s = sum_by-cons (λ z. cond (eqb z x) 1 0) a (range_with_len (a + 1) n) in
    elim (cases_eq a x) [
      | inl e ↦
          let none = count-zero (range_with_len (a + 1) n) x (λ c. let w = range-within (a + 1) n x c in omega (arith, w.0)) in
          let t = eq-eqb a x e in
          let s' = rw t at s in
          omega arith
      | inr m ↦
          let ih = count-range (a + 1) n x in
          let f = ne_eqb a x m in
          let s' = rw f at s in
          omega arith
    ]

-- where two functions agree on a range, so do the sums
pub sum_by-range_same : (f g : ℕ → ℕ) (start n : ℕ) → ((i : ℕ) → start ≤ i → i < start + n → f i ≡ g i) → sum_by f (range_with_len start n) ≡ sum_by g (range_with_len start n)
sum_by-range_same f g start zero same = refl
sum_by-range_same f g start (suc n) same =
    let ih = sum_by-range_same f g (start + 1) n (λ i low high. same i (omega arith) (omega arith)) in
    let here = same start (omega arith) (omega arith) in
    let a = sum_by-cons f start (range_with_len (start + 1) n) in
    let b = sum_by-cons g start (range_with_len (start + 1) n) in
    a ∙ omega arith ∙ sym b

-- where two functions differ at one number of a range, so do the sums
pub sum_by-range_change : (f g : ℕ → ℕ) (k start n : ℕ) → ((i : ℕ) → i ≢ k → f i ≡ g i) → start ≤ k → k < start + n
    → sum_by f (range_with_len start n) + g k ≡ sum_by g (range_with_len start n) + f k
sum_by-range_change f g k start zero same low high = absurd (omega arith)
sum_by-range_change f g k start (suc n) same low high =
    let a = sum_by-cons f start (range_with_len (start + 1) n) in
    let b = sum_by-cons g start (range_with_len (start + 1) n) in
    let joined : f start + sum_by f (range_with_len (start + 1) n) + g k ≡ g start + sum_by g (range_with_len (start + 1) n) + f k =
    elim (cases_eq start k) [
      | inl e ↦
          let r = sum_by-range_same f g (start + 1) n (λ i l h. same i (λ e'. omega arith)) in
          let p = ap f e in
          let q = ap g e in
          omega arith
      | inr n' ↦
          let ih = sum_by-range_change f g k (start + 1) n same (omega arith) (omega arith) in
          let here = same start n' in
          omega arith
    ]
    in
    ap (λ s. s + g k) a ∙ joined ∙ ap (λ s. s + f k) (sym b)

-- a sum over a list is one over its places
pub sum_by-places : {X : Type 0} (f : X → ℕ) (d : X) (g : ℕ → ℕ) (xs : List X) (start : ℕ) → ((i : ℕ) → i < length xs → g (start + i) ≡ f (get_or xs i d))
    → sum_by g (range_with_len start (length xs)) ≡ sum_by f xs
sum_by-places f d g [] start same = refl
sum_by-places f d g (x ∷ xs) start same =
    let a = sum_by-cons g start (range_with_len (start + 1) (length xs)) in
    let b = sum_by-cons f x xs in
    let e : g start ≡ g (start + 0) = ap g (omega arith) in
    let here : g start ≡ f x = e ∙ same 0 (omega arith) in
    let ih = sum_by-places f d g xs (start + 1) (λ i l. let s : g (start + 1 + i) ≡ g (start + suc i) = ap g (omega arith) in s ∙ same (suc i) (omega arith)) in
    a ∙ omega arith ∙ sym b

-- a part of a range is at most the sum
pub part-le-range : (f : ℕ → ℕ) (i n : ℕ) → i < n → f i ≤ sum_by f (range_with_len 0 n)
part-le-range f i n l = share-le f (range_with_len 0 n) i (Contains-range 0 n i (omega arith) (omega arith))

-- the numbers up to one more, and those of them that pass
numbers_push : (n : ℕ) → range_with_len 0 (n + 1) ≡ range_with_len 0 n ++ n ∷ []
numbers_push n = let none : 0 + n ≡ n = omega arith in range_push 0 n ∙ ap (λ k. range_with_len 0 n ++ k ∷ []) none

pub filter_range_yes : (p : ℕ → Bool) (n : ℕ) → p n ≡ true → filter p (range_with_len 0 (n + 1)) ≡ filter p (range_with_len 0 n) ++ n ∷ []
filter_range_yes p n passes =
    ap (filter p) (numbers_push n) ∙ filter-append p (range_with_len 0 n) (n ∷ []) ∙ ap (λ b. filter p (range_with_len 0 n) ++ cond b (n ∷ []) []) passes

pub filter_range_no : (p : ℕ → Bool) (n : ℕ) → p n ≡ false → filter p (range_with_len 0 (n + 1)) ≡ filter p (range_with_len 0 n)
filter_range_no p n fails =
    ap (filter p) (numbers_push n) ∙ filter-append p (range_with_len 0 n) (n ∷ []) ∙ ap (λ b. filter p (range_with_len 0 n) ++ cond b (n ∷ []) []) fails
    ∙ append-nil (filter p (range_with_len 0 n))
