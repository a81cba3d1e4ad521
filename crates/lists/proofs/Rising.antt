-- Lists of numbers that rise, and the numbers of a range that pass a test.
use Rattle.std.proofs.Common.{◌≡◌, ℕ, zero, suc, ◌+◌, ◌<◌, ◌≤◌, Bool, true, cond, List, [], ◌∷◌, length, refl, ap, ◌∙◌, inl, inr, count_by, arith, ◌-◌, ◌++◌, map, filter, ◌⊎◌}
use Rattle.std.specs.List.{AllPairs, Contains, range_with_len}
use Rattle.std.specs.List.Sorted.{IsStrictlyIncreasing}
use Rattle.std.proofs.lemmas.Bool.{cases_Bool}
use Rattle.std.proofs.lemmas.List.Kept.{AllPairs-cons, AllPairs-filter}
use Rattle.std.proofs.lemmas.List.Sums.{sum_by-cons}
use Rattle.lists.proofs.Elements.{cases_Contains-cons, Contains-head, Contains-later, Contains-nil, All-from_Contains, Contains-filter, Contains-from_filter, passes_from_filter}
use Rattle.lists.proofs.Ranges.{range-within, below_from_numbers, Contains-numbers, Contains-range}
use Rattle.std.proofs.lemmas.List.{get_or-map, length-map}
use Rattle.std.proofs.lemmas.List.Elements.{Contains-append_cases, Contains-append_left, Contains-append_right}

-- each number is below the later ones
abbrev pub Rises : List ℕ → Type 0
Rises xs = AllPairs (λ x y. x < y) xs

-- and so below the next one
pub IsStrictlyIncreasing-from_Rises : (xs : List ℕ) → Rises xs → IsStrictlyIncreasing xs
IsStrictlyIncreasing-from_Rises xs r k l = r k (k + 1) 0 (omega arith) l

pub Rises-tail : (x : ℕ) (xs : List ℕ) → Rises (x ∷ xs) → Rises xs
Rises-tail x xs r i j d l m = r (suc i) (suc j) d (omega arith) (omega arith)

-- the first number is the least
pub head_below : (x : ℕ) (xs : List ℕ) → Rises (x ∷ xs) → (y : ℕ) → Contains xs y → x < y
head_below x xs r y c = let l = c.1 in let a = r 0 (suc c.0) y (omega arith) (omega arith) in let e = c.2 in omega arith

later_of : (x : ℕ) (xs : List ℕ) (y : ℕ) → x < y → Contains (x ∷ xs) y → Contains xs y
later_of x xs y l c = cases_Contains-cons (Contains xs y) x xs y (λ e. absurd (omega arith)) (λ w. w) c

-- two rising lists with the same numbers are the same
pub same_rising : (xs ys : List ℕ) → Rises xs → Rises ys → ((z : ℕ) → Contains xs z → Contains ys z) → ((z : ℕ) → Contains ys z → Contains xs z) → xs ≡ ys
same_rising [] [] r s p q = refl
same_rising [] (y ∷ ys) r s p q = absurd (Contains-nil y (q y (Contains-head y ys)))
same_rising (x ∷ xs) [] r s p q = absurd (Contains-nil x (p x (Contains-head x xs)))
same_rising (x ∷ xs) (y ∷ ys) r s p q =
    let low : y ≤ x = cases_Contains-cons (y ≤ x) y ys x (λ e. omega arith) (λ c. let l = head_below y ys s x c in omega arith) (p x (Contains-head x xs)) in
    let high : x ≤ y = cases_Contains-cons (x ≤ y) x xs y (λ e. omega arith) (λ c. let l = head_below x xs r y c in omega arith) (q y (Contains-head y ys)) in
    let e : x ≡ y = omega arith in
    let rest : xs ≡ ys = same_rising xs ys (Rises-tail x xs r) (Rises-tail y ys s)
    (λ z c. later_of y ys z (let l = head_below x xs r z c in omega arith) (p z (Contains-later x xs z c)))
    (λ z c. later_of x xs z (let l = head_below y ys s z c in omega arith) (q z (Contains-later y ys z c))) in
    ap (λ k. k ∷ xs) e ∙ ap (λ ks. y ∷ ks) rest

-- numbers from the first on rise
pub Rises-range : (first n : ℕ) → Rises (range_with_len first n)
Rises-range first zero = λ i j d l m. absurd (omega arith)
Rises-range first (suc n) =
    AllPairs-cons (λ x y. x < y) first (range_with_len (first + 1) n)
    (All-from_Contains (λ y. first < y) (range_with_len (first + 1) n) (λ y c. let b = range-within (first + 1) n y c in omega (arith, b.0)))
    (Rises-range (first + 1) n)

-- where nothing passes the count is none
none_pass : (p : ℕ → Bool) (xs : List ℕ) → ((x : ℕ) → Contains xs x → p x ≡ true → ⊥) → count_by p xs ≡ 0
none_pass p [] h = refl
none_pass p (x ∷ xs) h =
    elim (cases_Bool (p x)) [
      | inl t ↦ absurd (h x (Contains-head x xs) t)
      | inr f ↦
          let rest : count_by p xs ≡ 0 = none_pass p xs (λ y c. h y (Contains-later x xs y c)) in
          let same : count_by p (x ∷ xs) ≡ 0 + count_by p xs = sum_by-cons (λ y. cond (p y) 1 0) x xs ∙ ap (λ b. cond b 1 0 + count_by p xs) f in omega arith
    ]

-- where those that pass are the same number, at most one does
pub count_one : (p : ℕ → Bool) (xs : List ℕ) → Rises xs → ((x y : ℕ) → Contains xs x → Contains xs y → p x ≡ true → p y ≡ true → x ≡ y) → count_by p xs ≤ 1
count_one p [] r h = omega arith
count_one p (x ∷ xs) r h =
    let e : count_by p (x ∷ xs) ≡ cond (p x) 1 0 + count_by p xs = sum_by-cons (λ y. cond (p y) 1 0) x xs in
    let rest : count_by p xs ≤ 1 = count_one p xs (Rises-tail x xs r) (λ y z c d. h y z (Contains-later x xs y c) (Contains-later x xs z d)) in
    elim (cases_Bool (p x)) [
      | inl t ↦
          let none : count_by p xs ≡ 0 = none_pass p xs (λ y c u. let same = h x y (Contains-head x xs) (Contains-later x xs y c) t u in let l = head_below x xs r y c in omega arith) in
          let one : count_by p (x ∷ xs) ≡ 1 + count_by p xs = e ∙ ap (λ b. cond b 1 0 + count_by p xs) t in
          omega arith
      | inr f ↦ let same : count_by p (x ∷ xs) ≡ 0 + count_by p xs = e ∙ ap (λ b. cond b 1 0 + count_by p xs) f in omega arith
    ]

-- a list whose numbers are below those of another, before it
pub Rises-append : (xs ys : List ℕ) → Rises xs → Rises ys → ((x y : ℕ) → Contains xs x → Contains ys y → x < y) → Rises (xs ++ ys)
Rises-append [] ys r s below = s
Rises-append (x ∷ xs) ys r s below =
    AllPairs-cons (λ i j. i < j) x (xs ++ ys)
    (All-from_Contains (λ y. x < y) (xs ++ ys) (λ y c. elim (Contains-append_cases xs ys y c) [ inl d ↦ head_below x xs r y d | inr d ↦ below x y (Contains-head x xs) d ]))
    (Rises-append xs ys (Rises-tail x xs r) s (λ a b c d. below a b (Contains-later x xs a c) d))

-- numbers counted from a further number on rise as before
pub Rises-map_add : (first : ℕ) (xs : List ℕ) → Rises xs → Rises (map (λ i. first + i) xs)
Rises-map_add first xs r i j d l m =
    let m' : j < length xs = omega (arith, length-map xs (λ k. first + k)) in
    let a = get_or-map (λ k. first + k) xs i d d (omega arith) in
    let b = get_or-map (λ k. first + k) xs j d d m' in
    let h = r i j d l m' in
    omega arith

pub Rises-filter_numbers : (p : ℕ → Bool) (n : ℕ) → Rises (filter p (range_with_len 0 n))
Rises-filter_numbers p n = AllPairs-filter (λ i j. i < j) p (range_with_len 0 n) (Rises-range 0 n)

-- a rising list of just the numbers that pass is the filtered list
pub filter_is : (p : ℕ → Bool) (n : ℕ) (ys : List ℕ) → Rises ys → ((y : ℕ) → Contains ys y → (y < n) × (p y ≡ true)) → ((k : ℕ) → k < n → p k ≡ true → Contains ys k)
    → filter p (range_with_len 0 n) ≡ ys
filter_is p n ys r passes all =
    let xs = range_with_len 0 n in
    same_rising (filter p xs) ys (Rises-filter_numbers p n) r
    (λ z c. all z (below_from_numbers n z (Contains-from_filter p xs z c)) (passes_from_filter p xs z c))
    (λ z c. let h = passes z c in Contains-filter p xs z h.1 (Contains-numbers n z h.0))

-- where just the numbers of a range pass
pub filter_range : (p : ℕ → Bool) (n from to : ℕ) → to ≤ n → ((k : ℕ) → k < n → p k ≡ true → (from ≤ k) × (k < to)) → ((k : ℕ) → k < n → from ≤ k → k < to → p k ≡ true)
    → filter p (range_with_len 0 n) ≡ range_with_len from (to - from)
filter_range p n from to within inside passes =
    filter_is p n (range_with_len from (to - from)) (Rises-range from (to - from))
    (λ y c. let b = range-within from (to - from) y c in let l : y < n = omega (arith, b.0, b.1) in (l, passes y l b.0 (omega (arith, b.0, b.1))))
    (λ k l t. let b = inside k l t in Contains-range from (to - from) k b.0 (omega (arith, b.0, b.1)))

-- where just the numbers of two ranges pass, of which the one ends before the other
pub filter_ranges : (p : ℕ → Bool) (n from to from' to' : ℕ) → to ≤ from' → from' ≤ to' → to' ≤ n
    → ((k : ℕ) → k < n → p k ≡ true → ((from ≤ k) × (k < to)) ⊎ ((from' ≤ k) × (k < to')))
    → ((k : ℕ) → k < n → from ≤ k → k < to → p k ≡ true)
    → ((k : ℕ) → k < n → from' ≤ k → k < to' → p k ≡ true)
    → filter p (range_with_len 0 n) ≡ range_with_len from (to - from) ++ range_with_len from' (to' - from')
filter_ranges p n from to from' to' apart rises within inside passes passes' =
    let xs = range_with_len from (to - from) in
    let ys = range_with_len from' (to' - from') in
    let low : (k : ℕ) → Contains xs k → (from ≤ k) × (k < to) = λ k c. let b = range-within from (to - from) k c in (b.0, omega (arith, b.0, b.1)) in
    let high : (k : ℕ) → Contains ys k → (from' ≤ k) × (k < to') = λ k c. let b = range-within from' (to' - from') k c in (b.0, omega (arith, b.0, b.1)) in
    filter_is p n (xs ++ ys)
    (Rises-append xs ys (Rises-range from (to - from)) (Rises-range from' (to' - from')) (λ x y c d. let a = low x c in let b = high y d in omega (arith, a.1, b.0)))
    (λ y c. elim (Contains-append_cases xs ys y c) [
      | inl d ↦ let b = low y d in let l : y < n = omega (arith, b.1) in (l, passes y l b.0 b.1)
      | inr d ↦ let b = high y d in let l : y < n = omega (arith, b.1) in (l, passes' y l b.0 b.1)
    ])
    (λ k l t. elim (inside k l t) [
      | inl b ↦ Contains-append_left xs ys k (Contains-range from (to - from) k b.0 (omega (arith, b.0, b.1)))
      | inr b ↦ Contains-append_right xs ys k (Contains-range from' (to' - from') k b.0 (omega (arith, b.0, b.1)))
    ])
