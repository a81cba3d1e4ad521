-- How often a number occurs in a list.
use Rattle.std.proofs.Common.{◌≡◌, ℕ, suc, ◌+◌, ◌<◌, ◌≤◌, Bool, not, cond, eqb, List, length, get_or, take, filter, Contains, count_by, refl, ap, subst, inl, inr, arith, add-one, eq-eqb, ne_eqb, ◌⊎◌}
use Rattle.std.proofs.lemmas.Bool.{cases_eq, cases_lt}
use Rattle.std.proofs.lemmas.List.Sums.{sum_by_more}
use Rattle.std.proofs.lemmas.List.Filters.{sum_by-filter_both}
use Rattle.lists.proofs.Sums.{share-le, sum_by-none, some_share}

-- 1 for the number itself, 0 for another
abbrev pub one_if : ℕ → ℕ → ℕ
one_if a c = cond (eqb a c) 1 0

pub one_if-same : (a c : ℕ) → a ≡ c → one_if a c ≡ 1
one_if-same a c e = ap (λ (b : Bool). cond {A = ℕ} b 1 0) (eq-eqb a c e)

pub one_if-other : (a c : ℕ) → (a ≡ c → ⊥) → one_if a c ≡ 0
one_if-other a c e = ap (λ (b : Bool). cond {A = ℕ} b 1 0) (ne_eqb a c e)

pub one_if-le : (a c : ℕ) → one_if a c ≤ 1
one_if-le a c = elim (cases_eq a c) [ inl e ↦ omega (arith, one_if-same a c e) | inr e ↦ omega (arith, one_if-other a c e) ]

-- an element with the number makes the count positive, and where it is 0 there is none
pub counted : {X : Type 0} (key : X → ℕ) (c : ℕ) (xs : List X) (x : X) → Contains xs x → key x ≡ c → 0 < count_by (λ y. eqb (key y) c) xs
counted key c xs x h e =
    let a = share-le (λ y. one_if (key y) c) xs x h in
    omega (arith, one_if-same (key x) c e)

pub count_none : {X : Type 0} (key : X → ℕ) (c : ℕ) (xs : List X) → ((x : X) → Contains xs x → key x ≡ c → ⊥) → count_by (λ y. eqb (key y) c) xs ≡ 0
count_none key c xs h = sum_by-none (λ y. one_if (key y) c) xs (λ y k. one_if-other (key y) c (h y k))

-- the same of a list of numbers
pub count-pos : (xs : List ℕ) (x : ℕ) → Contains xs x → 0 < count_by (λ y. eqb y x) xs
count-pos xs x h = counted (λ y. y) x xs x h refl

pub count-zero : (xs : List ℕ) (x : ℕ) → (Contains xs x → ⊥) → count_by (λ y. eqb y x) xs ≡ 0
count-zero xs x n = count_none (λ y. y) x xs (λ y h e. n (subst (Contains xs) e h))

-- so what is counted is an element
pub Contains-from_count : (xs : List ℕ) (x : ℕ) → 0 < count_by (λ y. eqb y x) xs → Contains xs x
Contains-from_count xs x l =
    let w = some_share (λ y. one_if y x) xs l in
    elim (cases_eq w.0 x) [ inl e ↦ subst (Contains xs) e w.1 | inr n ↦ let z = one_if-other w.0 x n in let some = w.2 in absurd (omega arith) ]

-- so a list has a number or hasn't
pub cases_Contains : (xs : List ℕ) (x : ℕ) → Contains xs x ⊎ (Contains xs x → ⊥)
cases_Contains xs x =
    elim (cases_lt 0 (count_by (λ y. eqb y x) xs)) [ inl some ↦ inl (Contains-from_count xs x some) | inr none ↦ inr (λ c. let p = count-pos xs x c in omega arith) ]

-- one more of a front
pub count_by-take_suc : (c r : ℕ) (xs : List ℕ) → r < length xs → count_by (λ a. eqb a c) (take (suc r) xs) ≡ count_by (λ a. eqb a c) (take r xs) + one_if (get_or xs r 0) c
count_by-take_suc c r xs l = rw (add-one r) at (sum_by_more (λ a. one_if a c) xs r 0 l)

-- a filter counts no more
pub count-filter : {X : Type 0} (p q : X → Bool) (xs : List X) → count_by q (filter p xs) ≤ count_by q xs
count-filter p q xs = omega (arith, sum_by-filter_both p (λ x. not (p x)) (λ _. refl) (λ x. cond (q x) 1 0) xs)
