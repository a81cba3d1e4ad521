-- Whether a point is a member, as a number, and so whether two points meet.
use Rattle.std.proofs.Common.{◌≡◌, ℕ, ◌+◌, ◌*◌, ◌<◌, true, cond, eqb, List, get_or, Option, Some, None, refl, sym, ◌∙◌, subst, ◌⊎◌, inl, inr, arith}
use Rattle.std.specs.List.{Contains}
use Rattle.std.proofs.lemmas.Bool.{cases_Bool, cases_eq, eqb-true, eq-eqb, true≢false}
use Rattle.std.proofs.lemmas.List.Folds.{Any-from_list_any, list_any_at}
use Rattle.sph_num.specs.Cover.{is_member, Group, MeetIn, Meets, MeetsItself}

-- the test of a member tells the members
pub member_from_test : (members : List ℕ) (i : ℕ) → is_member members i ≡ true → Contains members i
member_from_test members i t =
    let w = Any-from_list_any (λ k. eqb k i) members t in subst (Contains members) (eqb-true w.1 i w.4) (w.0, w.2, w.3)

pub test_from_member : (members : List ℕ) (i : ℕ) → Contains members i → is_member members i ≡ true
test_from_member members i c = list_any_at (λ k. eqb k i) members c.0 i c.1 (eq-eqb (get_or members c.0 i) i c.2)

-- 1 for a member, 0 for any other point
pub share : List ℕ → ℕ → ℕ
share members i = cond (is_member members i) 1 0

-- a list has the number, or has it not
pub share_cases : (members : List ℕ) (i : ℕ) → (Contains members i × (share members i ≡ 1)) ⊎ ((Contains members i → ⊥) × (share members i ≡ 0))
unfolding share
share_cases members i =
    elim (cases_Bool (is_member members i)) [
      | inl t ↦ inl (member_from_test members i t, rw t refl)
      | inr f ↦ inr (λ c. true≢false (sym (test_from_member members i c) ∙ f), rw f refl)
    ]

-- a member has the share 1, and what isn't one has none
pub share_member : (members : List ℕ) (i : ℕ) → Contains members i → share members i ≡ 1
share_member members i c = elim (share_cases members i) [ inl w ↦ w.1 | inr w ↦ absurd (w.0 c) ]

pub share_other : (members : List ℕ) (i : ℕ) → (Contains members i → ⊥) → share members i ≡ 0
share_other members i n = elim (share_cases members i) [ inl w ↦ absurd (n w.0) | inr w ↦ w.1 ]

pub member_from_share : (members : List ℕ) (i : ℕ) → 0 < share members i → Contains members i
member_from_share members i l = elim (share_cases members i) [ inl w ↦ w.0 | inr w ↦ absurd (let e = w.1 in omega arith) ]

-- how often two points meet in one cell, or in two
abbrev pub share_in : List ℕ → Option (List ℕ) → ℕ → ℕ → ℕ
share_in first None i j = share first i * share first j
share_in first (Some second) i j = share first i * share second j + share first j * share second i

abbrev pub share_of_two : ℕ → ℕ → Group → ℕ
share_of_two i j group = share_in group.first group.second i j

-- how often a point meets itself
abbrev pub own_share_in : List ℕ → Option (List ℕ) → ℕ → ℕ
own_share_in first None i = share first i
own_share_in first (Some second) i = 0

abbrev pub own_share : ℕ → Group → ℕ
own_share i group = own_share_in group.first group.second i

-- the factors of a product that isn't none
both_some : (p q : ℕ) → 0 < p * q → (0 < p) × (0 < q)
both_some p q l =
    elim (cases_eq p 0) [
      | inl e ↦ absurd (let l' : 0 < 0 * q = rw e at l in omega arith)
      | inr ne ↦ elim (cases_eq q 0) [
        | inl e ↦ absurd (let l' : 0 < p * 0 = rw e at l in omega arith)
        | inr me ↦ (omega arith, omega arith)
      ]
    ]

-- two points that meet have a share
pub some_of_two : (i j : ℕ) (g : Group) → Meets i j g → 0 < share_of_two i j g
some_of_two i j g m = some g.first g.second m.1
  where
    some : (first : List ℕ) (second : Option (List ℕ)) → MeetIn first second i j → 0 < share_in first second i j
    some first None w = let p = share_member first i w.0 in let q = share_member first j w.1 in rw (p, q) (omega arith)
    some first (Some second) (inl w) = let p = share_member first i w.0 in let q = share_member second j w.1 in rw (p, q) (omega arith)
    some first (Some second) (inr w) = let p = share_member first j w.0 in let q = share_member second i w.1 in rw (p, q) (omega arith)

-- and two that have one meet
pub two_from_some : (i j : ℕ) → (i ≡ j → ⊥) → (g : Group) → 0 < share_of_two i j g → Meets i j g
two_from_some i j ne g l = (ne, meet g.first g.second l)
  where
    member : (xs ys : List ℕ) (k m : ℕ) → 0 < share xs k * share ys m → Contains xs k × Contains ys m
    member xs ys k m l = let w = both_some (share xs k) (share ys m) l in (member_from_share xs k w.0, member_from_share ys m w.1)

    meet : (first : List ℕ) (second : Option (List ℕ)) → 0 < share_in first second i j → MeetIn first second i j
    meet first None l = member first first i j l
    meet first (Some second) l =
        elim (cases_eq (share first i * share second j) 0) [
          | inl e ↦ let w = member first second j i (omega arith) in inr (w.0, w.1)
          | inr me ↦ let w = member first second i j (omega arith) in inl (w.0, w.1)
        ]

-- a point that meets itself has a share
pub some_itself : (i : ℕ) (g : Group) → MeetsItself i g → 0 < own_share i g
some_itself i g m = rw m.one_cell (let e = share_member g.first i m.member in omega arith)

-- and one that has it meets itself
pub itself_from_some : (i : ℕ) (g : Group) → 0 < own_share i g → MeetsItself i g
itself_from_some i g l = own g.first g.second l
  where
    own : (first : List ℕ) (second : Option (List ℕ)) → 0 < own_share_in first second i → MeetsItself i (record { first = first; second = second })
    own first None l = record { one_cell = refl; member = member_from_share first i l }
    own first (Some second) l = absurd (omega arith)
