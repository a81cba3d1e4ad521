-- A list without a number.
use Rattle.std.proofs.Common.{◌≡◌, ℕ, Bool, true, not, cond, eqb, List, ◌∷◌, Contains, count_by, refl, sym, ap, inl, inr, ◌∙◌, arith, eq-eqb, ne_eqb, true≢false, []}
use Rattle.std.proofs.lemmas.Bool.{cases_eq}
use Rattle.std.proofs.lemmas.List.Elements.{All-contains, filter_passes}
use Rattle.std.proofs.lemmas.List.Sums.{sum_by-cons}
use Rattle.lists.proofs.Counts.{one_if, one_if-other}
use Rattle.lists.proofs.Elements.{Contains-filter, Contains-from_filter}
use Rattle.qs_core.specs.Steps.{without}

-- without a number the others are as they were
without-same : (x z : ℕ) (zs : List ℕ) → z ≡ x → without x (z ∷ zs) ≡ without x zs
without-same x z zs e = ap (λ (b : Bool). cond {A = List ℕ} (not b) (z ∷ without x zs) (without x zs)) (eq-eqb z x e)

without-other : (x z : ℕ) (zs : List ℕ) → (z ≡ x → ⊥) → without x (z ∷ zs) ≡ z ∷ without x zs
without-other x z zs n = ap (λ (b : Bool). cond {A = List ℕ} (not b) (z ∷ without x zs) (without x zs)) (ne_eqb z x n)

pub Contains-without : (x : ℕ) (xs : List ℕ) (y : ℕ) → Contains (without x xs) y → Contains xs y × (y ≡ x → ⊥)
Contains-without x xs y h =
    let p = λ (z : ℕ). not (eqb z x) in
    let kept : p y ≡ true = All-contains (λ z. p z ≡ true) (without x xs) y (filter_passes p xs) h in
    (Contains-from_filter p xs y h, λ e. true≢false (sym kept ∙ ap not (eq-eqb y x e)))

pub without_keeps : (x : ℕ) (xs : List ℕ) (y : ℕ) → Contains xs y → (y ≡ x → ⊥) → Contains (without x xs) y
without_keeps x xs y h n = Contains-filter (λ z. not (eqb z x)) xs y (ap not (ne_eqb y x n)) h

pub count_by-without : (x c : ℕ) (xs : List ℕ) → (c ≡ x → ⊥) → count_by (λ a. eqb a c) (without x xs) ≡ count_by (λ a. eqb a c) xs
count_by-without x c [] n = refl
count_by-without x c (z ∷ zs) n =
    let same = count_by-without x c zs n in
    let all = sum_by-cons (λ a. one_if a c) z zs in
    elim (cases_eq z x) [
      | inl e ↦
          let t = ap (count_by (λ a. eqb a c)) (without-same x z zs e) in
          let none = one_if-other z c (λ q. n (sym q ∙ e)) in omega arith
      | inr o ↦
          let t = ap (count_by (λ a. eqb a c)) (without-other x z zs o) in
          let kept = sum_by-cons (λ a. one_if a c) z (without x zs) in omega arith
    ]
