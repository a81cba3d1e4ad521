-- A cell lies in itself and in the cells that one comes to from it by following parents, and in no others.
use Rattle.std.proofs.Common.{◌≡◌, ℕ, zero, suc, ◌<◌, ◌≤◌, true, List, [], ◌∷◌, length, refl, subst, sym, ap, ◌∙◌, inl, inr, ◌⊎◌, Option, Some, None, arith}
use Rattle.std.specs.Prelude.{MatchOption}
use Rattle.std.specs.List.{Contains}
use Rattle.std.proofs.lemmas.Bool.{cases_eq}
use Rattle.lists.proofs.Elements.{Contains-nil, Contains-head, Contains-later, cases_Contains-cons}
use Rattle.cell_geom.proofs.Nesting.{CubeContains-self, CubeContains-trans, CubeContains-sharing}
use Rattle.cell_tree.specs.Tree.{Made, cells_of, cell_at, IsParent, lies_in}
use Rattle.cell_tree.proofs.Family.{child_level, child_lies, level_deeper, run_outside}

-- the parent of each cell, as a tree tells it: none for the whole box
abbrev pub AreParents : Made → (ℕ → Option ℕ) → Type 0
AreParents made parent_of = (cell : ℕ) → cell < length (cells_of made) → MatchOption (parent_of cell) (cell ≡ 0) (λ parent. IsParent made parent cell)

-- the cells from one up, one parent after another, with so many steps
pub record FollowsParents (parent_of : ℕ → Option ℕ) (cells_up : ℕ → Option ℕ → List ℕ) : Type 0 where
  pub no_step : (up : Option ℕ) → cells_up 0 up ≡ []
  pub no_cell : (n : ℕ) → cells_up (suc n) None ≡ []
  pub next : (n cell : ℕ) → cells_up (suc n) (Some cell) ≡ cell ∷ cells_up n (parent_of cell)

-- what is told of an option, with the option
told : {X : Type 0} (o : Option X) (P : Type 0) (Q : X → Type 0) → MatchOption o P Q → (P × (o ≡ None)) ⊎ ((x : X) × (o ≡ Some x) × Q x)
told None P Q w = inl (w, refl)
told (Some x) P Q w = inr (x, refl, w)

module _ (made : Made) (parent_of : ℕ → Option ℕ) (are : AreParents made parent_of) (cells_up : ℕ → Option ℕ → List ℕ) (follows : FollowsParents parent_of cells_up) where
  -- a cell lies in each cell above it
  lies_below : (n cell above : ℕ) → cell < length (cells_of made) → Contains (cells_up n (parent_of cell)) above → lies_in made above cell ≡ true
  lies_below zero cell above l c = absurd (Contains-nil above (subst (λ xs. Contains xs above) (follows.no_step (parent_of cell)) c))
  lies_below (suc n) cell above l c =
      elim (told (parent_of cell) (cell ≡ 0) (λ parent. IsParent made parent cell) (are cell l)) [
        | inl w ↦ absurd (Contains-nil above (subst (λ xs. Contains xs above) (ap (cells_up (suc n)) w.1 ∙ follows.no_cell n) c))
        | inr w ↦
            let before = w.2.before in
            let lies = child_lies made w.0 cell w.2 in
            cases_Contains-cons (lies_in made above cell ≡ true) w.0 (cells_up n (parent_of w.0)) above
            (λ e. subst (λ k. lies_in made k cell ≡ true) e lies)
            (λ d. CubeContains-trans (cell_at made above).cube (cell_at made w.0).cube (cell_at made cell).cube (lies_below n w.0 above (omega arith) d) lies)
            (subst (λ xs. Contains xs above) (ap (cells_up (suc n)) w.1 ∙ follows.next n w.0) c)
      ]

  -- and a cell in which it lies is above it, where the steps are enough
  above_round : (n cell outer : ℕ) → cell ≤ n → cell < length (cells_of made) → outer < cell → lies_in made outer cell ≡ true → Contains (cells_up n (parent_of cell)) outer
  above_round zero cell outer few l low h = absurd (omega arith)
  above_round (suc n) cell outer few l low h =
      elim (told (parent_of cell) (cell ≡ 0) (λ parent. IsParent made parent cell) (are cell l)) [
        | inl w ↦ let first = w.0 in absurd (omega arith)
        | inr w ↦
            let before = w.2.before in
            let next = child_level made w.0 cell w.2 in
            let deeper = level_deeper made outer cell low l h in
            let lies = CubeContains-sharing (cell_at made outer).cube (cell_at made w.0).cube (cell_at made cell).cube (omega arith) h (child_lies made w.0 cell w.2) in
            let order = (run_outside made outer w.0 (omega arith) (omega arith) lies).0 in
            let rest = cells_up n (parent_of w.0) in
            subst (λ xs. Contains xs outer) (sym (ap (cells_up (suc n)) w.1 ∙ follows.next n w.0)) (
            elim (cases_eq outer w.0) [
              | inl e ↦ subst (Contains (w.0 ∷ rest)) (sym e) (Contains-head w.0 rest)
              | inr ne ↦ Contains-later w.0 rest outer (above_round n w.0 outer (omega arith) (omega arith) (omega arith) lies)
            ])
      ]

  -- so a cell lies in itself and in those above it; there are no more than its number
  pub lies_in-from_above : (outer inner : ℕ) → inner < length (cells_of made) → (outer ≡ inner) ⊎ Contains (cells_up inner (parent_of inner)) outer → lies_in made outer inner ≡ true
  lies_in-from_above outer inner l (inl e) = subst (λ k. lies_in made k inner ≡ true) (sym e) (CubeContains-self (cell_at made inner).cube)
  lies_in-from_above outer inner l (inr c) = lies_below inner inner outer l c

  -- and in no other
  pub above-from_lies_in : (outer inner : ℕ) → outer < length (cells_of made) → inner < length (cells_of made) → lies_in made outer inner ≡ true → (outer ≡ inner) ⊎ Contains (cells_up inner (parent_of inner)) outer
  above-from_lies_in outer inner k l h =
      elim (cases_eq outer inner) [
        | inl e ↦ inl e
        | inr ne ↦ let order = (run_outside made outer inner k l h).0 in inr (above_round inner inner outer (omega arith) l (omega arith) h)
      ]
