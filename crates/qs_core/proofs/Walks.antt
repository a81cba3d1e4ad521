-- A walk up from a cell, through its ancestors.
use Rattle.std.proofs.Common.{◌≡◌, ℕ, zero, suc, ◌+◌, ◌-◌, ◌<◌, ◌≤◌, ◌↔◌, List, [], ◌∷◌, length, get_or, Contains, Option, Some, None, refl, sym, ap, inl, inr, ◌∙◌, subst, arith}
use Rattle.lists.proofs.Elements.{Contains-cons_cases, Contains-head, Contains-later, Contains-nil}
use Rattle.qs_core.specs.Shape.{Shape, IsShape, CellContains, ancestors, cells_up, parent_of}
use Rattle.qs_core.proofs.Ancestors.{parent_below}

-- the cells from one up, the cell first
abbrev pub line_up : Shape → Option ℕ → List ℕ
line_up shape None = []
line_up shape (Some cell) = cell ∷ ancestors shape cell

-- one more than the number of a cell
abbrev pub rank : Option ℕ → ℕ
rank None = 0
rank (Some cell) = suc cell

-- the number of steps doesn't matter where it suffices
cells_up_enough : (shape : Shape) → IsShape shape → (n m : ℕ) (up : Option ℕ) → ((a : ℕ) → up ≡ Some a → a < n) → ((a : ℕ) → up ≡ Some a → a < m)
    → cells_up shape n up ≡ cells_up shape m up
cells_up_enough shape is zero zero up l l' = refl
cells_up_enough shape is zero (suc m) None l l' = refl
cells_up_enough shape is (suc n) zero None l l' = refl
cells_up_enough shape is (suc n) (suc m) None l l' = refl
cells_up_enough shape is zero (suc m) (Some a) l l' = let q = l a refl in absurd (omega arith)
cells_up_enough shape is (suc n) zero (Some a) l l' = let q = l' a refl in absurd (omega arith)
cells_up_enough shape is (suc n) (suc m) (Some a) l l' =
    let q = l a refl in
    let r = l' a refl in
    ap (λ (xs : List ℕ). a ∷ xs)
    (cells_up_enough shape is n m (parent_of shape a) (λ b e. let p = parent_below shape is a b e in omega arith) (λ b e. let p = parent_below shape is a b e in omega arith))

cells_up_line : (shape : Shape) → IsShape shape → (n : ℕ) (up : Option ℕ) → ((a : ℕ) → up ≡ Some a → a < n) → cells_up shape n up ≡ line_up shape up
unfolding ancestors
cells_up_line shape is zero None l = refl
cells_up_line shape is (suc n) None l = refl
cells_up_line shape is zero (Some a) l = let q = l a refl in absurd (omega arith)
cells_up_line shape is (suc n) (Some a) l =
    let q = l a refl in
    ap (λ (xs : List ℕ). a ∷ xs)
    (cells_up_enough shape is n a (parent_of shape a) (λ b e. let p = parent_below shape is a b e in omega arith) (λ b e. (parent_below shape is a b e).0))

-- the ancestors of a cell are those from its parent up
pub ancestors-line_up : (shape : Shape) → IsShape shape → (cell : ℕ) → ancestors shape cell ≡ line_up shape (parent_of shape cell)
unfolding ancestors
ancestors-line_up shape is cell = cells_up_line shape is cell (parent_of shape cell) (λ a e. (parent_below shape is cell a e).0)

-- the rank falls on the way up
pub rank-falls : (shape : Shape) → IsShape shape → (cell : ℕ) → rank (parent_of shape cell) ≤ cell
rank-falls shape is cell = go (parent_of shape cell) (λ a e. (parent_below shape is cell a e).0)
  where
    go : (up : Option ℕ) → ((a : ℕ) → up ≡ Some a → a < cell) → rank up ≤ cell
    go None l = omega arith
    go (Some a) l = let q = l a refl in omega arith

-- the cell that a walk is at is contained: none where the walk is over
abbrev pub Reaches : Shape → ℕ → Option ℕ → Type 0
Reaches shape outer None = ⊥
Reaches shape outer (Some cell) = CellContains shape outer cell

-- another cell contains a cell where it contains the parent
pub contains-step : (shape : Shape) → IsShape shape → (outer cell : ℕ) → (cell ≡ outer → ⊥) → CellContains shape outer cell ↔ Reaches shape outer (parent_of shape cell)
contains-step shape is outer cell n = go (parent_of shape cell) (ancestors-line_up shape is cell)
  where
    go : (up : Option ℕ) → ancestors shape cell ≡ line_up shape up → CellContains shape outer cell ↔ Reaches shape outer up
    go None e = (
      λ c. elim c [ inl same ↦ absurd (n (sym same)) | inr in' ↦ Contains-nil outer (subst (λ xs. Contains xs outer) e in') ],
      λ c. absurd c,
    )
    go (Some a) e = (
      λ c. elim c [
        | inl same ↦ absurd (n (sym same))
        | inr in' ↦ elim (Contains-cons_cases a (ancestors shape a) outer (subst (λ xs. Contains xs outer) e in')) [ inl s ↦ inl (sym s) | inr h ↦ inr h ]
      ],
      λ c. inr (subst (λ xs. Contains xs outer) (sym e) (elim c [
        | inl s ↦ subst (λ x. Contains (a ∷ ancestors shape a) x) (sym s) (Contains-head a (ancestors shape a))
        | inr h ↦ Contains-later a (ancestors shape a) outer h
      ])),
    )

-- the walk to the ancestor at an index
pub seeking-first : (shape : Shape) → IsShape shape → (cell index : ℕ) (up : Option ℕ) → up ≡ parent_of shape cell → get_or (ancestors shape cell) index 0 ≡ get_or (line_up shape up) index 0
seeking-first shape is cell index up e = ap (λ xs. get_or xs index 0) (ancestors-line_up shape is cell ∙ ap (line_up shape) (sym e))

pub seeking-more : (shape : Shape) → IsShape shape → (above left found : ℕ) (up next : Option ℕ) → up ≡ Some above → next ≡ parent_of shape above → (left ≡ 0 → ⊥)
    → found ≡ get_or (line_up shape up) left 0 → found ≡ get_or (line_up shape next) (left - 1) 0
seeking-more shape is above zero found up next u e n f = absurd (n refl)
seeking-more shape is above (suc left) found up next u e n f =
    let same : suc left - 1 ≡ left = omega arith in
    f ∙ ap (λ o. get_or (line_up shape o) (suc left) 0) u ∙ seeking-first shape is above left next e ∙ ap (λ k. get_or (line_up shape next) k 0) (sym same)

-- the walk that counts the ancestors
pub record IsCounting (shape : Shape) (cell count : ℕ) (up : Option ℕ) : Type 0 where
  pub counted : count + length (line_up shape up) ≡ length (ancestors shape cell)
  pub few : count + rank up ≤ cell

pub counting-none : (shape : Shape) → IsShape shape → (cell : ℕ) (up : Option ℕ) → up ≡ parent_of shape cell → IsCounting shape cell 0 up
counting-none shape is cell up e =
    let l = ap length (ancestors-line_up shape is cell ∙ ap (line_up shape) (sym e)) in
    let f = rank-falls shape is cell in
    let r = ap rank e in
    record { counted = omega arith; few = omega arith }

pub counting-more : (shape : Shape) → IsShape shape → (cell count above : ℕ) (up next : Option ℕ) → up ≡ Some above → next ≡ parent_of shape above
    → IsCounting shape cell count up → IsCounting shape cell (count + 1) next
counting-more shape is cell count above up next u e c =
    let l = ap length (ancestors-line_up shape is above ∙ ap (line_up shape) (sym e)) in
    let f = rank-falls shape is above in
    let r = ap rank e in
    let d : length (line_up shape up) ≡ suc (length (ancestors shape above)) = ap (λ o. length (line_up shape o)) u in
    let s : rank up ≡ suc above = ap rank u in
    let counted = c.counted in
    let few = c.few in
    record { counted = omega arith; few = omega arith }

-- the measure of a walk
pub walk-smaller : (shape : Shape) → IsShape shape → (cell : ℕ) (at next : Option ℕ) → at ≡ Some cell → next ≡ parent_of shape cell → rank next < rank at
walk-smaller shape is cell at next a e =
    let f = rank-falls shape is cell in
    let r = ap rank e in
    let s : rank at ≡ suc cell = ap rank a in
    omega arith

-- the walk that looks for a cell
pub reaches-more : (shape : Shape) → IsShape shape → (outer inner cell : ℕ) (at next : Option ℕ) → at ≡ Some cell → next ≡ parent_of shape cell → (cell ≡ outer → ⊥)
    → CellContains shape outer inner ↔ Reaches shape outer at → CellContains shape outer inner ↔ Reaches shape outer next
reaches-more shape is outer inner cell at next a e n i =
    let step = contains-step shape is outer cell n in (
      λ c. subst (Reaches shape outer) (sym e) (step.0 (subst (Reaches shape outer) a (i.0 c))),
      λ r. i.1 (subst (Reaches shape outer) (sym a) (step.1 (subst (Reaches shape outer) e r))),
    )
