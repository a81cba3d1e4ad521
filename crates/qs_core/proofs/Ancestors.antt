-- The ancestors of a cell: their numbers fall, so each stands once.
use Rattle.std.proofs.Common.{◌≡◌, ℕ, zero, suc, ◌<◌, ◌≤◌, eqb, length, get_or, take, All, count_by, Option, Some, None, refl, sym, ap, inl, inr, ◌∙◌, arith}
use Rattle.std.specs.Prelude.{unwrap_or}
use Rattle.std.proofs.lemmas.Bool.{cases_eq, cases_lt}
use Rattle.std.proofs.lemmas.Option.{none-some, slice_get_past}
use Rattle.std.proofs.lemmas.List.Elements.{All-nil, All-cons, All-get_or, All-contains}
use Rattle.std.proofs.lemmas.List.Sums.{sum_by-cons, sum_by-take-le}
use Rattle.lists.proofs.Counts.{count_none, one_if, one_if-le, one_if-other}
use Rattle.qs_core.specs.Shape.{Shape, IsShape, ancestors, cells_up, parent_of}

-- past the last cell there is no parent
pub parent_of-none : (shape : Shape) (cell : ℕ) → length shape.parents ≤ cell → parent_of shape cell ≡ None
parent_of-none shape cell h = ap (λ (o : Option (Option ℕ)). unwrap_or o None) (slice_get_past shape.parents cell h)

-- a parent's number is below its child's, and the child is a cell
pub parent_below : (shape : Shape) → IsShape shape → (cell above : ℕ) → parent_of shape cell ≡ Some above → (above < cell) × (cell < length shape.parents)
parent_below shape is cell above e =
    elim (cases_lt cell (length shape.parents)) [
      | inl l ↦ ((is.cells cell l).parent above e, l)
      | inr m ↦ absurd (none-some above (sym (parent_of-none shape cell m) ∙ e))
    ]

-- the cells from a parent up are below every number that the parent is below
pub cells_up-below : (shape : Shape) → IsShape shape → (n : ℕ) (up : Option ℕ) (bound : ℕ) → ((a : ℕ) → up ≡ Some a → a < bound)
    → All (λ x. x < bound) (cells_up shape n up)
cells_up-below shape is zero up bound h = All-nil (λ x. x < bound)
cells_up-below shape is (suc n) None bound h = All-nil (λ x. x < bound)
cells_up-below shape is (suc n) (Some a) bound h =
    All-cons (λ x. x < bound) a (cells_up shape n (parent_of shape a)) (h a refl)
    (cells_up-below shape is n (parent_of shape a) bound (λ b e. let p = parent_below shape is a b e in let q = h a refl in omega arith))

-- each stands once
pub cells_up-once : (shape : Shape) → IsShape shape → (n : ℕ) (up : Option ℕ) (c : ℕ) → count_by (λ x. eqb x c) (cells_up shape n up) ≤ 1
cells_up-once shape is zero up c = omega arith
cells_up-once shape is (suc n) None c = omega arith
cells_up-once shape is (suc n) (Some a) c =
    let rest = cells_up shape n (parent_of shape a) in
    let sum = sum_by-cons (λ x. one_if x c) a rest in
    let below = cells_up-below shape is n (parent_of shape a) a (λ b e. (parent_below shape is a b e).0) in
    elim (cases_eq a c) [
      | inl same ↦
          let none = count_none (λ x. x) c rest (λ x k e. let l = All-contains (λ y. y < a) rest x below k in omega arith) in
          let one = one_if-le a c in omega arith
      | inr other ↦
          let none = one_if-other a c other in
          let few = cells_up-once shape is n (parent_of shape a) c in omega arith
    ]

-- the ancestors of a cell are cells, each once
pub ancestors_below : (shape : Shape) → IsShape shape → (cell : ℕ) → All (λ x. x < length shape.parents) (ancestors shape cell)
unfolding ancestors
ancestors_below shape is cell = cells_up-below shape is cell (parent_of shape cell) (length shape.parents) (λ a e. let p = parent_below shape is cell a e in omega arith)

pub ancestors_once : (shape : Shape) → IsShape shape → (cell c : ℕ) → count_by (λ x. eqb x c) (ancestors shape cell) ≤ 1
unfolding ancestors
ancestors_once shape is cell c = cells_up-once shape is cell (parent_of shape cell) c

-- a front of them has each once too
pub raised_once : (shape : Shape) → IsShape shape → (cell c r : ℕ) → count_by (λ x. eqb x c) (take r (ancestors shape cell)) ≤ 1
raised_once shape is cell c r =
    let a = sum_by-take-le (λ x. one_if x c) (ancestors shape cell) r in
    let b = ancestors_once shape is cell c in
    omega arith

-- one that stands at a place is a cell
pub ancestor_is_cell : (shape : Shape) → IsShape shape → (cell k : ℕ) → k < length (ancestors shape cell) → get_or (ancestors shape cell) k 0 < length shape.parents
ancestor_is_cell shape is cell k l = All-get_or (λ x. x < length shape.parents) (ancestors shape cell) k 0 l (ancestors_below shape is cell)
