-- The leaves below a cell and those of a task, in order.
use Rattle.std.proofs.Common.{◌≡◌, ℕ, ◌+◌, ◌-◌, ◌<◌, ◌≤◌, ◌⊎◌, ◌↔◌, Bool, true, false, List, [], ◌∷◌, ◌++◌, Contains, Option, Some, None, sym, ap, inl, inr, ◌∙◌, subst, arith}
use Rattle.std.proofs.lemmas.Bool.{false≢true}
use Rattle.std.specs.List.{range_with_len}
use Rattle.lists.proofs.Ranges.{Contains-range, range-within, append-range-push}
use Rattle.lists.proofs.Elements.{Contains-append, Contains-nil}
use Rattle.qs_core.specs.Shape.{Shape, IsBelow, Touches, leaves_below, leaves_of, leaves_of_other, range_of, task_at}
use Rattle.qs_core.specs.inner.Held.{IsBelowSome}

-- a test by two tests, the first of which holds or not
pub or_first : {P Q R : Type 0} {r : Bool} → R ↔ (P ⊎ Q) → r ≡ true → ((r ≡ true) ↔ P) → (r ≡ true) ↔ R
or_first is t p = (λ _. is.1 (inl (p.0 t)), λ _. t)

pub or_second : {P Q R : Type 0} {r s : Bool} → R ↔ (P ⊎ Q) → r ≡ false → ((r ≡ true) ↔ P) → ((s ≡ true) ↔ Q) → (s ≡ true) ↔ R
or_second is f p q = (λ t. is.1 (inr (q.0 t)), λ h. elim (is.0 h) [ inl a ↦ absurd (false≢true (sym f ∙ p.1 a)) | inr b ↦ q.1 b ])

-- the numbers from one on, up to another
pub in_range : (from to x : ℕ) → Contains (range_with_len from (to - from)) x ↔ ((from ≤ x) × (x < to))
in_range from to x = (
  λ c. let w = range-within from (to - from) x c in (omega arith, omega arith),
  λ w. Contains-range from (to - from) x w.0 (omega arith),
)

pub below_is : (shape : Shape) (cell leaf : ℕ) → Contains (leaves_below shape cell) leaf ↔ IsBelow shape leaf cell
below_is shape cell leaf =
    let r = in_range (range_of shape cell).0 (range_of shape cell).1 leaf in
    (λ c. let w = r.0 c in record { from = w.0; to = w.1 }, λ b. r.1 (b.from, b.to))

pub below_other_is : (shape : Shape) (cell : Option ℕ) (leaf : ℕ) → Contains (leaves_of_other shape cell) leaf ↔ IsBelowSome shape leaf cell
below_other_is shape None leaf = (λ c. Contains-nil leaf c, λ b. absurd b)
below_other_is shape (Some cell) leaf = below_is shape cell leaf

-- a task touches the leaves below its cells
pub touches_is : (shape : Shape) (task leaf : ℕ) → Touches shape task leaf ↔ (IsBelow shape leaf (task_at shape task).first ⊎ IsBelowSome shape leaf (task_at shape task).second)
unfolding leaves_of
touches_is shape task leaf =
    let first = leaves_below shape (task_at shape task).first in
    let second = leaves_of_other shape (task_at shape task).second in
    let is = Contains-append first second leaf in (
      λ t. elim (is.0 t) [
        | inl a ↦ inl ((below_is shape (task_at shape task).first leaf).0 a)
        | inr b ↦ inr ((below_other_is shape (task_at shape task).second leaf).0 b)
      ],
      λ s. is.1 (elim s [
        | inl a ↦ inl ((below_is shape (task_at shape task).first leaf).1 a)
        | inr b ↦ inr ((below_other_is shape (task_at shape task).second leaf).1 b)
      ]),
    )

-- a walk that appends the numbers
pub record IsListing (from to at : ℕ) (before items : List ℕ) : Type 0 where
  pub listed : items ≡ before ++ range_with_len from (at - from)
  pub few : at - from ≤ to - from

pub listing_more : (from to at : ℕ) (before items new : List ℕ) → from ≤ at → at < to → new ≡ items ++ at ∷ [] → IsListing from to at before items → IsListing from to (at + 1) before new
listing_more from to at before items new l m e is =
    record { listed = e ∙ ap (λ (xs : List ℕ). xs ++ at ∷ []) is.listed ∙ append-range-push before from at l; few = omega arith }

-- the leaves of a task, by its cells
pub leaves_by_cells : (shape : Shape) (task first : ℕ) (second : Option ℕ) (items : List ℕ) → first ≡ (task_at shape task).first → second ≡ (task_at shape task).second
    → items ≡ ([] ++ leaves_below shape first) ++ leaves_of_other shape second → items ≡ leaves_of shape task
unfolding leaves_of
leaves_by_cells shape task first second items f s e =
    e ∙ ap (λ c. leaves_below shape c ++ leaves_of_other shape second) f ∙ ap (λ o. leaves_below shape (task_at shape task).first ++ leaves_of_other shape o) s

pub touches_by_cells : (shape : Shape) (task leaf first : ℕ) (second : Option ℕ) → first ≡ (task_at shape task).first → second ≡ (task_at shape task).second
    → Touches shape task leaf ↔ (IsBelow shape leaf first ⊎ IsBelowSome shape leaf second)
touches_by_cells shape task leaf first second f s =
    subst (λ c. Touches shape task leaf ↔ (IsBelow shape leaf c ⊎ IsBelowSome shape leaf second)) (sym f)
    (subst (λ o. Touches shape task leaf ↔ (IsBelow shape leaf (task_at shape task).first ⊎ IsBelowSome shape leaf o)) (sym s) (touches_is shape task leaf))
