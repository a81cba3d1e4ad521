-- The leaves of a task's cells, as ranges that are apart.
use Rattle.std.proofs.Common.{◌≡◌, ℕ, ◌-◌, ◌<◌, ◌≤◌, ◌⊎◌, length, Contains, Option, Some, None, sym, ap, inl, inr, ◌∙◌, subst, arith}
use Rattle.std.specs.List.{range_with_len}
use Rattle.std.proofs.lemmas.Bool.{cases_lt}
use Rattle.lists.proofs.Elements.{Contains-append}
use Rattle.qs_core.specs.Shape.{Shape, IsShape, Touches, leaves_of, leaves_of_other, range_of, task_at}
use Rattle.qs_core.specs.Blocks.{first_leaves, second_leaves}
use Rattle.qs_core.proofs.Below.{in_range}
use Rattle.qs_core.specs.Ranges.{AreLeafRanges}

-- two ranges with no number in common
apart_ranges : (from to from' to' : ℕ) → from < to → from' < to' → ((leaf : ℕ) → from ≤ leaf → leaf < to → from' ≤ leaf → leaf < to' → ⊥) → (to ≤ from') ⊎ (to' ≤ from)
apart_ranges from to from' to' some some' none =
    elim (cases_lt from' to) [
      | inr h ↦ inl h
      | inl h ↦ elim (cases_lt from to') [
        | inr m ↦ inr m
        | inl m ↦ elim (cases_lt from from') [ inl b ↦ absurd (none from' (omega arith) h (omega arith) some') | inr b ↦ absurd (none from (omega arith) some b m) ]
      ]
    ]

-- the cells of a task
second_of : (shape : Shape) (task : ℕ) (cells : ℕ × Option ℕ) (second : Option ℕ) → cells ≡ ((task_at shape task).first, (task_at shape task).second) → cells.1 ≡ second → (task_at shape task).second ≡ second
second_of shape task cells second is s = sym (ap (λ (p : ℕ × Option ℕ). p.1) is) ∙ s

pub is_cell : (shape : Shape) (task cell : ℕ) (cells : ℕ × Option ℕ) → IsShape shape → task < length shape.tasks → cells ≡ ((task_at shape task).first, (task_at shape task).second) → cells.1 ≡ Some cell
    → cell < length shape.parents
is_cell shape task cell cells laws l is s = ((laws.tasks task l).second cell (second_of shape task cells (Some cell) is s)).0

module _ (shape : Shape) (task : ℕ) (cells : ℕ × Option ℕ) (from to : ℕ) (laws : IsShape shape) (within : task < length shape.tasks) (are : cells ≡ ((task_at shape task).first, (task_at shape task).second))
    (range : (from, to) ≡ range_of shape cells.0) where
  own : (from, to) ≡ range_of shape (task_at shape task).first
  own = range ∙ ap (λ (p : ℕ × Option ℕ). range_of shape p.0) are

  -- the leaves of its two cells
  pub ranges_of_two : (cell from' to' : ℕ) → cells.1 ≡ Some cell → (from', to') ≡ range_of shape cell → AreLeafRanges shape task from to from' to'
  ranges_of_two cell from' to' some_cell range' =
      let here = laws.tasks task within in
      let s = second_of shape task cells (Some cell) are some_cell in
      let other = here.second cell s in
      let is = laws.cells (task_at shape task).first here.first in
      let is' = laws.cells cell other.0 in
      let starts : from ≡ (range_of shape (task_at shape task).first).0 = ap (λ (p : ℕ × ℕ). p.0) own in
      let ends : to ≡ (range_of shape (task_at shape task).first).1 = ap (λ (p : ℕ × ℕ). p.1) own in
      let starts' : from' ≡ (range_of shape cell).0 = ap (λ (p : ℕ × ℕ). p.0) range' in
      let ends' : to' ≡ (range_of shape cell).1 = ap (λ (p : ℕ × ℕ). p.1) range' in
      let some = is.some_leaf in
      let most = is.leaves in
      let some' = is'.some_leaf in
      let most' = is'.leaves in record {
        some = omega arith;
        rises' = omega arith;
        within = omega arith;
        within' = omega arith;
        apart = apart_ranges from to from' to' (omega arith) (omega arith)
            (λ leaf a b a' b'. laws.own_leaves (task_at shape task).first cell leaf here.first other.0 other.1 (record { from = omega arith; to = omega arith }) (record { from = omega arith; to = omega arith }));
        leaves = ap (λ (p : ℕ × ℕ). range_with_len p.0 (p.1 - p.0)) (sym own);
        leaves' = ap (leaves_of_other shape) s ∙ ap (λ (p : ℕ × ℕ). range_with_len p.0 (p.1 - p.0)) (sym range');
      }

  -- of its one cell
  pub ranges_of_one : cells.1 ≡ None → AreLeafRanges shape task from to to to
  ranges_of_one none =
      let here = laws.tasks task within in
      let is = laws.cells (task_at shape task).first here.first in
      let starts : from ≡ (range_of shape (task_at shape task).first).0 = ap (λ (p : ℕ × ℕ). p.0) own in
      let ends : to ≡ (range_of shape (task_at shape task).first).1 = ap (λ (p : ℕ × ℕ). p.1) own in
      let some = is.some_leaf in
      let most = is.leaves in
      let nothing : to - to ≡ 0 = omega arith in record {
        some = omega arith;
        rises' = omega arith;
        within = omega arith;
        within' = omega arith;
        apart = inl (omega arith);
        leaves = ap (λ (p : ℕ × ℕ). range_with_len p.0 (p.1 - p.0)) (sym own);
        leaves' = ap (leaves_of_other shape) (second_of shape task cells None are none) ∙ sym (ap (range_with_len to) nothing);
      }

-- no leaf is in both ranges, and a task touches those of either
module _ (shape : Shape) (task from to from' to' : ℕ) (are : AreLeafRanges shape task from to from' to') where
  pub in_one : (leaf : ℕ) → from ≤ leaf → leaf < to → from' ≤ leaf → leaf < to' → ⊥
  in_one leaf l m l' m' = elim are.apart [ inl h ↦ omega arith | inr h ↦ omega arith ]

  pub touches_first : (leaf : ℕ) → from ≤ leaf → leaf < to → Touches shape task leaf
  unfolding leaves_of
  touches_first leaf l m = (Contains-append (first_leaves shape task) (second_leaves shape task) leaf).1 (inl (subst (λ xs. Contains xs leaf) (sym are.leaves) ((in_range from to leaf).1 (l, m))))

  pub touches_second : (leaf : ℕ) → from' ≤ leaf → leaf < to' → Touches shape task leaf
  unfolding leaves_of
  touches_second leaf l m = (Contains-append (first_leaves shape task) (second_leaves shape task) leaf).1 (inr (subst (λ xs. Contains xs leaf) (sym are.leaves') ((in_range from' to' leaf).1 (l, m))))
