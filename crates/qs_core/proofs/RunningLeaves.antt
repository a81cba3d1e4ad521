-- The leaves that a task touches: each once, and at least one.
use Rattle.std.proofs.Common.{◌≡◌, ℕ, ◌-◌, ◌<◌, ◌≤◌, ◌==◌, [], ◌++◌, length, cond, count_by, Option, Some, None, refl, ap, inl, inr, arith, length-append}
use Rattle.std.proofs.lemmas.Bool.{cases_lt}
use Rattle.std.proofs.lemmas.List.FromFn.{length-range_with_len}
use Rattle.std.proofs.lemmas.List.Sums.{sum_by-append}
use Rattle.lists.proofs.Counts.{Contains-from_count}
use Rattle.lists.proofs.Ranges.{count-range}
use Rattle.qs_core.specs.Shape.{Shape, IsShape, IsBelow, leaves_below, leaves_of, leaves_of_other, range_of, task_at}
use Rattle.qs_core.proofs.Below.{below_is}

-- a leaf that is listed for a cell is below it
below-from : (shape : Shape) (cell leaf : ℕ) → 0 < count_by (λ l. l == leaf) (leaves_below shape cell) → IsBelow shape leaf cell
below-from shape cell leaf some = (below_is shape cell leaf).0 (Contains-from_count _ leaf some)

-- a task touches each leaf once
pub leaves-once : (shape : Shape) (task leaf : ℕ) → IsShape shape → task < length shape.tasks → count_by (λ l. l == leaf) (leaves_of shape task) ≤ 1
unfolding leaves_of
leaves-once shape task leaf s l = go (task_at shape task).second refl
  where
    go : (other : Option ℕ) → (task_at shape task).second ≡ other → count_by (λ l. l == leaf) (leaves_below shape (task_at shape task).first ++ leaves_of_other shape (task_at shape task).second) ≤ 1
    go None e =
        let a = sum_by-append (λ l. cond (l == leaf) 1 0) (leaves_below shape (task_at shape task).first) [] in
        let one = count-range (range_of shape (task_at shape task).first).0 ((range_of shape (task_at shape task).first).1 - (range_of shape (task_at shape task).first).0) leaf in
        rw e (omega arith)
    go (Some cell) e =
        let a = sum_by-append (λ l. cond (l == leaf) 1 0) (leaves_below shape (task_at shape task).first) (leaves_below shape cell) in
        let one = count-range (range_of shape (task_at shape task).first).0 ((range_of shape (task_at shape task).first).1 - (range_of shape (task_at shape task).first).0) leaf in
        let two = count-range (range_of shape cell).0 ((range_of shape cell).1 - (range_of shape cell).0) leaf in
        let t = s.tasks task l in
        let second = t.second cell e in
        rw e (elim (cases_lt 0 (count_by (λ l. l == leaf) (leaves_below shape (task_at shape task).first))) [
          | inl p ↦
              elim (cases_lt 0 (count_by (λ l. l == leaf) (leaves_below shape cell))) [
                | inl q ↦ absurd (s.own_leaves (task_at shape task).first cell leaf t.first second.0 second.1 (below-from shape (task_at shape task).first leaf p) (below-from shape cell leaf q))
                | inr q ↦ omega arith
              ]
          | inr p ↦ omega arith
        ])

-- a task touches a leaf
pub leaves-some : (shape : Shape) (task : ℕ) → IsShape shape → task < length shape.tasks → leaves_of shape task ≡ [] → ⊥
unfolding leaves_of
leaves-some shape task s l e =
    let first = (task_at shape task).first in
    let some = (s.cells first (s.tasks task l).first).some_leaf in
    let a = length-append (leaves_below shape first) (leaves_of_other shape (task_at shape task).second) in
    let b = length-range_with_len (range_of shape first).0 ((range_of shape first).1 - (range_of shape first).0) in
    let z : length (leaves_below shape first ++ leaves_of_other shape (task_at shape task).second) ≡ 0 = ap length e in
    omega arith
