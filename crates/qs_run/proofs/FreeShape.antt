-- The work of the tests whose tasks wait for nothing meets the laws of what is scheduled.
use Rattle.std.proofs.Common.{◌≡◌, ℕ, zero, suc, lit<, ◌<◌, ◌≤◌, [], Contains, Some, refl, sym, ap, ◌∙◌, inl, inr, subst, arith}
use Rattle.std.proofs.lemmas.Option.{none-some, same_Some}
use Rattle.qs_core.specs.Shape.{CellContains, HaveOwnLeaves, IsBelow, IsCellShape, IsShape, IsTaskShape, ancestors, parent_of, range_of}
use Rattle.qs_run.specs.inner.Free.{free_tasks}

-- cell 0 contains every cell
contains_0 : (cell : ℕ) → cell < 4 → CellContains free_tasks 0 cell
unfolding ancestors
contains_0 zero l = inl refl
contains_0 (suc zero) l = inr (0, (omega arith), refl)
contains_0 (suc (suc zero)) l = inr (0, (omega arith), refl)
contains_0 (suc (suc (suc zero))) l = inr (0, (omega arith), refl)
contains_0 (suc (suc (suc (suc cell)))) l = absurd (omega arith)

-- of the cells below it, each has a leaf for itself
own_range : (cell : ℕ) → cell < 3 → range_of free_tasks (suc cell) ≡ (cell, suc cell)
own_range zero l = refl
own_range (suc zero) l = refl
own_range (suc (suc zero)) l = refl
own_range (suc (suc (suc cell))) l = absurd (omega arith)

own_leaf : (leaf cell : ℕ) → cell < 3 → IsBelow free_tasks leaf (suc cell) → leaf ≡ cell
own_leaf leaf cell l below =
    let from : cell ≤ leaf = subst (λ (p : ℕ × ℕ). p.0 ≤ leaf) (own_range cell l) below.from in
    let to : leaf < suc cell = subst (λ (p : ℕ × ℕ). leaf < p.1) (own_range cell l) below.to in
    omega arith

own_leaves : HaveOwnLeaves free_tasks
own_leaves zero b leaf la lb apart below below' = apart.not_above (contains_0 b lb)
own_leaves (suc a) zero leaf la lb apart below below' = apart.not_below (contains_0 (suc a) la)
own_leaves (suc a) (suc b) leaf la lb apart below below' = apart.not_above (inl (ap suc (sym (own_leaf leaf a (omega arith) below) ∙ own_leaf leaf b (omega arith) below')))

below_0 : (cell : ℕ) → cell < 3 → parent_of free_tasks (suc cell) ≡ Some 0
below_0 zero l = refl
below_0 (suc zero) l = refl
below_0 (suc (suc zero)) l = refl
below_0 (suc (suc (suc cell))) l = absurd (omega arith)

cells : (cell : ℕ) → cell < 4 → IsCellShape free_tasks cell
cells zero l = record { parent = λ above e. absurd (none-some above e); some_leaf = omega arith; leaves = omega arith; inside = λ above e. absurd (none-some above e) }
cells (suc cell) l =
    let range = own_range cell (omega arith) in
    let from : (range_of free_tasks (suc cell)).0 ≡ cell = ap (λ (p : ℕ × ℕ). p.0) range in
    let to : (range_of free_tasks (suc cell)).1 ≡ suc cell = ap (λ (p : ℕ × ℕ). p.1) range in
    let up = sym (below_0 cell (omega arith)) in record {
      parent = λ above e. subst (λ x. x < suc cell) (same_Some 0 above (up ∙ e)) (omega arith);
      some_leaf = omega arith;
      leaves = omega arith;
      inside = λ above e. subst (λ x. ((range_of free_tasks x).0 ≤ (range_of free_tasks (suc cell)).0) × ((range_of free_tasks (suc cell)).1 ≤ (range_of free_tasks x).1)) (same_Some 0 above (up ∙ e)) (omega arith, omega arith);
    }

nothing : (x : ℕ) → Contains [] x → ⊥
nothing x c = let l = c.1 in omega arith

tasks : (task : ℕ) → task < 3 → IsTaskShape free_tasks task
tasks zero l = record { first = omega arith; second = λ cell e. absurd (none-some cell e); later = λ after h. absurd (nothing after h); once = λ after. omega arith }
tasks (suc zero) l = record { first = omega arith; second = λ cell e. absurd (none-some cell e); later = λ after h. absurd (nothing after h); once = λ after. omega arith }
tasks (suc (suc zero)) l = record { first = omega arith; second = λ cell e. absurd (none-some cell e); later = λ after h. absurd (nothing after h); once = λ after. omega arith }
tasks (suc (suc (suc task))) l = absurd (omega arith)

pub free_tasks_are : IsShape free_tasks
free_tasks_are = record {
  one_range_each = refl;
  few_cells = lit< tt;
  few_leaves = lit< tt;
  few_tasks = lit< tt;
  cells = cells;
  own_leaves = own_leaves;
  tasks = tasks;
}
