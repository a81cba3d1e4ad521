-- The work of the tests meets the laws, with tasks and without.
use Rattle.std.proofs.Common.{◌↔◌, ◌⊎◌, set, ◌≡◌, ℕ, zero, suc, lit<, ◌<◌, ◌≤◌, ◌^◌, Bool, true, false, cond, List, [], ◌∷◌, length, get_or, count_by, eqb, Contains, Some, refl, sym, ◌∙◌, inl, inr, subst, arith}
use Rattle.std.proofs.lemmas.Bool.{cases_eq}
use Rattle.std.proofs.lemmas.Option.{none-some, same_Some}
use Rattle.std.proofs.lemmas.List.Sums.{count_by-le-length, sum_by-cons}
use Rattle.lists.proofs.Counts.{count-zero, one_if-le, one_if-other}
use Rattle.lists.proofs.Elements.{Contains-nil, either, only}
use Rattle.qs_core.specs.Shape.{Shape, AreApart, IsShape, IsCellShape, IsTaskShape, Precedes, Touches, CellContains, HaveOwnLeaves, ancestors, leaves_of, range_of}
use Rattle.qs_core.specs.Blocks.{AreApplied, AreApplicable, IsApplied, IsApplicable, first_leaves, second_leaves}
use Rattle.qs_family.specs.Family.{family, task_0, tasks_where}
use Rattle.qs_core.proofs.Events.{path-up}

-- cell 0 contains every cell, and cell 1 all but cell 0
contains_0 : (has_tasks has_third : Bool) (cell : ℕ) → cell < 4 → CellContains (family has_tasks has_third) 0 cell
unfolding ancestors
contains_0 has_tasks has_third zero l = inl refl
contains_0 has_tasks has_third (suc zero) l = inr (0, (omega arith), refl)
contains_0 has_tasks has_third (suc (suc zero)) l = inr (1, (omega arith), refl)
contains_0 has_tasks has_third (suc (suc (suc zero))) l = inr (1, (omega arith), refl)
contains_0 has_tasks has_third (suc (suc (suc (suc cell)))) l = absurd (omega arith)

contains_1 : (has_tasks has_third : Bool) (cell : ℕ) → suc cell < 4 → CellContains (family has_tasks has_third) 1 (suc cell)
unfolding ancestors
contains_1 has_tasks has_third zero l = inl refl
contains_1 has_tasks has_third (suc zero) l = inr (0, (omega arith), refl)
contains_1 has_tasks has_third (suc (suc zero)) l = inr (0, (omega arith), refl)
contains_1 has_tasks has_third (suc (suc (suc cell))) l = absurd (omega arith)

own_leaves : (has_tasks has_third : Bool) → HaveOwnLeaves (family has_tasks has_third)
own_leaves has_tasks has_third zero b leaf la lb apart below below' = apart.not_above (contains_0 has_tasks has_third b lb)
own_leaves has_tasks has_third (suc a) zero leaf la lb apart below below' = apart.not_below (contains_0 has_tasks has_third (suc a) la)
own_leaves has_tasks has_third (suc zero) (suc b) leaf la lb apart below below' = apart.not_above (contains_1 has_tasks has_third b lb)
own_leaves has_tasks has_third (suc (suc a)) (suc zero) leaf la lb apart below below' = apart.not_below (contains_1 has_tasks has_third (suc a) la)
own_leaves has_tasks has_third (suc (suc zero)) (suc (suc zero)) leaf la lb apart below below' = apart.not_above (inl refl)
own_leaves has_tasks has_third (suc (suc (suc zero))) (suc (suc (suc zero))) leaf la lb apart below below' = apart.not_above (inl refl)
own_leaves has_tasks has_third (suc (suc zero)) (suc (suc (suc zero))) leaf la lb apart below below' = let to = below.to in let from = below'.from in absurd (omega arith)
own_leaves has_tasks has_third (suc (suc (suc zero))) (suc (suc zero)) leaf la lb apart below below' = let from = below.from in let to = below'.to in absurd (omega arith)
own_leaves has_tasks has_third (suc (suc (suc (suc a)))) (suc (suc b)) leaf la lb apart below below' = absurd (omega arith)
own_leaves has_tasks has_third (suc (suc zero)) (suc (suc (suc (suc b)))) leaf la lb apart below below' = absurd (omega arith)
own_leaves has_tasks has_third (suc (suc (suc zero))) (suc (suc (suc (suc b)))) leaf la lb apart below below' = absurd (omega arith)

-- the parent of each cell but the first
below_parent : (cell p above : ℕ) → p < cell → Some p ≡ Some above → above < cell
below_parent cell p above l e = subst (λ x. x < cell) (same_Some p above e) l

cells : (has_tasks has_third : Bool) (cell : ℕ) → cell < 4 → IsCellShape (family has_tasks has_third) cell
cells has_tasks has_third zero l = record { parent = λ above e. absurd (none-some above e); some_leaf = omega arith; leaves = omega arith; inside = λ above e. absurd (none-some above e) }
cells has_tasks has_third (suc zero) l = record {
  parent = λ above e. below_parent 1 0 above (omega arith) e;
  some_leaf = omega arith;
  leaves = omega arith;
  inside = λ above e. subst (λ x. ((range_of (family has_tasks has_third) x).0 ≤ 0) × (2 ≤ (range_of (family has_tasks has_third) x).1)) (same_Some 0 above e) (omega arith, omega arith);
}
cells has_tasks has_third (suc (suc zero)) l = record {
  parent = λ above e. below_parent 2 1 above (omega arith) e;
  some_leaf = omega arith;
  leaves = omega arith;
  inside = λ above e. subst (λ x. ((range_of (family has_tasks has_third) x).0 ≤ 0) × (1 ≤ (range_of (family has_tasks has_third) x).1)) (same_Some 1 above e) (omega arith, omega arith);
}
cells has_tasks has_third (suc (suc (suc zero))) l = record {
  parent = λ above e. below_parent 3 1 above (omega arith) e;
  some_leaf = omega arith;
  leaves = omega arith;
  inside = λ above e. subst (λ x. ((range_of (family has_tasks has_third) x).0 ≤ 1) × (2 ≤ (range_of (family has_tasks has_third) x).1)) (same_Some 1 above e) (omega arith, omega arith);
}
cells has_tasks has_third (suc (suc (suc (suc cell)))) l = absurd (omega arith)

-- the successors of the first two tasks
after_0 : (has_third : Bool) (after : ℕ) → Contains (task_0 has_third).successors after → (0 < after) × (after < length (tasks_where true has_third))
after_0 false after h = subst (λ x. (0 < x) × (x < 2)) (only 1 after h) (omega arith, omega arith)
after_0 true after h = elim (either 1 2 after h) [
  | inl e ↦ subst (λ x. (0 < x) × (x < 3)) e (omega arith, omega arith)
  | inr e ↦ subst (λ x. (0 < x) × (x < 3)) e (omega arith, omega arith)
]

-- two numbers that differ are each once in a list
both_once : (x y z : ℕ) → (x ≡ y → ⊥) → count_by (λ s. eqb s z) (x ∷ y ∷ []) ≤ 1
both_once x y z n =
    let a = sum_by-cons (λ s. cond (eqb s z) 1 0) x (y ∷ []) in
    let b = count_by-le-length (λ s. eqb s z) (y ∷ []) in
    elim (cases_eq x z) [
      | inl e ↦ let none = count-zero (y ∷ []) z (λ c. n (e ∙ sym (only y z c))) in let t = one_if-le x z in omega arith
      | inr m ↦ let t = one_if-other x z m in omega arith
    ]

third_apart : (has_tasks has_third : Bool) → AreApart (family has_tasks has_third) 2 3
unfolding ancestors
third_apart has_tasks has_third = record {
  not_above = λ c. elim c [ inl e ↦ omega arith | inr h ↦ elim (either 1 0 2 h) [ inl e ↦ omega arith | inr e ↦ omega arith ] ];
  not_below = λ c. elim c [ inl e ↦ omega arith | inr h ↦ elim (either 1 0 3 h) [ inl e ↦ omega arith | inr e ↦ omega arith ] ];
}

tasks : (has_tasks has_third : Bool) (task : ℕ) → task < length (tasks_where has_tasks has_third) → IsTaskShape (family has_tasks has_third) task
tasks false has_third task l = absurd (omega arith)
tasks true false zero l = record {
  first = omega arith;
  second = λ cell e. absurd (none-some cell e);
  later = after_0 false;
  once = λ after. count_by-le-length (λ s. eqb s after) (1 ∷ []);
}
tasks true true zero l = record {
  first = omega arith;
  second = λ cell e. absurd (none-some cell e);
  later = after_0 true;
  once = λ after. both_once 1 2 after (λ e. omega arith);
}
tasks true false (suc zero) l = record {
  first = omega arith;
  second = λ cell e. absurd (none-some cell e);
  later = λ after h. absurd (Contains-nil after h);
  once = λ after. omega arith;
}
tasks true true (suc zero) l = record {
  first = omega arith;
  second = λ cell e. absurd (none-some cell e);
  later = λ after h. subst (λ x. (1 < x) × (x < 3)) (only 2 after h) (omega arith, omega arith);
  once = λ after. count_by-le-length (λ s. eqb s after) (2 ∷ []);
}
tasks true true (suc (suc zero)) l = record {
  first = omega arith;
  second = λ cell e. subst (λ x. (x < 4) × AreApart (family true true) 2 x) (same_Some 3 cell e) (omega arith, third_apart true true);
  later = λ after h. absurd (Contains-nil after h);
  once = λ after. omega arith;
}
tasks true false (suc (suc task)) l = absurd (omega arith)
tasks true true (suc (suc (suc task))) l = absurd (omega arith)

few : (has_tasks has_third : Bool) → length (tasks_where has_tasks has_third) < 2 ^ 32
few false has_third = lit< tt
few true false = lit< tt
few true true = lit< tt

pub family_is : (has_tasks has_third : Bool) → IsShape (family has_tasks has_third)
family_is has_tasks has_third = record {
  one_range_each = refl;
  few_cells = lit< tt;
  few_leaves = lit< tt;
  few_tasks = few has_tasks has_third;
  cells = cells has_tasks has_third;
  own_leaves = own_leaves has_tasks has_third;
  tasks = tasks has_tasks has_third;
}

-- each task is on one leaf of each of its cells
pub leaves_of_first : (has_tasks has_third : Bool) (task : ℕ) → task < length (tasks_where has_tasks has_third) → length (first_leaves (family has_tasks has_third) task) ≡ 1
leaves_of_first false has_third task l = absurd (omega arith)
leaves_of_first true false zero l = refl
leaves_of_first true true zero l = refl
leaves_of_first true false (suc zero) l = refl
leaves_of_first true true (suc zero) l = refl
leaves_of_first true true (suc (suc zero)) l = refl
leaves_of_first true false (suc (suc task)) l = absurd (omega arith)
leaves_of_first true true (suc (suc (suc task))) l = absurd (omega arith)

pub leaves_of_second : (has_tasks has_third : Bool) (task : ℕ) → task < length (tasks_where has_tasks has_third) → length (second_leaves (family has_tasks has_third) task) ≤ 1
leaves_of_second false has_third task l = absurd (omega arith)
leaves_of_second true false zero l = omega arith
leaves_of_second true true zero l = omega arith
leaves_of_second true false (suc zero) l = omega arith
leaves_of_second true true (suc zero) l = omega arith
leaves_of_second true true (suc (suc zero)) l = omega arith
leaves_of_second true false (suc (suc task)) l = absurd (omega arith)
leaves_of_second true true (suc (suc (suc task))) l = absurd (omega arith)

module _ {B : Type 0} (shape : Shape) (fits : ℕ → B → Type 0) (done : B → List ℕ) (task : ℕ) (leaves : List ℕ) (f : (leaf : ℕ) (b : B) → fits leaf b) where
  -- a task that marks its one block is added to it
  pub one_added : (before : List B) (d0 new : B) → length leaves ≤ 1 → 0 < length before → length before ≡ length leaves
      → ((other : ℕ) → Contains (done new) other ↔ (Contains (done (get_or before 0 d0)) other ⊎ (other ≡ task))) → AreApplied shape task fits done leaves before (set before 0 new)
  one_added [] d0 new l some e m = absurd (omega arith)
  one_added (b ∷ c ∷ bs) d0 new l some e m = absurd (omega arith)
  one_added (b ∷ []) d0 new l some e m = record { one_each = refl; added = λ k d h. go k d (omega arith) }
    where
      go : (k : ℕ) (d : B) → k < 1 → IsApplied task (fits (get_or leaves k 0) (get_or (new ∷ []) k d)) (done (get_or (b ∷ []) k d)) (done (get_or (new ∷ []) k d))
      go zero d h = record { fitting = f (get_or leaves zero 0) new; tasks = m }
      go (suc k) d h = absurd (omega arith)

  -- one block is ready as it is
  pub one_ready : (leaf : ℕ) (b : B) → (Contains (done b) task → ⊥) → ((earlier : ℕ) → Precedes shape earlier task → Touches shape earlier leaf → Contains (done b) earlier)
      → AreApplicable shape task fits done (leaf ∷ []) (b ∷ [])
  one_ready leaf b n earlier_done = record { one_each = refl; ready = go }
    where
      go : (k : ℕ) (d : B) → k < 1 → IsApplicable shape task (get_or (leaf ∷ []) k 0) (fits (get_or (leaf ∷ []) k 0) (get_or (b ∷ []) k d)) (done (get_or (b ∷ []) k d))
      go zero d h = record { fitting = f leaf b; not_done = n; before = earlier_done }
      go (suc k) d h = absurd (omega arith)

-- the first leaf is ready for the third task where both are done on it, and the second leaf where none is
pub both_before : {B : Type 0} (fits : ℕ → B → Type 0) (done : B → List ℕ) (b : B) → ((leaf : ℕ) (x : B) → fits leaf x) → done b ≡ 0 ∷ 1 ∷ [] → AreApplicable (family true true) 2 fits done (0 ∷ []) (b ∷ [])
both_before fits done b f e =
    one_ready (family true true) fits done 2 (0 ∷ []) f 0 b
    (λ c. elim (either 0 1 2 (subst (λ xs. Contains xs 2) e c)) [ inl h ↦ omega arith | inr h ↦ omega arith ])
    (λ earlier precedes touches. subst (λ xs. Contains xs earlier) (sym e) (is_below earlier (path-up (family true true) earlier precedes.0 2 (family_is true true) precedes.1)))
  where
    is_below : (earlier : ℕ) → earlier < 2 → Contains (0 ∷ 1 ∷ []) earlier
    is_below zero l = (0, omega arith, refl)
    is_below (suc zero) l = (1, omega arith, refl)
    is_below (suc (suc earlier)) l = absurd (omega arith)

untouched : (earlier : ℕ) → earlier < 2 → Touches (family true true) earlier 1 → ⊥
unfolding leaves_of
untouched zero l t = let e = only 0 1 t in omega arith
untouched (suc zero) l t = let e = only 0 1 t in omega arith
untouched (suc (suc earlier)) l t = omega arith

pub none_before : {B : Type 0} (fits : ℕ → B → Type 0) (done : B → List ℕ) (b : B) → ((leaf : ℕ) (x : B) → fits leaf x) → done b ≡ [] → AreApplicable (family true true) 2 fits done (1 ∷ []) (b ∷ [])
none_before fits done b f e =
    one_ready (family true true) fits done 2 (1 ∷ []) f 1 b (λ c. Contains-nil 2 (subst (λ xs. Contains xs 2) e c))
    (λ earlier precedes touches. absurd (untouched earlier (path-up (family true true) earlier precedes.0 2 (family_is true true) precedes.1) touches))
