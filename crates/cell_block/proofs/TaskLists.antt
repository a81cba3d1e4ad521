-- The tasks are added one by one to the lists of the leaves that they touch.
use Rattle.std.proofs.Common.{◌≡◌, ℕ, ◌+◌, ◌<◌, ◌≤◌, ◌||◌, Bool, true, false, cond, List, [], ◌∷◌, ◌++◌, map, filter, length, get_or, set, replicate, append-nil, inl, inr, refl, ap, sym, ◌∙◌, ◌⊎◌, subst, arith}
use Rattle.std.specs.Prelude.{Some, None}
use Rattle.std.specs.List.{range_with_len}
use Rattle.std.proofs.lemmas.Bool.{both_ways, cases_Bool, cases_eq}
use Rattle.std.proofs.lemmas.Bool.Decides.{nat_tests}
use Rattle.std.proofs.lemmas.List.{get_or_default, get_or-replicate, get_or-set_same, get_or-set_other, length-replicate}
use Rattle.lists.proofs.Ranges.{by_numbers, filter_range_no, filter_range_yes}
use Rattle.cell_block.specs.declared.scene.Scene.{Scene}
use Rattle.cell_block.specs.declared.scene.TaskLine.{TaskLine}
use Rattle.cell_block.specs.Blocks.{tasks_at}
use Rattle.cell_block.specs.Scene.{IsOtherRange, is_in, is_in_second, leaf_numbers, line_at, touches}
use Rattle.cell_block.specs.inner.TaskLists.{AddsTask}

-- no leaf lies in an empty range
outside_empty : (first leaf : ℕ) → is_in (first, first) leaf ≡ false
outside_empty first leaf = grind (arith, nat_tests)

-- the last leaf of a range, and the others
last_in : (first last : ℕ) → first ≤ last → is_in (first, last + 1) last ≡ true
last_in first last low = grind (arith, nat_tests)

not_yet_in : (first last : ℕ) → is_in (first, last) last ≡ false
not_yet_in first last = grind (arith, nat_tests)

others_in : (first last leaf : ℕ) → (leaf ≡ last → ⊥) → is_in (first, last + 1) leaf ≡ is_in (first, last) leaf
others_in first last leaf other = grind (arith, nat_tests)

-- no leaf lies in two ranges that are apart
apart : (a b : ℕ × ℕ) (leaf : ℕ) → (a.1 ≤ b.0) ⊎ (b.1 ≤ a.0) → is_in a leaf ≡ true → is_in b leaf ≡ true → ⊥
apart a b leaf (inl before) in_a in_b = grind (arith, nat_tests)
apart a b leaf (inr behind) in_a in_b = grind (arith, nat_tests)

-- at most one of two additions is one addition
added_once : (list : List ℕ) (task : ℕ) (a b : Bool) → (a ≡ true → b ≡ true → ⊥) → (list ++ cond a (task ∷ []) []) ++ cond b (task ∷ []) [] ≡ list ++ cond (a || b) (task ∷ []) []
added_once list task true true never = absurd (never refl refl)
added_once list task true false never = append-nil (list ++ task ∷ [])
added_once list task false true never = ap (λ ts. ts ++ task ∷ []) (append-nil list)
added_once list task false false never = append-nil (list ++ [])

-- a range leaf by leaf
pub AddsTask-none : (first task : ℕ) (lists : List (List ℕ)) → AddsTask (is_in (first, first)) task lists lists
AddsTask-none first task lists = record {
  each = λ leaf. sym (append-nil (get_or lists leaf [])) ∙ ap (λ b. get_or lists leaf [] ++ cond b (task ∷ []) []) (sym (outside_empty first leaf));
}

pub AddsTask-next : (first last task : ℕ) (lists lists' : List (List ℕ)) (d : List ℕ) → first ≤ last → last < length lists' → AddsTask (is_in (first, last)) task lists lists'
    → AddsTask (is_in (first, last + 1)) task lists (set lists' last (get_or lists' last d ++ task ∷ []))
AddsTask-next first last task lists lists' d low inside adds = record { each = each }
  where
    more : List ℕ
    more = get_or lists' last d ++ task ∷ []

    put : ℕ → Bool → List ℕ
    put leaf b = get_or lists leaf [] ++ cond b (task ∷ []) []

    here : get_or (set lists' last more) last [] ≡ put last (is_in (first, last + 1) last)
    here =
        get_or-set_same lists' last more [] inside
        ∙ ap (λ ts. ts ++ task ∷ []) (get_or_default lists' last d [] inside ∙ adds.each last ∙ ap (put last) (not_yet_in first last) ∙ append-nil (get_or lists last []))
        ∙ ap (put last) (sym (last_in first last low))

    each : (leaf : ℕ) → get_or (set lists' last more) leaf [] ≡ put leaf (is_in (first, last + 1) leaf)
    each leaf =
        elim (cases_eq leaf last) [
          | inl e ↦ subst (λ k. get_or (set lists' last more) k [] ≡ put k (is_in (first, last + 1) k)) (sym e) here
          | inr other ↦ get_or-set_other lists' last leaf more [] other ∙ adds.each leaf ∙ ap (put leaf) (sym (others_in first last leaf other))
        ]

-- a line by its ranges
pub AddsTask-one : (line : TaskLine) (task : ℕ) (lists lists' : List (List ℕ)) → line.second ≡ None → AddsTask (is_in line.first) task lists lists' → AddsTask (touches line) task lists lists'
AddsTask-one line task lists lists' none adds = record {
  each = λ leaf.
      let old = get_or lists leaf [] in
      let a = is_in line.first leaf in
      let b = is_in_second line.second leaf in
      let off : b ≡ false = ap (λ s. is_in_second s leaf) none in
      adds.each leaf
      ∙ sym (append-nil (old ++ cond a (task ∷ []) []))
      ∙ ap (λ c. (old ++ cond a (task ∷ []) []) ++ cond c (task ∷ []) []) (sym off)
      ∙ added_once old task a b (λ s t. both_ways b off t);
}

pub AddsTask-two : (line : TaskLine) (second : ℕ × ℕ) (leaves task : ℕ) (lists lists' lists'' : List (List ℕ)) → IsOtherRange leaves line.first line.second → line.second ≡ Some second
    → AddsTask (is_in line.first) task lists lists' → AddsTask (is_in second) task lists' lists'' → AddsTask (touches line) task lists lists''
AddsTask-two line second leaves task lists lists' lists'' good some adds adds' = record {
  each = λ leaf.
      let old = get_or lists leaf [] in
      let a = is_in line.first leaf in
      let b = is_in_second line.second leaf in
      let same : b ≡ is_in second leaf = ap (λ s. is_in_second s leaf) some in
      let other : IsOtherRange leaves line.first (Some second) = subst (IsOtherRange leaves line.first) some good in
      adds'.each leaf
      ∙ ap (λ list. list ++ cond (is_in second leaf) (task ∷ []) []) (adds.each leaf)
      ∙ ap (λ c. (old ++ cond a (task ∷ []) []) ++ cond c (task ∷ []) []) (sym same)
      ∙ added_once old task a b (λ s t. apart line.first second leaf other.1 s (sym same ∙ t));
}

-- of the tasks below one, those that touch a leaf
abbrev pub tasks_below : Scene → ℕ → ℕ → List ℕ
tasks_below scene count leaf = filter (λ task. touches (line_at scene task) leaf) (range_with_len 0 count)

-- the lists of the tasks below one
pub record AreTasksBelow (scene : Scene) (count : ℕ) (lists : List (List ℕ)) : Type 0 where
  pub one_each : length lists ≡ length scene.leaves
  pub each : (leaf : ℕ) → leaf < length scene.leaves → get_or lists leaf [] ≡ tasks_below scene count leaf

pub AreTasksBelow-none : (scene : Scene) (lists : List (List ℕ)) → lists ≡ replicate (length scene.leaves) [] → AreTasksBelow scene 0 lists
AreTasksBelow-none scene lists are = record {
  one_each = ap length are ∙ length-replicate (length scene.leaves) [];
  each = λ leaf inside. ap (λ ls. get_or ls leaf []) are ∙ get_or-replicate (length scene.leaves) leaf [] [] inside;
}

-- one task more
pub AreTasksBelow-more : (scene : Scene) (task : ℕ) (lists lists' : List (List ℕ)) → AreTasksBelow scene task lists → AddsTask (touches (line_at scene task)) task lists lists' → length lists' ≡ length lists → AreTasksBelow scene (task + 1) lists'
AreTasksBelow-more scene task lists lists' are adds kept = record {
  one_each = kept ∙ are.one_each;
  each = λ leaf inside.
      let p = λ (t : ℕ). touches (line_at scene t) leaf in
      let old = are.each leaf inside in
      adds.each leaf
      ∙ ap (λ list. list ++ cond (p task) (task ∷ []) []) old
      ∙ elim (cases_Bool (p task)) [
        | inl t ↦ ap (λ b. tasks_below scene task leaf ++ cond b (task ∷ []) []) t ∙ sym (filter_range_yes p task t)
        | inr f ↦ ap (λ b. tasks_below scene task leaf ++ cond b (task ∷ []) []) f ∙ append-nil (tasks_below scene task leaf) ∙ sym (filter_range_no p task f)
      ];
}

-- all tasks
pub AreTasksBelow-all : (scene : Scene) (lists : List (List ℕ)) → AreTasksBelow scene (length scene.tasks) lists → lists ≡ map (tasks_at scene) (leaf_numbers scene)
AreTasksBelow-all scene lists are =
    by_numbers (tasks_at scene) [] lists 0 (length scene.leaves) are.one_each (λ leaf inside. are.each leaf inside ∙ ap (tasks_at scene) (omega arith))
