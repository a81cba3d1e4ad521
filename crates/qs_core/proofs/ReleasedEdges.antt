-- No edge into a task is left just where each is released.
use Rattle.std.proofs.Common.{◌≡◌, ℕ, ◌<◌, ◌==◌, length, slice_index, count_by, Option, Some, None, refl, ap, ◌∙◌, inl, inr, arith}
use Rattle.std.specs.List.{range_with_len}
use Rattle.std.proofs.lemmas.Bool.{cases_eq, cond-true, cond-false, eq-eqb, ne_eqb}
use Rattle.lists.proofs.Ranges.{below_from_numbers, part-le-range}
use Rattle.lists.proofs.Sums.{sum_by-none}
use Rattle.lists.proofs.Places.{get_from_Contains}
use Rattle.lists.proofs.Counts.{count-pos, count-zero}
use Rattle.qs_core.specs.Shape.{Shape, IsEdge, task_at}
use Rattle.qs_core.specs.Core.{Core, Running, View, claimed_word, task_place}
use Rattle.qs_core.specs.Sound.{edges_from, IsClaimed, IsReleased, IsSound, IsView, left_in, unreleased}
use Rattle.qs_core.specs.Laws.{ReleasedMeansNone}
use Rattle.qs_core.proofs.Views.{part-le-sum_by}

-- from a claimed task there is none, and from another there are all
pub edges_from-claimed : (shape : Shape) (core : Core) (after before : ℕ) → IsClaimed shape core before → edges_from shape core after before ≡ 0
edges_from-claimed shape core after before c = cond-true (slice_index core.words (task_place shape before) == claimed_word) 0 (count_by (λ s. s == after) (task_at shape before).successors) (eq-eqb _ _ c)

pub edges_from-other : (shape : Shape) (core : Core) (after before : ℕ) → (IsClaimed shape core before → ⊥) → edges_from shape core after before ≡ count_by (λ s. s == after) (task_at shape before).successors
edges_from-other shape core after before n = cond-false (slice_index core.words (task_place shape before) == claimed_word) 0 (count_by (λ s. s == after) (task_at shape before).successors) (ne_eqb _ _ n)

-- where no edge is left each is released
pub each_released : (shape : Shape) (core : Core) (after before : ℕ) → unreleased shape core after ≡ 0 → before < length shape.tasks → IsEdge shape before after → IsReleased shape core before after
each_released shape core after before none l edge = record {
  claimed = elim (cases_eq (slice_index core.words (task_place shape before)) claimed_word) [
    | inl c ↦ c
    | inr n ↦
        let part = part-le-range (edges_from shape core after) before (length shape.tasks) l in
        let here = edges_from-other shape core after before n in
        let some = count-pos (task_at shape before).successors after edge in
        absurd (omega arith)
  ];
  none_left = λ seat view running v r c.
      let part = part-le-sum_by (λ (w : View). left_in w.running after) core seat view v in
      let counted : left_in view.running after ≡ count_by (λ s. s == after) running.successors = ap (λ (o : Option Running). left_in o after) r.is in
      let some = count-pos running.successors after c in
      omega arith;
}

module _ (shape : Shape) (core : Core) (after : ℕ) (sound : IsSound shape core)
    (released : (before : ℕ) → before < length shape.tasks → IsEdge shape before after → IsReleased shape core before after) where
  -- no edge from a task that isn't claimed is left
  none_from : (before : ℕ) → before < length shape.tasks → edges_from shape core after before ≡ 0
  none_from before l =
      elim (cases_eq (slice_index core.words (task_place shape before)) claimed_word) [
        | inl c ↦ edges_from-claimed shape core after before c
        | inr n ↦ edges_from-other shape core after before n ∙ count-zero (task_at shape before).successors after (λ edge. n (released before l edge).claimed)
      ]

  -- no view has one left
  none_in : (seat : ℕ) (view : View) → IsView core seat view → (old : Option Running) → view.running ≡ old → left_in old after ≡ 0
  none_in seat view v None e = refl
  none_in seat view v (Some running) e =
      let runs = sound.tasks.runs seat view running v e in
      count-zero running.successors after (λ c.
      (released running.task runs.is_task ((runs.successors after).0 c)).none_left seat view running v (record { is = e; of_task = refl }) c)

  none_unreleased : unreleased shape core after ≡ 0
  none_unreleased =
      let a = sum_by-none (edges_from shape core after) (range_with_len 0 (length shape.tasks)) (λ before h. none_from before (below_from_numbers (length shape.tasks) before h)) in
      let b = sum_by-none (λ (v : View). left_in v.running after) core.views
      (λ v h. let w = get_from_Contains core.views v h in none_in w.0 v (record { is = w.1 }) v.running refl) in
      omega arith

pub released_means_none : ReleasedMeansNone
released_means_none shape core after s sound l = (λ none before b edge. each_released shape core after before none b edge, λ released. none_unreleased shape core after sound released)
