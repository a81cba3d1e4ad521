-- The tasks of a step are five lists one after another: what stands at which number.
use Rattle.std.proofs.Common.{◌≡◌, ℕ, ◌+◌, Bool, List, [], ◌++◌, length, map, slice_get, Some, refl, sym, ap, ◌∙◌, subst, inl, inr, length-append, arith}
use Rattle.std.proofs.lemmas.List.{length-map}
use Rattle.lists.proofs.Places.{slice_get-append_left, slice_get-append_right, slice_get-append_cases, slice_get-map_cases, slice_get-map_at}
use Rattle.sph_num.specs.declared.kind.Kind.{Kind}
use Rattle.sph_num.specs.declared.kind.Kind.TheVariants.{Drift, Density, Ghost, Force, Kick}
use Rattle.cell_tree.specs.declared.tree.Span.{Span}
use Rattle.cell_tree.specs.Tree.{Made}
use Rattle.task_graph.specs.declared.task.Task.{Task}
use Rattle.task_graph.specs.Tasks.{cell_task, span_task, drifting_leaves, due_cells, tasks_of}

-- the number is that of the task of an element, numbered from a first number on
pub record Stands {X : Type 0} (make : X → Task) (xs : List X) (first number : ℕ) (task : Task) : Type 0 where
  pub index : ℕ
  pub element : X
  pub at : number ≡ first + index
  pub found : slice_get xs index ≡ Some element
  pub is : task ≡ make element

pub Stands-from_map : {X : Type 0} (make : X → Task) (xs : List X) (first index number : ℕ) (task : Task) → number ≡ first + index → slice_get (map make xs) index ≡ Some task → Stands make xs first number task
Stands-from_map make xs first index number task e s =
    let w = slice_get-map_cases make xs index task s in
    record { index = index; element = w.0; at = e; found = w.1; is = w.2 }

module _ (drifts : List ℕ) (spans : List Span) (dues : List ℕ) where
  -- the tasks of each kind
  abbrev pub segment : Kind → List Task
  segment Drift = map (cell_task Drift) drifts
  segment Density = map (span_task Density) spans
  segment Ghost = map (cell_task Ghost) dues
  segment Force = map (span_task Force) spans
  segment Kick = map (cell_task Kick) dues

  -- one kind after another
  abbrev pub all_segments : List Task
  all_segments = segment Drift ++ segment Density ++ segment Ghost ++ segment Force ++ segment Kick

  -- the number is that of this task of the kind
  abbrev pub InSegment : Kind → ℕ → Task → Type 0
  InSegment Drift = Stands (cell_task Drift) drifts 0
  InSegment Density = Stands (span_task Density) spans (length drifts)
  InSegment Ghost = Stands (cell_task Ghost) dues (length drifts + length spans)
  InSegment Force = Stands (span_task Force) spans (length drifts + length spans + length dues)
  InSegment Kick = Stands (cell_task Kick) dues (length drifts + length spans + length dues + length spans)

  -- how many tasks there are before each kind and in all
  length_one : length (segment Drift) ≡ length drifts
  length_one = length-map drifts (cell_task Drift)

  length_two : length (segment Drift ++ segment Density) ≡ length drifts + length spans
  length_two = omega (arith, length-append (segment Drift) (segment Density), length_one, length-map spans (span_task Density))

  length_three : length (segment Drift ++ segment Density ++ segment Ghost) ≡ length drifts + length spans + length dues
  length_three = omega (arith, length-append (segment Drift ++ segment Density) (segment Ghost), length_two, length-map dues (cell_task Ghost))

  length_four : length (segment Drift ++ segment Density ++ segment Ghost ++ segment Force) ≡ length drifts + length spans + length dues + length spans
  length_four = omega (arith, length-append (segment Drift ++ segment Density ++ segment Ghost) (segment Force), length_three, length-map spans (span_task Force))

  pub length-all_segments : length all_segments ≡ length drifts + length spans + length dues + length spans + length dues
  length-all_segments =
      omega (arith, length-append (segment Drift ++ segment Density ++ segment Ghost ++ segment Force) (segment Kick), length_four, length-map dues (cell_task Kick))

  in_own : {X : Type 0} (make : X → Task) (xs : List X) (first index number : ℕ) (task : Task) (kind : Kind) → ((x : X) → (make x).kind ≡ kind)
      → ((k : ℕ) (t : Task) → Stands make xs first k t → InSegment kind k t) → number ≡ first + index → slice_get (map make xs) index ≡ Some task → InSegment task.kind number task
  in_own make xs first index number task kind same place e s =
      let w = Stands-from_map make xs first index number task e s in
      subst (λ k. InSegment k number task) (sym (ap (λ t. t.kind) w.is ∙ same w.element)) (place number task w)

  in_one : (number : ℕ) (task : Task) → slice_get (segment Drift) number ≡ Some task → InSegment task.kind number task
  in_one number task s = in_own (cell_task Drift) drifts 0 number number task Drift (λ x. refl) (λ k t w. w) (omega arith) s

  in_two : (number : ℕ) (task : Task) → slice_get (segment Drift ++ segment Density) number ≡ Some task → InSegment task.kind number task
  in_two number task s =
      elim (slice_get-append_cases (segment Drift) (segment Density) number task s) [
        | inl w ↦ in_one number task w
        | inr w ↦ in_own (span_task Density) spans (length drifts) w.0 number task Density (λ x. refl) (λ k t u. u) (omega (arith, w.1, length_one)) w.2
      ]

  in_three : (number : ℕ) (task : Task) → slice_get (segment Drift ++ segment Density ++ segment Ghost) number ≡ Some task → InSegment task.kind number task
  in_three number task s =
      elim (slice_get-append_cases (segment Drift ++ segment Density) (segment Ghost) number task s) [
        | inl w ↦ in_two number task w
        | inr w ↦ in_own (cell_task Ghost) dues (length drifts + length spans) w.0 number task Ghost (λ x. refl) (λ k t u. u) (omega (arith, w.1, length_two)) w.2
      ]

  in_four : (number : ℕ) (task : Task) → slice_get (segment Drift ++ segment Density ++ segment Ghost ++ segment Force) number ≡ Some task → InSegment task.kind number task
  in_four number task s =
      elim (slice_get-append_cases (segment Drift ++ segment Density ++ segment Ghost) (segment Force) number task s) [
        | inl w ↦ in_three number task w
        | inr w ↦
            in_own (span_task Force) spans (length drifts + length spans + length dues) w.0 number task Force (λ x. refl) (λ k t u. u) (omega (arith, w.1, length_three)) w.2
      ]

  -- each task stands among those of its kind
  pub in_segment : (number : ℕ) (task : Task) → slice_get all_segments number ≡ Some task → InSegment task.kind number task
  in_segment number task s =
      elim (slice_get-append_cases (segment Drift ++ segment Density ++ segment Ghost ++ segment Force) (segment Kick) number task s) [
        | inl w ↦ in_four number task w
        | inr w ↦
            in_own (cell_task Kick) dues (length drifts + length spans + length dues + length spans) w.0 number task Kick (λ x. refl) (λ k t u. u) (omega (arith, w.1, length_four)) w.2
      ]

  -- a task of a list stands behind the tasks before the list
  behind : {X : Type 0} (make : X → Task) (xs : List X) (before : List Task) (first number : ℕ) (task : Task) → length before ≡ first → Stands make xs first number task → slice_get (before ++ map make xs) number ≡ Some task
  behind make xs before first number task e w =
      let at : number ≡ length before + w.index = omega (arith, w.at) in
      ap (slice_get (before ++ map make xs)) at ∙ slice_get-append_right before (map make xs) w.index ∙ slice_get-map_at make xs w.index w.element w.found ∙ ap Some (sym w.is)

  -- each task of a kind stands at its number
  pub stands_at : (kind : Kind) (number : ℕ) (task : Task) → InSegment kind number task → slice_get all_segments number ≡ Some task
  stands_at Drift number task w =
      slice_get-append_left _ (segment Kick) number task
      (slice_get-append_left _ (segment Force) number task
      (slice_get-append_left _ (segment Ghost) number task
      (slice_get-append_left _ (segment Density) number task (behind (cell_task Drift) drifts [] 0 number task refl w))))
  stands_at Density number task w =
      slice_get-append_left _ (segment Kick) number task
      (slice_get-append_left _ (segment Force) number task
      (slice_get-append_left _ (segment Ghost) number task
      (behind (span_task Density) spans (segment Drift) (length drifts) number task length_one w)))
  stands_at Ghost number task w =
      slice_get-append_left _ (segment Kick) number task
      (slice_get-append_left _ (segment Force) number task
      (behind (cell_task Ghost) dues (segment Drift ++ segment Density) (length drifts + length spans) number task length_two w))
  stands_at Force number task w =
      slice_get-append_left _ (segment Kick) number task
      (behind (span_task Force) spans (segment Drift ++ segment Density ++ segment Ghost) (length drifts + length spans + length dues) number task length_three w)
  stands_at Kick number task w =
      behind (cell_task Kick) dues (segment Drift ++ segment Density ++ segment Ghost ++ segment Force) (length drifts + length spans + length dues + length spans) number task length_four w

-- how many tasks a step has
pub length_of_tasks : (made : Made) (spans : List Span) (due : List Bool) (drift : Bool)
    → length (tasks_of made spans due drift) ≡ length (drifting_leaves made spans drift) + length spans + length (due_cells made due) + length spans + length (due_cells made due)
length_of_tasks made spans due drift = length-all_segments (drifting_leaves made spans drift) spans (due_cells made due)
