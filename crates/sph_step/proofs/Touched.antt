-- Which leaves a task of a stage touches: as the work tells it, and as the scene does.
use Rattle.std.proofs.Common.{◌≡◌, ℕ, ◌<◌, true, List, length, map, sym, ap, ◌∙◌, inl, inr, arith}
use Rattle.std.specs.Prelude.{Option, Some, None, option_map, slice_index_or, unwrap_or}
use Rattle.std.specs.List.{range_with_len}
use Rattle.std.proofs.lemmas.Bool.{or_cases, or_left, or_right, false≢true}
use Rattle.std.proofs.lemmas.List.{get_or-map}
use Rattle.std.proofs.lemmas.List.FromFn.{length-map-range_with_len, length-range_with_len}
use Rattle.std.proofs.lemmas.Option.{slice_get-get_or}
use Rattle.lists.proofs.Places.{slice_get-map_at}
use Rattle.lists.proofs.Ranges.{number_at}
use Rattle.sph_num.specs.declared.kind.Kind.TheVariants.{Drift}
use Rattle.cell_block.specs.declared.scene.TaskLine.{TaskLine}
use Rattle.cell_block.specs.Scene.{is_in, is_in_second, line_at, touches}
use Rattle.cell_block.proofs.LeafMembers.{in_range, within_range}
use Rattle.qs_core.specs.Shape.{IsBelow, Shape, TaskShape, Touches, no_task, range_of, task_at as shape_task_at}
use Rattle.qs_core.specs.inner.Held.{IsBelowSome}
use Rattle.qs_core.proofs.Below.{touches_by_cells}
use Rattle.task_graph.specs.Graph.{task_at}
use Rattle.task_graph.specs.Tasks.{cell_task}
use Rattle.sph_step.specs.declared.stage.StagePlan.{StagePlan}
use Rattle.sph_step.specs.Stage.{line_of, shape_of, task_shape}

-- a leaf is in a cell's range just where it is below the cell
module _ (shape : Shape) (leaf : ℕ) where
  below_from_in : (cell : ℕ) → is_in (range_of shape cell) leaf ≡ true → IsBelow shape leaf cell
  below_from_in cell t = let w = within_range (range_of shape cell) leaf t in record { from = w.0; to = w.1 }

  in_from_below : (cell : ℕ) → IsBelow shape leaf cell → is_in (range_of shape cell) leaf ≡ true
  in_from_below cell b = in_range (range_of shape cell) leaf b.from b.to

  below_from_in_second : (cell : Option ℕ) → is_in_second (option_map (range_of shape) cell) leaf ≡ true → IsBelowSome shape leaf cell
  below_from_in_second None t = absurd (false≢true t)
  below_from_in_second (Some cell) t = below_from_in cell t

  in_second_from_below : (cell : Option ℕ) → IsBelowSome shape leaf cell → is_in_second (option_map (range_of shape) cell) leaf ≡ true
  in_second_from_below None b = absurd b
  in_second_from_below (Some cell) b = in_from_below cell b

-- how many tasks the work tells
pub length-shape_tasks : (plan : StagePlan) → length (shape_of plan).tasks ≡ length plan.graph.tasks
length-shape_tasks plan = length-map-range_with_len (task_shape plan.graph) 0 (length plan.graph.tasks)

-- the task of this number, as the work tells it
pub shape_task_is : (plan : StagePlan) (task : ℕ) → task < length plan.graph.tasks → shape_task_at (shape_of plan) task ≡ task_shape plan.graph task
shape_task_is plan task within =
    let count = length plan.graph.tasks in
    let found = slice_get-get_or (range_with_len 0 count) task 0 (omega (arith, length-range_with_len 0 count)) ∙ ap Some (number_at count task 0 within) in
    ap (λ (o : Option TaskShape). unwrap_or o no_task) (slice_get-map_at (task_shape plan.graph) (range_with_len 0 count) task task found)

-- what stands past the last line
abbrev no_line : TaskLine
no_line = record { kind = Drift; first = (0, 0); second = None }

module _ (plan : StagePlan) (lines : plan.scene.tasks ≡ map (line_of plan) plan.graph.tasks) where
  -- the line of this number is the task's
  pub line_is : (task : ℕ) → task < length plan.graph.tasks → line_at plan.scene task ≡ line_of plan (task_at plan.graph.tasks task)
  line_is task within =
      ap (λ (ls : List TaskLine). slice_index_or ls task no_line) lines ∙ get_or-map (line_of plan) plan.graph.tasks task (cell_task Drift 0) no_line within

  -- what the line touches the task touches
  pub Touches-from_line : (task leaf : ℕ) → task < length plan.graph.tasks → touches (line_at plan.scene task) leaf ≡ true → Touches (shape_of plan) task leaf
  Touches-from_line task leaf within t =
      let shape = shape_of plan in
      let at = task_at plan.graph.tasks task in
      let is = sym (shape_task_is plan task within) in
      let on = ap (λ (line : TaskLine). touches line leaf) (sym (line_is task within)) ∙ t in
      (touches_by_cells shape task leaf at.first at.second (ap (λ (s : TaskShape). s.first) is) (ap (λ (s : TaskShape). s.second) is)).1
      (elim (or_cases (is_in (range_of shape at.first) leaf) (is_in_second (option_map (range_of shape) at.second) leaf) on) [
        | inl a ↦ inl (below_from_in shape leaf at.first a)
        | inr b ↦ inr (below_from_in_second shape leaf at.second b)
      ])

  -- and turned
  pub line-from_Touches : (task leaf : ℕ) → task < length plan.graph.tasks → Touches (shape_of plan) task leaf → touches (line_at plan.scene task) leaf ≡ true
  line-from_Touches task leaf within t =
      let shape = shape_of plan in
      let at = task_at plan.graph.tasks task in
      let is = sym (shape_task_is plan task within) in
      let first = is_in (range_of shape at.first) leaf in
      let second = is_in_second (option_map (range_of shape) at.second) leaf in
      ap (λ (line : TaskLine). touches line leaf) (line_is task within)
      ∙ elim ((touches_by_cells shape task leaf at.first at.second (ap (λ (s : TaskShape). s.first) is) (ap (λ (s : TaskShape). s.second) is)).0 t) [
        | inl a ↦ or_left first second (in_from_below shape leaf at.first a)
        | inr b ↦ or_right first second (in_second_from_below shape leaf at.second b)
      ]
