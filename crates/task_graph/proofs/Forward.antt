-- The edges between tasks: as many lists as tasks, each rising, and each edge goes to a greater number.
use Rattle.std.proofs.Common.{◌≡◌, ℕ, ◌+◌, ◌<◌, Bool, true, List, [], Contains, length, slice_get, Some, sym, ap, ◌∙◌, subst, arith}
use Rattle.std.specs.List.Sorted.{IsStrictlyIncreasing}
use Rattle.std.proofs.lemmas.Bool.{and_parts, false≢true}
use Rattle.std.proofs.lemmas.List.{length-map, get_or-map}
use Rattle.std.proofs.lemmas.List.Kept.{IsStrictlyIncreasing-filter}
use Rattle.std.proofs.lemmas.Option.{slice_get_within, slice_get-get_or}
use Rattle.std.specs.List.{range_with_len}
use Rattle.std.proofs.lemmas.List.FromFn.{length-range_with_len, get_or-range_with_len}
use Rattle.lists.proofs.Rising.{Rises-range, IsStrictlyIncreasing-from_Rises}
use Rattle.lists.proofs.Ranges.{below_from_numbers}
use Rattle.lists.proofs.Elements.{Contains-from_filter, passes_from_filter}
use Rattle.sph_num.specs.declared.kind.Kind.{Kind}
use Rattle.sph_num.specs.declared.kind.Kind.TheVariants.{Drift, Density, Ghost, Force, Kick}
use Rattle.cell_tree.specs.declared.tree.Span.{Span}
use Rattle.cell_tree.specs.Tree.{Made}
use Rattle.task_weight.specs.Edges.{AreForward, AreRising}
use Rattle.task_weight.specs.Paths.{after_of}
use Rattle.task_graph.specs.declared.task.Task.{Task}
use Rattle.task_graph.specs.Graph.{edges_between, is_edge, successors_of, task_at}
use Rattle.sph_num.specs.Kinds.{waits_for}
use Rattle.task_graph.specs.Tasks.{cell_task, drifting_leaves, due_cells, tasks_of}
use Rattle.task_graph.proofs.KindOrder.{none_after_kicks}
use Rattle.task_graph.proofs.Segments.{InSegment, in_segment}
use Rattle.task_graph.proofs.Touching.{share_leaf}

module _ (made : Made) (tasks : List Task) where
  -- one list for each task
  pub length-edges_between : length (edges_between made tasks) ≡ length tasks
  length-edges_between = length-map (range_with_len 0 (length tasks)) (successors_of made tasks) ∙ length-range_with_len 0 (length tasks)

  pub after_of-edges_between : (task : ℕ) → task < length tasks → after_of (edges_between made tasks) task ≡ successors_of made tasks task
  after_of-edges_between task below =
      let at : 0 + task ≡ task = omega arith in
      get_or-map (successors_of made tasks) (range_with_len 0 (length tasks)) task 0 [] (omega (arith, length-range_with_len 0 (length tasks)))
      ∙ ap (successors_of made tasks) (get_or-range_with_len 0 (length tasks) task 0 below ∙ at)

  -- the tasks that wait for a task rise
  pub rising_successors : (task : ℕ) → IsStrictlyIncreasing (successors_of made tasks task)
  rising_successors task =
      IsStrictlyIncreasing-filter (λ after. is_edge made (task_at tasks task) (task_at tasks after)) (range_with_len 0 (length tasks))
      (IsStrictlyIncreasing-from_Rises (range_with_len 0 (length tasks)) (Rises-range 0 (length tasks)))

  pub rising_edges : AreRising (edges_between made tasks)
  rising_edges task below =
      subst IsStrictlyIncreasing (sym (after_of-edges_between task (omega (arith, length-edges_between)))) (rising_successors task)

  -- what stands at a number below the count
  pub task_stands : (task : ℕ) → task < length tasks → slice_get tasks task ≡ Some (task_at tasks task)
  task_stands task below = slice_get-get_or tasks task (cell_task Drift 0) below

  -- a task that waits for another is one of the tasks, by an edge
  pub successor_below : (task after : ℕ) → Contains (successors_of made tasks task) after → after < length tasks
  successor_below task after c =
      below_from_numbers (length tasks) after
      (Contains-from_filter (λ number. is_edge made (task_at tasks task) (task_at tasks number)) (range_with_len 0 (length tasks)) after c)

  pub successor_edge : (task after : ℕ) → Contains (successors_of made tasks task) after → is_edge made (task_at tasks task) (task_at tasks after) ≡ true
  successor_edge task after c = passes_from_filter (λ number. is_edge made (task_at tasks task) (task_at tasks number)) (range_with_len 0 (length tasks)) after c

  pub edge_waits : (before after : Task) → is_edge made before after ≡ true → waits_for after.kind before.kind ≡ true
  edge_waits before after t = (and_parts (waits_for after.kind before.kind) (share_leaf made before after) t).0

module _ (drifts : List ℕ) (spans : List Span) (dues : List ℕ) (number number' : ℕ) (before after : Task) where
  -- the tasks that may wait for a kind stand behind its tasks
  waits_behind : (kind kind' : Kind) → waits_for kind' kind ≡ true → InSegment drifts spans dues kind number before → InSegment drifts spans dues kind' number' after → number < number'
  waits_behind Drift Density t w v = omega (arith, w.at, v.at, slice_get_within drifts w.index w.element w.found)
  waits_behind Density Ghost t w v = omega (arith, w.at, v.at, slice_get_within spans w.index w.element w.found)
  waits_behind Ghost Force t w v = omega (arith, w.at, v.at, slice_get_within dues w.index w.element w.found)
  waits_behind Force Kick t w v = omega (arith, w.at, v.at, slice_get_within spans w.index w.element w.found)
  waits_behind Kick kind' t w v = absurd (none_after_kicks kind' t)
  waits_behind _ _ t w v = absurd (false≢true t)

-- each edge goes to a greater number
pub forward : (made : Made) (spans : List Span) (due : List Bool) (drift : Bool) → AreForward (edges_between made (tasks_of made spans due drift))
forward made spans due drift task after below c =
    let tasks = tasks_of made spans due drift in
    let drifts = drifting_leaves made spans drift in
    let dues = due_cells made due in
    let within : task < length tasks = omega (arith, length-edges_between made tasks) in
    let d : Contains (successors_of made tasks task) after = subst (λ xs. Contains xs after) (after_of-edges_between made tasks task within) c in
    let within' : after < length tasks = successor_below made tasks task after d in
    let waits = edge_waits made tasks (task_at tasks task) (task_at tasks after) (successor_edge made tasks task after d) in (
      waits_behind drifts spans dues task after (task_at tasks task) (task_at tasks after) (task_at tasks task).kind (task_at tasks after).kind waits
          (in_segment drifts spans dues task (task_at tasks task) (task_stands made tasks task within))
          (in_segment drifts spans dues after (task_at tasks after) (task_stands made tasks after within')),
      omega (arith, length-edges_between made tasks),
    )
