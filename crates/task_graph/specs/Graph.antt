-- The graph: the tasks, which of them wait for which, what they cost and how urgent they are.
use Rattle.std.specs.Prelude.{◌≡◌, ℕ, ◌<◌, ◌≤◌, ◌&&◌, ◌==◌, ◌↔◌, ◌⊎◌, true, Bool, List, Contains, map, filter, length, slice_index_or, sum_by, count_by, Option, Some, None}
use Rattle.std.specs.List.{list_any, range_with_len}
use Rattle.sph_num.specs.declared.kind.Kind.TheVariants.{Drift}
use Rattle.sph_num.specs.Kinds.{waits_for}
use Rattle.cell_tree.specs.declared.tree.Span.{Span}
use Rattle.cell_tree.specs.Tree.{Made, AreLeavesBelow}
use Rattle.cell_tree.specs.Spans.{leaf_cells}
use Rattle.task_weight.specs.Paths.{after_of, weights_of}
use Rattle.task_graph.specs.declared.task.Task.{Task}
use Rattle.task_graph.specs.Tasks.{cell_task, cost_of, tasks_of, touches}

-- the task of this number
abbrev pub task_at : List Task → ℕ → Task
task_at tasks task = slice_index_or tasks task (cell_task Drift 0)

-- an edge: the one task waits for the other where its kind does and they touch a leaf in common
abbrev pub is_edge : Made → Task → Task → Bool
is_edge made before after =
    waits_for after.kind before.kind && list_any (λ leaf. touches made before leaf && touches made after leaf) (leaf_cells made)

-- the leaf of this number is below the cell: the number is in the cell's range of leaves
pub record IsLeafBelow (made : Made) (leaf cell : ℕ) : Type 0 where
  pub from : ℕ
  pub to : ℕ
  pub are : AreLeavesBelow made cell from to
  pub low : from ≤ leaf
  pub high : leaf < to

abbrev pub IsLeafBelowSome : Made → ℕ → Option ℕ → Type 0
IsLeafBelowSome made leaf None = ⊥
IsLeafBelowSome made leaf (Some cell) = IsLeafBelow made leaf cell

-- a task touches the leaf of this number, and two tasks touch one leaf
abbrev pub TouchesLeaf : Made → Task → ℕ → Type 0
TouchesLeaf made task leaf = IsLeafBelow made leaf task.first ⊎ IsLeafBelowSome made leaf task.second

abbrev pub ShareLeaf : Made → Task → Task → Type 0
ShareLeaf made before after = (leaf : ℕ) × TouchesLeaf made before leaf × TouchesLeaf made after leaf

-- one task waits for another just where its kind waits for the other's and both touch one leaf
abbrev pub WaitAtLeaves : Made → List Task → List (List ℕ) → Type 0
WaitAtLeaves made tasks successors =
    (before after : ℕ) → before < length tasks → after < length tasks
    → Contains (after_of successors before) after
    ↔ ((waits_for (task_at tasks after).kind (task_at tasks before).kind ≡ true) × ShareLeaf made (task_at tasks before) (task_at tasks after))

-- the numbers of the tasks that wait for a task, rising
abbrev pub successors_of : Made → List Task → ℕ → List ℕ
successors_of made tasks task = filter (λ after. is_edge made (task_at tasks task) (task_at tasks after)) (range_with_len 0 (length tasks))

-- the number of edges into a task
abbrev pub edges_into : List (List ℕ) → ℕ → ℕ
edges_into successors task = sum_by (count_by (λ after. after == task)) successors

-- a graph as lists, with one element for each task
pub record Plan : Type 0 where
  pub tasks : List Task
  pub successors : List (List ℕ)
  pub waits : List ℕ
  pub costs : List ℕ
  pub weights : List ℕ

-- every graph has one of each for each task
pub record IsPlan (plan : Plan) : Type 0 where
  pub one_list_each : length plan.successors ≡ length plan.tasks
  pub one_wait_each : length plan.waits ≡ length plan.tasks
  pub one_cost_each : length plan.costs ≡ length plan.tasks
  pub one_weight_each : length plan.weights ≡ length plan.tasks

-- for each task the numbers of those that wait for it
abbrev pub edges_between : Made → List Task → List (List ℕ)
edges_between made tasks = map (successors_of made tasks) (range_with_len 0 (length tasks))

-- the graph of some tasks
abbrev pub plan_of : Made → List Task → Plan
plan_of made tasks =
    let successors = edges_between made tasks in
    let costs = map (cost_of made) tasks in
    record {
      tasks = tasks;
      successors = successors;
      waits = map (edges_into successors) (range_with_len 0 (length tasks));
      costs = costs;
      weights = weights_of costs successors;
    }

-- the graph of some spans of a tree whose points are due where their flag is set, with drift or without
abbrev pub graph_of : Made → List Span → List Bool → Bool → Plan
graph_of made spans due drift = plan_of made (tasks_of made spans due drift)
