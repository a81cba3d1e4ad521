-- What is known of a graph's edges and tasks from the lists that they are built of.
use Rattle.std.proofs.Common.{◌≡◌, ℕ, ◌<◌, ◌^◌, Bool, List, length, map, sym, ap, ◌∙◌, subst, arith}
use Rattle.std.proofs.lemmas.List.{length-map}
use Rattle.cell_tree.specs.declared.tree.Span.{Span}
use Rattle.cell_tree.specs.Laws.{CanBeMade}
use Rattle.cell_tree.specs.Tree.{Made}
use Rattle.task_weight.specs.Edges.{AreForward, AreRising}
use Rattle.task_graph.specs.declared.task.Task.{Task}
use Rattle.task_graph.specs.Graph.{edges_between}
use Rattle.task_graph.specs.inner.Parts.{AreEdgeLists}
use Rattle.task_graph.specs.Tasks.{cost_of, tasks_of}
use Rattle.task_graph.proofs.EdgeLists.{edges_from_lists}
use Rattle.task_graph.proofs.Forward.{forward, length-edges_between, rising_edges}
use Rattle.task_graph.proofs.LeafTasks.{drifting_few, due_few}
use Rattle.task_graph.proofs.Segments.{length_of_tasks}

-- each task has a cost
pub one_cost_each : (made : Made) {all tasks : List Task} {costs : List ℕ} → tasks ≡ all → costs ≡ map (cost_of made) tasks → length costs ≡ length all
one_cost_each made {tasks = tasks} tasks_are costs_are = ap length costs_are ∙ length-map tasks (cost_of made) ∙ ap length tasks_are

-- there are fewer tasks than 2^32
pub tasks_few : (made : Made) (spans : List Span) (due : List Bool) (drift : Bool) → CanBeMade made → length spans < 2 ^ 30 → length (tasks_of made spans due drift) < 2 ^ 32
tasks_few made spans due drift can few = omega (arith, length_of_tasks made spans due drift, drifting_few made can spans drift, due_few made can due)

module _ {made : Made} {spans : List Span} {due : List Bool} {drift : Bool} {edges : List (List ℕ)} (are : AreEdgeLists made spans due drift edges) where
  -- the edges are those between the tasks
  pub between : edges ≡ edges_between made (tasks_of made spans due drift)
  between = edges_from_lists made spans due drift edges are

  -- each task has its list
  pub one_list_each : length edges ≡ length (tasks_of made spans due drift)
  one_list_each = ap length between ∙ length-edges_between made (tasks_of made spans due drift)

  -- they go to greater numbers, and those from one task rise
  pub edges_forward : AreForward edges
  edges_forward = subst AreForward (sym between) (forward made spans due drift)

  pub edges_rise : AreRising edges
  edges_rise = subst AreRising (sym between) (rising_edges made (tasks_of made spans due drift))
