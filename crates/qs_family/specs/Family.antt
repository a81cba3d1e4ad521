-- A small work: four cells with two leaves, with no tasks, with two on cell 2, or with a third on cells 2 and 3 that waits for both.
use Rattle.std.specs.Prelude.{ℕ, Bool, true, false, List, [], ◌∷◌, ◌++◌, Some, None}
use Rattle.qs_core.specs.Shape.{Shape, TaskShape}

-- the task, where it is set
abbrev pub where_set : Bool → ℕ → List ℕ
where_set false task = []
where_set true task = task ∷ []

abbrev pub task_0 : Bool → TaskShape
task_0 has_third = record { first = 2; second = None; successors = 1 ∷ where_set has_third 2; weight = 2 }

abbrev pub task_1 : Bool → TaskShape
task_1 has_third = record { first = 2; second = None; successors = where_set has_third 2; weight = 1 }

abbrev pub task_2 : TaskShape
task_2 = record { first = 2; second = Some 3; successors = []; weight = 0 }

abbrev pub tasks_where : Bool → Bool → List TaskShape
tasks_where false has_third = []
tasks_where true false = task_0 false ∷ task_1 false ∷ []
tasks_where true true = task_0 true ∷ task_1 true ∷ task_2 ∷ []

abbrev pub family : Bool → Bool → Shape
family has_tasks has_third = record {
  parents = None ∷ Some 0 ∷ Some 1 ∷ Some 1 ∷ [];
  ranges = (0, 2) ∷ (0, 2) ∷ (0, 1) ∷ (1, 2) ∷ [];
  leaves = 2;
  tasks = tasks_where has_tasks has_third;
}

-- the tasks that three marks say are done
abbrev pub done_by : Bool → Bool → Bool → List ℕ
done_by zeroth first second = where_set zeroth 0 ++ where_set first 1 ++ where_set second 2
