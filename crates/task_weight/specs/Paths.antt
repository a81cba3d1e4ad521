-- Paths through tasks, what they cost, and the weight of a task: the greatest cost of a path that begins with it.
use Rattle.std.specs.Prelude.{◌≡◌, ℕ, zero, suc, ◌+◌, ◌<◌, ◌≤◌, max, List, [], ◌∷◌, fold, map, length, slice_index, slice_index_or, sum_by, Contains, ⊤}
use Rattle.std.specs.List.{range_with_len}

-- the tasks that wait for a task
abbrev pub after_of : List (List ℕ) → ℕ → List ℕ
after_of edges task = slice_index_or edges task []

-- each next task of the path waits for the one before it
abbrev pub IsPathFrom : List (List ℕ) → ℕ → List ℕ → Type 0
IsPathFrom edges task [] = ⊤
IsPathFrom edges task (next ∷ path) = Contains (after_of edges task) next × IsPathFrom edges next path

-- the cost of a path: that of its first task and of those behind it
abbrev pub path_cost : List ℕ → ℕ → List ℕ → ℕ
path_cost costs task path = slice_index costs task + sum_by (slice_index costs) path

-- a path from the task costs this much, and none costs more
pub record IsWeight (costs : List ℕ) (edges : List (List ℕ)) (task weight : ℕ) : Type 0 where
  pub path : List ℕ
  pub is_path : IsPathFrom edges task path
  pub reached : path_cost costs task path ≡ weight
  pub greatest : (other : List ℕ) → IsPathFrom edges task other → path_cost costs task other ≤ weight

pub record AreWeights (costs : List ℕ) (edges : List (List ℕ)) (weights : List ℕ) : Type 0 where
  pub one_each : length weights ≡ length costs
  pub each : (task : ℕ) → task < length costs → IsWeight costs edges task (slice_index weights task)

-- the greatest weight among some tasks: 0 where there is none
abbrev pub greatest_weight : List ℕ → List ℕ → ℕ
greatest_weight weights tasks = fold max 0 (map (slice_index weights) tasks)

-- the weight of a task is its cost and the greatest weight of the tasks that wait for it
abbrev pub FollowSuccessors : List ℕ → List (List ℕ) → List ℕ → Type 0
FollowSuccessors costs edges weights =
    (task : ℕ) → task < length costs → slice_index weights task ≡ slice_index costs task + greatest_weight weights (after_of edges task)

-- the greatest cost of a path of at most so many tasks that begins with a task
unfoldable pub weight_within : List ℕ → List (List ℕ) → ℕ → ℕ → ℕ
weight_within costs edges zero task = 0
weight_within costs edges (suc most) task = slice_index costs task + fold max 0 (map (weight_within costs edges most) (after_of edges task))

-- the weights: no path has more tasks than there are
abbrev pub weights_of : List ℕ → List (List ℕ) → List ℕ
weights_of costs edges = map (weight_within costs edges (length costs)) (range_with_len 0 (length costs))
