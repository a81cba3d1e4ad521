-- Edges between tasks: for each task those that wait for it.
use Rattle.std.specs.Prelude.{◌≡◌, ℕ, ◌+◌, ◌-◌, ◌<◌, ◌≤◌, ◌^◌, List, map, length, slice_index, Contains}
use Rattle.std.specs.List.{range_with_len, slice_range}
use Rattle.std.specs.List.Sorted.{IsStrictlyIncreasing}
use Rattle.task_weight.specs.Paths.{after_of}

-- the ends of a task stand from its start to the next one's
abbrev pub ends_of : List ℕ → List ℕ → ℕ → List ℕ
ends_of starts ends task = slice_range ends (slice_index starts task) (slice_index starts (task + 1))

-- the ends of each task
abbrev pub edges_of : List ℕ → List ℕ → List (List ℕ)
edges_of starts ends = map (ends_of starts ends) (range_with_len 0 (length starts - 1))

-- one start more than there are tasks: they begin with 0, never fall, and end with the number of ends
pub record AreStarts (starts ends : List ℕ) : Type 0 where
  pub some : 1 ≤ length starts
  pub few : length starts ≤ 2 ^ 32
  pub first : slice_index starts 0 ≡ 0
  pub rising : (task : ℕ) → task + 1 < length starts → slice_index starts task ≤ slice_index starts (task + 1)
  pub last : slice_index starts (length starts - 1) ≡ length ends

-- each edge goes to a greater number, below the count of tasks
abbrev pub AreForward : List (List ℕ) → Type 0
AreForward edges = (task after : ℕ) → task < length edges → Contains (after_of edges task) after → (task < after) × (after < length edges)

-- the tasks that wait for one stand in rising order, each once
abbrev pub AreRising : List (List ℕ) → Type 0
AreRising edges = (task : ℕ) → task < length edges → IsStrictlyIncreasing (after_of edges task)
