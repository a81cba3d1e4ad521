-- What the lists of a stage tell of the cells of a tree.
use Rattle.std.specs.Prelude.{◌≡◌, ℕ, ◌<◌, ⊤, List, length, get_or, Option, Some, None}
use Rattle.cell_tree.specs.Tree.{Made, cells_of}
use Rattle.task_graph.specs.declared.task.Task.{Task}
use Rattle.sph_step.specs.Made.{IsParentOf, IsRangeOf}

-- one for each number below the count, of which the fact of that number holds
pub record AreFilled {X : Type 0} (fact : ℕ → X → Type 0) (count : ℕ) (xs : List X) : Type 0 where
  pub one_each : length xs ≡ count
  pub each : (k : ℕ) (d : X) → k < count → fact k (get_or xs k d)

abbrev pub AreParents : Made → List (Option ℕ) → Type 0
AreParents made parents = AreFilled (IsParentOf made) (length (cells_of made)) parents

abbrev pub AreRanges : Made → List (ℕ × ℕ) → Type 0
AreRanges made ranges = AreFilled (IsRangeOf made) (length (cells_of made)) ranges

-- the task's cells are among so many
abbrev pub IsAmongSome : ℕ → Option ℕ → Type 0
IsAmongSome cells None = ⊤
IsAmongSome cells (Some cell) = cell < cells

pub record IsAmong (cells : ℕ) (task : Task) : Type 0 where
  pub first : task.first < cells
  pub second : IsAmongSome cells task.second
