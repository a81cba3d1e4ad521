-- The tasks that a worker has ready.
use Rattle.std.specs.Prelude.{◌≡◌, ◌==◌, ℕ, ◌<◌, ◌≤◌, ◌⊎◌, List, All, length, count_by}
use Rattle.qs_core.specs.declared.event.Note.{Note}
use Rattle.qs_core.specs.Shape.{Shape, edges_into}
use Rattle.qs_table.specs.Notes.{frees_task}

-- the task is one of the work's, and no edge goes into it
pub record IsFirstTask (shape : Shape) (task : ℕ) : Type 0 where
  pub is_task : task < length shape.tasks
  pub no_edge : edges_into shape task ≡ 0

-- the task waits for no other: no edge goes into it, or one of these notes is of the release that took it to 0
abbrev pub WaitsForNone : Shape → List Note → ℕ → Type 0
WaitsForNone shape notes task = (edges_into shape task ≡ 0) ⊎ (0 < count_by (frees_task task) notes)

-- the tasks of the list are of the work, differ from each other, and wait for no other
pub record IsReadyList (shape : Shape) (notes : List Note) (ready : List ℕ) : Type 0 where
  pub are_tasks : All (λ (task : ℕ). task < length shape.tasks) ready
  pub differ : (task : ℕ) → count_by (λ t. t == task) ready ≤ 1
  pub free : All (WaitsForNone shape notes) ready
