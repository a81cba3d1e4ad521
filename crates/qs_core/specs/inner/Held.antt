-- What holds of a cell where there is one, and whether a task runs with a leaf left.
use Rattle.std.specs.Prelude.{◌≡◌, ℕ, Contains, Option, Some, None}
use Rattle.qs_core.specs.Shape.{Shape, IsBelow}
use Rattle.qs_core.specs.Core.{Running}

-- there is a cell and the leaf is below it
abbrev pub IsBelowSome : Shape → ℕ → Option ℕ → Type 0
IsBelowSome shape leaf None = ⊥
IsBelowSome shape leaf (Some cell) = IsBelow shape leaf cell

-- the task runs, with the leaf left
abbrev pub RunsOn : Option Running → ℕ → ℕ → Type 0
RunsOn None task leaf = ⊥
RunsOn (Some running) task leaf = (running.task ≡ task) × Contains running.leaves leaf
