-- What is scheduled, as plain data: cells in a hierarchy, the leaves below them, and tasks on one cell or two with an order between them.
use Rattle.std.specs.Prelude.{◌≡◌, ℕ, zero, suc, ◌-◌, ◌^◌, ◌<◌, ◌≤◌, ◌⊎◌, ◌==◌, List, [], ◌∷◌, ◌++◌, length, slice_get, Option, Some, None, Contains, sum_by, count_by, unwrap_or}
use Rattle.std.specs.List.{range_with_len}

-- a task: its one cell or two, the tasks that wait for it, and its weight
pub record TaskShape : Type 0 where
  pub first : ℕ
  pub second : Option ℕ
  pub successors : List ℕ
  pub weight : ℕ

-- cells by their parents and their ranges of leaves, the number of leaves, and the tasks
pub record Shape : Type 0 where
  pub parents : List (Option ℕ)
  pub ranges : List (ℕ × ℕ)
  pub leaves : ℕ
  pub tasks : List TaskShape

abbrev pub no_task : TaskShape
no_task = record { first = 0; second = None; successors = []; weight = 0 }

abbrev pub parent_of : Shape → ℕ → Option ℕ
parent_of shape cell = unwrap_or (slice_get shape.parents cell) None

abbrev pub range_of : Shape → ℕ → ℕ × ℕ
range_of shape cell = unwrap_or (slice_get shape.ranges cell) (0, 0)

abbrev pub task_at : Shape → ℕ → TaskShape
task_at shape task = unwrap_or (slice_get shape.tasks task) no_task

-- the cells above: as many as there can be, from this one up
abbrev pub cells_up : Shape → ℕ → Option ℕ → List ℕ
cells_up shape zero up = []
cells_up shape (suc n) None = []
cells_up shape (suc n) (Some a) = a ∷ cells_up shape n (parent_of shape a)

-- the proper ancestors of a cell, its parent first; there are no more than its number, since a parent's number is below its child's
unfoldable pub ancestors : Shape → ℕ → List ℕ
ancestors shape cell = cells_up shape cell (parent_of shape cell)

-- a cell contains itself and each cell of which it is a proper ancestor
abbrev pub CellContains : Shape → ℕ → ℕ → Type 0
CellContains shape outer inner = (outer ≡ inner) ⊎ Contains (ancestors shape inner) outer

-- neither of two cells contains the other
pub record AreApart (shape : Shape) (a b : ℕ) : Type 0 where
  pub not_above : CellContains shape a b → ⊥
  pub not_below : CellContains shape b a → ⊥

-- a leaf is below a cell
pub record IsBelow (shape : Shape) (leaf cell : ℕ) : Type 0 where
  pub from : (range_of shape cell).0 ≤ leaf
  pub to : leaf < (range_of shape cell).1

-- the leaves below a cell, in order, and those that a task touches: below its first cell, then below its second
abbrev pub leaves_below : Shape → ℕ → List ℕ
leaves_below shape cell = range_with_len (range_of shape cell).0 ((range_of shape cell).1 - (range_of shape cell).0)

abbrev pub leaves_of_other : Shape → Option ℕ → List ℕ
leaves_of_other shape None = []
leaves_of_other shape (Some cell) = leaves_below shape cell

unfoldable pub leaves_of : Shape → ℕ → List ℕ
leaves_of shape task = leaves_below shape (task_at shape task).first ++ leaves_of_other shape (task_at shape task).second

abbrev pub Touches : Shape → ℕ → ℕ → Type 0
Touches shape task leaf = Contains (leaves_of shape task) leaf

-- an edge: the second task waits for the first
abbrev pub IsEdge : Shape → ℕ → ℕ → Type 0
IsEdge shape before after = Contains (task_at shape before).successors after

-- through the tasks between them, one edge after the other
abbrev pub IsPath : Shape → ℕ → List ℕ → ℕ → Type 0
IsPath shape before [] after = IsEdge shape before after
IsPath shape before (task ∷ path) after = IsEdge shape before task × IsPath shape task path after

-- a path of one or more edges leads from the one task to the other
abbrev pub Precedes : Shape → ℕ → ℕ → Type 0
Precedes shape before after = (path : List ℕ) × IsPath shape before path after

-- the number of edges into a task
abbrev pub edges_into : Shape → ℕ → ℕ
edges_into shape task = sum_by (λ (t : TaskShape). count_by (λ after. after == task) t.successors) shape.tasks

-- a cell's range of leaves is not empty, and lies in its parent's
pub record IsCellShape (shape : Shape) (cell : ℕ) : Type 0 where
  pub parent : (above : ℕ) → parent_of shape cell ≡ Some above → above < cell
  pub some_leaf : (range_of shape cell).0 < (range_of shape cell).1
  pub leaves : (range_of shape cell).1 ≤ shape.leaves
  pub inside : (above : ℕ) → parent_of shape cell ≡ Some above
      → ((range_of shape above).0 ≤ (range_of shape cell).0) × ((range_of shape cell).1 ≤ (range_of shape above).1)

-- a task's cells are apart, and its successors have greater numbers, each once
pub record IsTaskShape (shape : Shape) (task : ℕ) : Type 0 where
  pub first : (task_at shape task).first < length shape.parents
  pub second : (cell : ℕ) → (task_at shape task).second ≡ Some cell → (cell < length shape.parents) × AreApart shape (task_at shape task).first cell
  pub later : (after : ℕ) → IsEdge shape task after → (task < after) × (after < length shape.tasks)
  pub once : (after : ℕ) → count_by (λ s. s == after) (task_at shape task).successors ≤ 1

-- two cells that are apart have no leaf in common
abbrev pub HaveOwnLeaves : Shape → Type 0
HaveOwnLeaves shape =
    (a b leaf : ℕ) → a < length shape.parents → b < length shape.parents → AreApart shape a b → IsBelow shape leaf a → IsBelow shape leaf b → ⊥

-- the laws of what is scheduled
pub record IsShape (shape : Shape) : Type 0 where
  pub one_range_each : length shape.ranges ≡ length shape.parents
  pub few_cells : length shape.parents < 2 ^ 32
  pub few_leaves : shape.leaves < 2 ^ 32
  pub few_tasks : length shape.tasks < 2 ^ 32
  pub cells : (cell : ℕ) → cell < length shape.parents → IsCellShape shape cell
  pub own_leaves : HaveOwnLeaves shape
  pub tasks : (task : ℕ) → task < length shape.tasks → IsTaskShape shape task
