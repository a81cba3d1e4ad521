-- What every state of the machine keeps, and that no two seats own cells of which one contains the other.
use Rattle.std.specs.Prelude.{◌≡◌, ◌≢◌, ℕ, suc, ◌+◌, ◌*◌, ◌<◌, ◌≤◌, ◌==◌, true, false, List, [], length, take, slice_get, slice_index, sum_by, count_by, Contains, Option, Some, None, if◌then◌else◌}
use Rattle.std.specs.List.{range_with_len}
use Rattle.qs_core.specs.Shape.{Shape, IsEdge, Touches, CellContains, ancestors, task_at}
use Rattle.qs_core.specs.Core.{Chain, Core, IsComplete, Running, View, cell_place, claimed_word, leaf_place, task_place, word_count}
use Rattle.qs_core.specs.Steps.{OwnsAbove, OwnsJust, ancestor_at}

-- how often a cell is locked, and raised, over all chains of all views
abbrev pub locks_of : ℕ → List View → ℕ
locks_of cell views = sum_by (λ (v : View). count_by (λ (c : Chain). c.cell == cell) v.chains) views

abbrev pub raises_of : Shape → ℕ → List View → ℕ
raises_of shape cell views =
    sum_by (λ (v : View). sum_by (λ (c : Chain). count_by (λ a. a == cell) (take c.raises (ancestors shape c.cell))) v.chains) views

-- the raise of a chain at an index is marked: it is the last one, found its ancestor locked, and isn't being given back
pub record IsMarked (chain : Chain) (k : ℕ) : Type 0 where
  pub last : suc k ≡ chain.raises
  pub stopped : chain.stopped ≡ true
  pub kept : chain.giving ≡ false

-- how many views have a leaf out
abbrev pub outs_of : ℕ → List View → ℕ
outs_of leaf views = sum_by (λ (v : View). count_by (λ l. l == leaf) v.out) views

-- the task runs in the view
pub record Runs (view : View) (task : ℕ) (running : Running) : Type 0 where
  pub is : view.running ≡ Some running
  pub of_task : running.task ≡ task

-- a seat and its view
pub record IsView (core : Core) (seat : ℕ) (view : View) : Type 0 where
  pub is : slice_get core.views seat ≡ Some view

-- the task is claimed
abbrev pub IsClaimed : Shape → Core → ℕ → Type 0
IsClaimed shape core task = slice_index core.words (task_place shape task) ≡ claimed_word

-- an edge is released: its first task is claimed, and no view runs that task with this successor left
pub record IsReleased (shape : Shape) (core : Core) (before after : ℕ) : Type 0 where
  pub claimed : IsClaimed shape core before
  pub none_left : (seat : ℕ) (view : View) (running : Running) → IsView core seat view → Runs view before running → Contains running.successors after → ⊥

-- a task is done on a leaf: it touches the leaf, is claimed, and no view runs it with that leaf left
pub record IsDone (shape : Shape) (core : Core) (task leaf : ℕ) : Type 0 where
  pub touches : Touches shape task leaf
  pub claimed : IsClaimed shape core task
  pub none_left : (seat : ℕ) (view : View) (running : Running) → IsView core seat view → Runs view task running → Contains running.leaves leaf → ⊥

-- how many edges into a task are left in the views, from a claimed task that still runs
abbrev pub left_in : Option Running → ℕ → ℕ
left_in None task = 0
left_in (Some running) task = count_by (λ s. s == task) running.successors

-- the edges from a task into another, as long as the first isn't claimed
abbrev pub edges_from : Shape → Core → ℕ → ℕ → ℕ
edges_from shape core after before = if slice_index core.words (task_place shape before) == claimed_word then 0 else count_by (λ s. s == after) (task_at shape before).successors

-- how many edges into a task come from tasks that aren't claimed
abbrev pub unclaimed_edges : Shape → Core → ℕ → ℕ
unclaimed_edges shape core task = sum_by (edges_from shape core task) (range_with_len 0 (length shape.tasks))

-- how many edges into a task aren't released: those from tasks that aren't claimed, and those that a running task has left
abbrev pub unreleased : Shape → Core → ℕ → ℕ
unreleased shape core task = unclaimed_edges shape core task + sum_by (λ (v : View). left_in v.running task) core.views

-- the chains of one of these views
pub record AreChains (shape : Shape) (views : List View) (chains : List Chain) : Type 0 where
  pub few : length chains ≤ 2
  pub cells : (chain : Chain) → Contains chains chain → (chain.cell < length shape.parents) × (chain.raises ≤ length (ancestors shape chain.cell))
  -- the older one is complete, so that a marked raise is the newest chain's
  pub older : (chain : Chain) → slice_get chains 1 ≡ Some chain → IsComplete shape chain
  -- an ancestor with a raise that isn't marked isn't locked
  pub unmarked : (chain : Chain) → Contains chains chain → (k : ℕ) → k < chain.raises → (IsMarked chain k → ⊥) → locks_of (ancestor_at shape chain k) views ≡ 0

-- a leaf that the view has out: it owns a cell above it, and where it runs a task the leaf is left to return
pub record IsOut (shape : Shape) (view : View) (leaf : ℕ) : Type 0 where
  pub is_leaf : leaf < shape.leaves
  pub above : OwnsAbove shape view leaf
  pub left : (running : Running) → view.running ≡ Some running → Contains running.leaves leaf

-- a running task: it is claimed, what it has left is its own, each once, and something is left
pub record IsRunning (shape : Shape) (core : Core) (view : View) (running : Running) : Type 0 where
  pub is_task : running.task < length shape.tasks
  pub claimed : IsClaimed shape core running.task
  pub leaves : (leaf : ℕ) → (Contains running.leaves leaf → Touches shape running.task leaf) × (count_by (λ l. l == leaf) running.leaves ≤ 1)
  pub successors : (after : ℕ) → (Contains running.successors after → IsEdge shape running.task after) × (count_by (λ s. s == after) running.successors ≤ 1)
  pub some_left : (running.leaves ≡ []) → (running.successors ≡ []) → ⊥
  pub owns : running.leaves ≢ [] → OwnsJust shape view running.task × (running.successors ≡ (task_at shape running.task).successors)

-- what every state keeps of its cells
pub record AreCellsSound (shape : Shape) (core : Core) : Type 0 where
  -- the word of a cell is its lock bit and twice the number of its raises; at most one chain locks it
  pub cell_words : (cell : ℕ) → cell < length shape.parents
      → slice_index core.words (cell_place shape cell) ≡ locks_of cell core.views + 2 * raises_of shape cell core.views
  pub one_lock : (cell : ℕ) → locks_of cell core.views ≤ 1
  pub chains : (seat : ℕ) (view : View) → IsView core seat view → AreChains shape core.views view.chains

-- what every state keeps of its leaves
pub record AreLeavesSound (shape : Shape) (core : Core) : Type 0 where
  -- the word of a leaf is the number of views that have it out, at most one
  pub leaf_words : (leaf : ℕ) → leaf < shape.leaves → slice_index core.words (leaf_place shape leaf) ≡ outs_of leaf core.views
  pub one_out : (leaf : ℕ) → outs_of leaf core.views ≤ 1
  pub outs : (seat : ℕ) (view : View) (leaf : ℕ) → IsView core seat view → Contains view.out leaf → IsOut shape view leaf

-- the one half: the words are as many as there are places, that of the seats is 0, and the cells and leaves keep their laws
pub record AreLocksSound (shape : Shape) (core : Core) : Type 0 where
  pub words : length core.words ≡ word_count shape
  pub seat_word : slice_index core.words 0 ≡ 0
  pub cells : AreCellsSound shape core
  pub leaves : AreLeavesSound shape core

-- the other half: the running tasks and the words of tasks
pub record AreTasksSound (shape : Shape) (core : Core) : Type 0 where
  pub runs : (seat : ℕ) (view : View) (running : Running) → IsView core seat view → view.running ≡ Some running → IsRunning shape core view running
  pub one_runs : (seat seat' task : ℕ) (view view' : View) (running running' : Running)
      → IsView core seat view → IsView core seat' view' → Runs view task running → Runs view' task running' → seat ≡ seat'
  -- the word of a task that isn't claimed is the number of edges into it that aren't released; none is left of a claimed one
  pub task_words : (task : ℕ) → task < length shape.tasks → slice_index core.words (task_place shape task) ≢ claimed_word
      → slice_index core.words (task_place shape task) ≡ unreleased shape core task
  pub claimed_ready : (task : ℕ) → task < length shape.tasks → IsClaimed shape core task → unreleased shape core task ≡ 0
  -- every task before a claimed one is claimed, and done on every leaf that it touches
  pub in_order : (before after leaf : ℕ) → before < length shape.tasks → after < length shape.tasks → IsEdge shape before after → IsClaimed shape core after
      → IsClaimed shape core before × (Touches shape before leaf → IsDone shape core before leaf)

-- what every state keeps
pub record IsSound (shape : Shape) (core : Core) : Type 0 where
  pub locks : AreLocksSound shape core
  pub tasks : AreTasksSound shape core

-- no two chains own cells of which one contains the other: the chains are told apart by their seat and their place in it
pub record OwnsAt (shape : Shape) (core : Core) (seat k cell : ℕ) : Type 0 where
  pub view : View
  pub is_view : IsView core seat view
  pub chain : Chain
  pub at : slice_get view.chains k ≡ Some chain
  pub complete : IsComplete shape chain
  pub of_cell : chain.cell ≡ cell

abbrev pub IsExclusive : Shape → Core → Type 0
IsExclusive shape core =
    (seat seat' k k' cell cell' : ℕ) → OwnsAt shape core seat k cell → OwnsAt shape core seat' k' cell' → CellContains shape cell cell'
    → (seat ≡ seat') × (k ≡ k')
