-- The state of the machine: a word for each cell, leaf and task, and what each seat knows.
use Rattle.std.specs.Prelude.{◌≡◌, ℕ, ◌+◌, ◌^◌, Bool, false, List, [], ◌∷◌, ◌++◌, length, map, replicate, slice_get, Contains, Option, None, unwrap_or}
use Rattle.qs_core.specs.Shape.{Shape, ancestors, edges_into}
use Rattle.std.specs.List.{range_with_len}

-- a locked cell with its ancestors raised so far, parent first; whether the last raise found its ancestor locked, and whether the chain is being given back
pub record Chain : Type 0 where
  pub cell : ℕ
  pub raises : ℕ
  pub stopped : Bool
  pub giving : Bool

-- a claimed task: the leaves still to return, and the successors still to release, in order
pub record Running : Type 0 where
  pub task : ℕ
  pub leaves : List ℕ
  pub successors : List ℕ

-- what a seat holds: its chains, the newest first, the leaves that it has out, and its running task
pub record View : Type 0 where
  pub chains : List Chain
  pub out : List ℕ
  pub running : Option Running

abbrev pub empty_view : View
empty_view = record { chains = []; out = []; running = None }

-- the words stand in one list: at place 0 that of the seats, which stays 0, then those of the cells, of the leaves and of the tasks
pub record Core : Type 0 where
  pub words : List ℕ
  pub views : List View

-- the place of the word of a cell, of a leaf and of a task, and how many places there are
abbrev pub cell_place : Shape → ℕ → ℕ
cell_place shape cell = 1 + cell

abbrev pub leaf_place : Shape → ℕ → ℕ
leaf_place shape leaf = 1 + length shape.parents + leaf

abbrev pub task_place : Shape → ℕ → ℕ
task_place shape task = 1 + length shape.parents + shape.leaves + task

abbrev pub word_count : Shape → ℕ
word_count shape = 1 + length shape.parents + shape.leaves + length shape.tasks

-- the word of a claimed task
abbrev pub claimed_word : ℕ
claimed_word = 2 ^ 63

-- the view of a seat
abbrev pub view_at : List View → ℕ → View
view_at views seat = unwrap_or (slice_get views seat) empty_view

-- the chain's cell is owned: all its ancestors are raised, none was found locked, and it isn't being given back
pub record IsComplete (shape : Shape) (chain : Chain) : Type 0 where
  pub all_raised : chain.raises ≡ length (ancestors shape chain.cell)
  pub free : chain.stopped ≡ false
  pub kept : chain.giving ≡ false

-- the view owns the cell
pub record Owns (shape : Shape) (view : View) (cell : ℕ) : Type 0 where
  pub chain : Chain
  pub stands : Contains view.chains chain
  pub complete : IsComplete shape chain
  pub of_cell : chain.cell ≡ cell

-- at the opening nothing is locked, every leaf is home, and each task waits for the edges into it
abbrev pub opening : Shape → ℕ → Core
opening shape seats = record {
  words = 0 ∷ replicate (length shape.parents) 0 ++ replicate shape.leaves 0 ++ map (edges_into shape) (range_with_len 0 (length shape.tasks));
  views = replicate seats empty_view;
}
