-- The blocks of a work, as a closed table gives them back.
use Rattle.std.specs.Prelude.{◌≡◌, ℕ, ◌<◌, List, [], length, slice_index}
use Rattle.qs_core.specs.Shape.{Precedes, Shape}
use Rattle.qs_core.specs.Core.{claimed_word, task_place}
use Rattle.qs_core.specs.Sound.{unclaimed_edges}
use Rattle.qs_core.specs.Blocks.{AreDone}

-- a closed table: the shape of its work, its words, and the blocks in the order of the leaves
pub record ClosedView (B : Type 0) : Type 0 where
  pub shape : Shape
  pub words : List ℕ
  pub blocks : List B

-- by these words the task is claimed
abbrev pub IsTaken : Shape → List ℕ → ℕ → Type 0
IsTaken shape words task = slice_index words (task_place shape task) ≡ claimed_word

-- and is one of the work's
abbrev pub IsClaimedTask : Shape → List ℕ → ℕ → Type 0
IsClaimedTask shape words task = (task < length shape.tasks) × IsTaken shape words task

-- how many edges into a task come from tasks that aren't claimed by these words
abbrev pub open_edges : Shape → List ℕ → ℕ → ℕ
open_edges shape words task = unclaimed_edges shape (record { words = words; views = [] }) task

-- one block for each leaf, in order, on which just the claimed tasks are done that touch the leaf; a task that isn't claimed waits for just the edges from tasks that aren't, and whatever precedes a claimed task is claimed
pub record AreReturned {B : Type 0} (shape : Shape) (fits : ℕ → B → Type 0) (done : B → List ℕ) (words : List ℕ) (blocks : List B) : Type 0 where
  pub tasks : AreDone shape fits done (IsClaimedTask shape words) blocks
  pub released : (task : ℕ) → task < length shape.tasks → (IsTaken shape words task → ⊥) → slice_index words (task_place shape task) ≡ open_edges shape words task
  pub in_order : (before after : ℕ) → before < length shape.tasks → Precedes shape before after → IsTaken shape words after → IsTaken shape words before
