-- Blocks in the slots of the shared words.
use Rattle.std.specs.Prelude.{◌≡◌, ◌↔◌, ℕ, ◌<◌, List, [], length, slice_index, Contains, Option, Some}
use Rattle.std.specs.List.{filter_map}
use mathlib.Core.Option.{some}
use lib.ListN.{get_elem?}
use Rattle.qs_core.specs.Shape.{Shape, IsEdge, Touches}
use Rattle.qs_core.specs.Core.{task_place}
use Rattle.qs_table.specs.declared.view.SeatView.{SeatView}
use Rattle.qs_table.specs.Blocks.{IsTaken, open_edges}
use Rattle.qs_table.specs.Notes.{claims_of}

-- the blocks that stand in slots, in order
abbrev pub blocks_in : {B : Type 0} → List (Option B) → List B
blocks_in {B} slots = filter_map (λ (slot : Option B). slot) slots

module _ {B : Type 0} (shape : Shape) (fits : ℕ → B → Type 0) (done : B → List ℕ) where
  -- a block fits its leaf, and nothing is done on it
  pub record IsFreshBlock (leaf : ℕ) (block : B) : Type 0 where
    pub fitting : fits leaf block
    pub none_done : done block ≡ []

  -- a block fits its leaf, and of the tasks that touch the leaf just the claimed ones are done on it
  pub record IsReturned (words : List ℕ) (leaf : ℕ) (block : B) : Type 0 where
    pub fitting : fits leaf block
    pub tasks : (task : ℕ) → (Contains (done block) task ↔ (IsTaken shape words task × Touches shape task leaf))

  -- a slot has a block with this of it
  pub record HasBlock (is : B → Type 0) (slots : List (Option B)) (leaf : ℕ) : Type 0 where
    pub block : B
    pub at : get_elem? slots leaf ≡ some (Some block)
    pub good : is block

  -- the slots at the start: each has a block of its leaf with nothing done
  pub record AreFreshSlots (slots : List (Option B)) : Type 0 where
    pub one_each : length slots ≡ shape.leaves
    pub each : (leaf : ℕ) → leaf < shape.leaves → HasBlock (IsFreshBlock leaf) slots leaf

  -- the words and the slots at the end, with what the seats know
  pub record IsClosed (known : List SeatView) (words : List ℕ) (slots : List (Option B)) : Type 0 where
    pub one_each : length slots ≡ shape.leaves
    pub each : (leaf : ℕ) → leaf < shape.leaves → HasBlock (IsReturned words leaf) slots leaf
    pub within : (task : ℕ) → IsTaken shape words task → task < length shape.tasks
    pub in_order : (before after : ℕ) → before < length shape.tasks → after < length shape.tasks → IsEdge shape before after → IsTaken shape words after → IsTaken shape words before
    pub released : (task : ℕ) → task < length shape.tasks → (IsTaken shape words task → ⊥) → slice_index words (task_place shape task) ≡ open_edges shape words task
    pub claims : (task : ℕ) → task < length shape.tasks → (IsTaken shape words task ↔ (0 < claims_of task known))
