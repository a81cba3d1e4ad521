-- The room that a worker keeps for its tasks.
use Rattle.std.specs.Prelude.{◌≡◌, ℕ, ◌*◌, ◌<◌, ◌≤◌, List, [], length, Some}
use Rattle.qs_core.specs.Shape.{Shape}
use Rattle.qs_core.specs.Core.{empty_view}
use Rattle.qs_core.specs.Blocks.{first_leaves, second_leaves}
use Rattle.qs_table.specs.Seats.{TokenView}
use Rattle.qs_worker.specs.ReadyLists.{IsReadyList}

-- so many blocks are enough for the leaves of the first cell, and of the second, of each task below a number
pub record HasBlockRoomBelow (shape : Shape) (count firsts seconds : ℕ) : Type 0 where
  pub firsts_fit : (task : ℕ) → task < count → length (first_leaves shape task) ≤ firsts
  pub seconds_fit : (task : ℕ) → task < count → length (second_leaves shape task) ≤ seconds

-- of each task
abbrev pub HasBlockRoom : Shape → ℕ → ℕ → Type 0
HasBlockRoom shape firsts seconds = HasBlockRoomBelow shape (length shape.tasks) firsts seconds

-- two empty lists with room for the blocks of each task, and one with room for twice as many tasks as there are
pub record IsRoom {B : Type 0} (shape : Shape) (first second : List B) (ready : List ℕ) (firsts seconds tasks : ℕ) : Type 0 where
  pub first_empty : first ≡ []
  pub second_empty : second ≡ []
  pub ready_empty : ready ≡ []
  pub blocks_fit : HasBlockRoom shape firsts seconds
  pub tasks_fit : 2 * length shape.tasks ≤ tasks

-- a worker's seat holds nothing, its room is that for the work of the seat's table, and its list is one of tasks that are ready
pub record IsEquipped {P B : Type 0} (shape : P → Shape) (seat : TokenView P) (first second : List B) (ready : List ℕ) (firsts seconds tasks : ℕ) : Type 0 where
  pub rests : seat.view.holds ≡ empty_view
  pub plan : P
  pub plan_is : seat.plan ≡ Some plan
  pub first_empty : first ≡ []
  pub second_empty : second ≡ []
  pub blocks_fit : HasBlockRoom (shape plan) firsts seconds
  pub tasks_fit : 2 * length (shape plan).tasks ≤ tasks
  pub listed : IsReadyList (shape plan) seat.view.notes ready
