-- What a token keeps beside its seat.
use Rattle.std.specs.Prelude.{◌≡◌, ℕ, ◌<◌, List, [], ◌∷◌, map, length, All, Some, None}
use Rattle.atomic_table.specs.Table.{Me}
use Rattle.atomic_table.specs.declared.shared.Seat.{Seat}
use Rattle.std.specs.List.{range_with_len}
use Rattle.atomic_table.specs.Seated.{TableId}
use Rattle.qs_core.specs.Shape.{Shape, IsShape, ancestors, task_at}
use Rattle.qs_core.specs.Core.{Chain, Running, View, empty_view, word_count}
use Rattle.qs_table.specs.declared.seat.Cells.{Cells}
use Rattle.qs_table.specs.declared.seat.Cells.TheVariants.{Empty, One, Two}
use Rattle.qs_table.specs.declared.view.Bundle.{Bundle}
use Rattle.qs_table.specs.declared.view.SeatView.{SeatView}
use Rattle.qs_table.specs.Seats.{IsSeatOf, TableView, TokenView}
use Rattle.qs_table.specs.Tries.{owned_chain}
use Rattle.qs_table.specs.Views.{alone}
use Rattle.qs_table.specs.inner.Plays.{seat_in}

-- the cells of a token, the newest first
abbrev pub cells_of : Cells → List ℕ
cells_of Empty = []
cells_of (One newest) = newest ∷ []
cells_of (Two newest older) = newest ∷ older ∷ []

-- the task runs, and has all its successors left
pub record RunsAll (shape : Shape) (task : ℕ) (running : Running) : Type 0 where
  pub is_task : task < length shape.tasks
  pub of_task : running.task ≡ task
  pub successors : running.successors ≡ (task_at shape task).successors

-- the seat stands alone in its bundle, has no slot, owns just these cells, and runs no other task than this; with no cell no leaf is out
pub record IsToken {S P : Type 0} (shape : P → Shape) (me : Me S (Bundle P)) (cells : Cells) (task : ℕ) : Type 0 where
  pub plan : P
  pub alone_is : me.0 ≡ alone plan (seat_in me.0)
  pub chains : (seat_in me.0).holds.chains ≡ map (owned_chain (shape plan)) (cells_of cells)
  pub within : All (λ (cell : ℕ). cell < length (shape plan).parents) (cells_of cells)
  pub slots : me.1 ≡ []
  pub hand : (seat_in me.0).hand ≡ None
  pub home : (seat_in me.0).holds.chains ≡ [] → (seat_in me.0).holds.out ≡ []
  pub runs : (running : Running) → (seat_in me.0).holds.running ≡ Some running → RunsAll (shape plan) task running

-- the token is of a seat of the table that holds nothing: no cell, no leaf and no task
pub record IsEmptySeat {P : Type 0} (table : TableView P) (seat : TokenView P) : Type 0 where
  pub of_table : IsSeatOf table seat
  pub empty : seat.view.holds ≡ empty_view

-- the seat holds nothing
abbrev pub HoldsNone : SeatView → Type 0
HoldsNone v = v.holds ≡ empty_view

-- the seat is one of the table, and stands alone in its bundle
pub record Sits {S P : Type 0} (table : TableView P) (seat : Seat S (Bundle P)) : Type 0 where
  pub same : seat.table_id ≡ table.id
  pub alone_is : seat.me.0 ≡ alone table.plan (seat_in seat.me.0)

-- what a table keeps is laid out for its shape: the words and the slots, the cells above each cell, and room for the words at the end
pub record IsLaidOut (shape : Shape) (id : TableId) (lines : List (List ℕ)) (words : List ℕ) : Type 0 where
  pub laws : IsShape shape
  pub words_are : id.words ≡ word_count shape
  pub slots_are : id.slots ≡ shape.leaves
  pub lines_are : lines ≡ map (ancestors shape) (range_with_len 0 (length shape.parents))
  pub room : length words ≡ word_count shape

-- the newest chain is of this cell, and has so many raises
pub record HasNewest (view : View) (cell raises : ℕ) : Type 0 where
  pub chain : Chain
  pub older : List Chain
  pub is : view.chains ≡ chain ∷ older
  pub of_cell : chain.cell ≡ cell
  pub raised : chain.raises ≡ raises
