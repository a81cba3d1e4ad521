-- What a seat holds from the claim of a task to its end.
use Rattle.std.specs.Prelude.{◌≡◌, ℕ, List, [], ◌++◌, Some}
use Rattle.qs_core.specs.declared.event.Note.{Note}
use Rattle.qs_core.specs.Shape.{Shape, task_at}
use Rattle.qs_core.specs.Core.{View, empty_view}
use Rattle.qs_core.specs.Steps.{started, unless_over}
use Rattle.qs_table.specs.declared.view.SeatView.{SeatView}
use Rattle.qs_table.specs.Claims.{AreReleasesOf, freed_in}
use Rattle.qs_table.specs.Tries.{cells_of_task, with_cells}
use Rattle.qs_worker.specs.inner.Leaves.{GrewQuietly}

-- just the cells of the task
abbrev pub got_view : Shape → ℕ → View
got_view shape task = record empty_view { chains = (with_cells shape empty_view (cells_of_task shape task)).chains }

-- and the task itself, with all its leaves and successors left
abbrev pub claimed_view : Shape → ℕ → View
claimed_view shape task = record (got_view shape task) { running = Some (started shape task) }

-- with just its successors left
abbrev pub over_view : Shape → ℕ → View
over_view shape task = record (got_view shape task) { running = unless_over task [] (task_at shape task).successors }

-- the task was done: the seat holds nothing, its last notes release the task's successors once each, in order, and those that they free came to the end of a list
pub record HasDone (shape : Shape) (task : ℕ) (before after : SeatView) (ready ready' : List ℕ) : Type 0 where
  pub place : after.place ≡ before.place
  pub holds : after.holds ≡ empty_view
  pub middle : List Note
  pub quiet : GrewQuietly before.notes middle
  pub further : List Note
  pub notes : after.notes ≡ middle ++ further
  pub releases : AreReleasesOf further (task_at shape task).successors
  pub freed : ready' ≡ ready ++ freed_in further
