-- What a trial of tasks did to the seat that was lent to it.
use Rattle.std.specs.Prelude.{◌≡◌, ℕ, ◌<◌, Bool, true, false, List, ◌∷◌, [], ◌++◌, Option, Some, None, MatchBool, count_by, drop, length}
use Rattle.std.specs.Option.{option_to_list}
use Rattle.qs_core.specs.declared.event.Note.{Note}
use Rattle.qs_core.specs.Shape.{Shape}
use Rattle.qs_core.specs.Core.{empty_view}
use Rattle.qs_table.specs.declared.view.SeatView.{SeatView}
use Rattle.qs_table.specs.Notes.{claims_task}
use Rattle.qs_table.specs.Seats.{IsSeatOf, TableView, TokenView}
use Rattle.qs_queues.specs.declared.view.QueueNote.{QueueNote}
use Rattle.qs_queues.specs.declared.view.QueueView.{QueueView}
use Rattle.qs_queues.specs.Views.{with_notes}
use Rattle.qs_worker.specs.Rounds.{Found}
use Rattle.qs_worker.specs.Refusals.{WasRefused}
use Rattle.qs_worker.specs.inner.Claimed.{claimed_view}
use Rattle.qs_worker.specs.inner.Leaves.{GrewClaiming}

-- the notes since there were others
abbrev pub since : List Note → List Note → List Note
since before after = drop (length before) after

-- a task was taken, which the seat hadn't claimed before: it owns just the cells, and runs the task with all its leaves and successors left; the notes end with the claim
pub record HasTaken (shape : Shape) (task : ℕ) (start now : SeatView) : Type 0 where
  pub is_task : task < length shape.tasks
  pub holds : now.holds ≡ claimed_view shape task
  pub new : count_by (claims_task task) start.notes ≡ 0
  pub front : List Note
  pub claim : Note
  pub is : now.notes ≡ start.notes ++ (front ++ claim ∷ [])
  pub claims : claims_task task claim ≡ true

-- what the try of a task claims
abbrev pub claimed_by : Bool → ℕ → List ℕ
claimed_by true task = task ∷ []
claimed_by false task = []

-- a task was tried: it was taken, or else the seat holds nothing, and the further notes show why it couldn't be claimed
pub record WasTried (shape : Shape) (task : ℕ) (before : SeatView) (taken : Bool) (after : SeatView) : Type 0 where
  pub place : after.place ≡ before.place
  pub grown : GrewClaiming (claimed_by taken task) before.notes after.notes
  pub outcome : MatchBool taken (HasTaken shape task before after) ((after.holds ≡ empty_view) × WasRefused shape grown.further task)

-- what a trial did to the view of its seat, which held nothing at the start: its further notes claim just what it has taken, and while that is nothing the seat holds nothing
pub record IsTrying (shape : Shape) (start now : SeatView) (taken : Option ℕ) : Type 0 where
  pub place : now.place ≡ start.place
  pub grown : GrewClaiming (option_to_list taken) start.notes now.notes
  pub none : taken ≡ None → now.holds ≡ empty_view
  pub some : (task : ℕ) → taken ≡ Some task → HasTaken shape task start now

-- a trial: its table, the plan of its work, the view of the seat that was lent to it, the seat as it now is and the name of the loan, what was taken, and how many tries there were
pub record TrialView (P : Type 0) : Type 0 where
  pub table : TableView P
  pub plan : P
  pub start : SeatView
  pub now : TokenView P
  pub name : ℕ
  pub taken : Option ℕ
  pub tries : ℕ

-- the lent seat is one of the table, whose plan is the work's
pub record IsTrial {P : Type 0} (shape : P → Shape) (t : TrialView P) : Type 0 where
  pub same : t.plan ≡ t.table.plan
  pub seated : IsSeatOf t.table t.now
  pub trying : IsTrying (shape t.table.plan) t.start t.now.view t.taken

-- what a look at the queues left: further notes of both seats, which show what was found, and the seat runs the task that was
pub record HasLooked (shape : Shape) (queues own : ℕ) (before : SeatView) (queue_before : QueueView) (found : Option ℕ) (after : SeatView) (queue_after : QueueView) : Type 0 where
  pub trying : IsTrying shape before after found
  pub notes : List QueueNote
  pub queue_notes : queue_after ≡ with_notes queue_before notes
  pub shown : Found (WasRefused shape trying.grown.further) queues own found notes
