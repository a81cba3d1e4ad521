-- What notes of steps show.
use Rattle.std.specs.Prelude.{◌≡◌, ℕ, ◌==◌, ◌&&◌, Bool, true, false, List, ◌++◌, All, Option, Some, None, sum_by, count_by, ⊤}
use Rattle.std.specs.List.{filter_map}
use Rattle.qs_core.specs.declared.event.Note.{Note}
use Rattle.qs_core.specs.declared.event.StepKind.{StepKind}
use Rattle.qs_core.specs.declared.event.StepKind.TheVariants.{Lock, Raise, Lower, Unlock, Claim, Release}
use Rattle.qs_table.specs.declared.view.SeatView.{SeatView}

-- the kinds of step on the word of a cell
abbrev pub IsOnCell : StepKind → Type 0
IsOnCell Lock = ⊤
IsOnCell Raise = ⊤
IsOnCell Lower = ⊤
IsOnCell Unlock = ⊤
IsOnCell _ = ⊥

-- the note is of such a step, and all these notes are
abbrev pub IsCellNote : Note → Type 0
IsCellNote note = IsOnCell note.kind

abbrev pub AreOnCells : List Note → Type 0
AreOnCells notes = All IsCellNote notes

-- the notes before are a prefix of those after, and the further ones are of steps on words of cells
pub record Grew (before after : List Note) : Type 0 where
  pub further : List Note
  pub is : after ≡ before ++ further
  pub on_cells : AreOnCells further

-- the cells whose lock was tried, in order
abbrev pub lock_of : StepKind → ℕ → Option ℕ
lock_of Lock cell = Some cell
lock_of _ cell = None

abbrev pub locks_in : List Note → List ℕ
locks_in notes = filter_map (λ (note : Note). lock_of note.kind note.cell) notes

-- the note claims the task: its word was 0
abbrev pub claims : StepKind → Bool
claims Claim = true
claims _ = false

abbrev pub claims_task : ℕ → Note → Bool
claims_task task note = claims note.kind && ((note.cell == task) && (note.seen == 0))

-- the note frees the task: it releases the last edge into it, whose word was 1
abbrev pub releases : StepKind → Bool
releases Release = true
releases _ = false

abbrev pub frees_task : ℕ → Note → Bool
frees_task task note = releases note.kind && ((note.cell == task) && (note.seen == 1))

-- how many notes claim a task, and how many free it, in the views of seats
abbrev pub claims_of : ℕ → List SeatView → ℕ
claims_of task seats = sum_by (λ (v : SeatView). count_by (claims_task task) v.notes) seats

abbrev pub frees_of : ℕ → List SeatView → ℕ
frees_of task seats = sum_by (λ (v : SeatView). count_by (frees_task task) v.notes) seats
