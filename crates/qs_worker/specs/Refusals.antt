-- Why a worker couldn't claim a task: what its notes show.
use Rattle.std.specs.Prelude.{◌≡◌, ◌≢◌, ℕ, ◌⊎◌, List, Contains}
use Rattle.qs_core.specs.declared.event.Note.{Note}
use Rattle.qs_core.specs.declared.event.StepKind.TheVariants as Kind
use Rattle.qs_core.specs.Shape.{Shape}
use Rattle.qs_core.specs.Steps.{IsCellOf}
use Rattle.qs_table.specs.Tries.{IsCause}

-- the note shows why a try of a task was turned back, at one of its cells
pub record IsTurnedBack (shape : Shape) (task : ℕ) (note : Note) : Type 0 where
  pub cell : ℕ
  pub of_task : IsCellOf shape task cell
  pub at : ℕ
  pub seen : ℕ
  pub cause : IsCause shape cell at seen note

-- or it is of a claim of the task, which saw another word than 0
pub record IsClaimLost (task : ℕ) (note : Note) : Type 0 where
  pub kind_is : note.kind ≡ Kind.Claim
  pub of_task : note.cell ≡ task
  pub not_free : note.seen ≢ 0

-- one of these notes shows why the task couldn't be claimed
pub record WasRefused (shape : Shape) (notes : List Note) (task : ℕ) : Type 0 where
  pub note : Note
  pub stands : Contains notes note
  pub shows : IsTurnedBack shape task note ⊎ IsClaimLost task note
