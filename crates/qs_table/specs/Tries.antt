-- What a try leaves: a cell is taken, or something of it was held at a step of the try.
use Rattle.std.specs.Prelude.{◌≡◌, ◌≢◌, ℕ, ◌%◌, ◌⊎◌, List, [], ◌∷◌, ◌++◌, Contains, length, take, false}
use Rattle.std.specs.Option.{option_to_list}
use Rattle.qs_core.specs.declared.event.Note.{Note}
use Rattle.qs_core.specs.declared.event.StepKind.TheVariants as Kind
use Rattle.qs_core.specs.Shape.{Shape, ancestors, task_at}
use Rattle.qs_core.specs.Core.{Chain, View}
use Rattle.qs_core.specs.Steps.{IsCellOf, OwnsJust, rest}
use Rattle.qs_table.specs.declared.view.SeatView.{SeatView}
use Rattle.qs_table.specs.declared.answers.Try.{Try}
use Rattle.qs_table.specs.declared.answers.Try.TheVariants.{Got, Busy}
use Rattle.qs_table.specs.Notes.{Grew, locks_in}

-- the chain of an owned cell
abbrev pub owned_chain : Shape → ℕ → Chain
owned_chain shape cell = record { cell = cell; raises = length (ancestors shape cell); stopped = false; giving = false }

-- the view with an owned cell more, with several, one after the other, and without the newest
abbrev pub with_cell : Shape → View → ℕ → View
with_cell shape view cell = record view { chains = owned_chain shape cell ∷ view.chains }

abbrev pub with_cells : Shape → View → List ℕ → View
with_cells shape view [] = view
with_cells shape view (cell ∷ cells) = with_cells shape (with_cell shape view cell) cells

abbrev pub without_newest : View → View
without_newest view = record view { chains = rest view.chains }

-- after steps on cells the seat holds this, and all else that it knows is as before, but for further notes
pub record Stepped (before after : SeatView) (held : View) : Type 0 where
  pub place : after.place ≡ before.place
  pub holds : after.holds ≡ held
  pub fetched : after.fetched ≡ before.fetched
  pub hand : after.hand ≡ before.hand
  pub notes : Grew before.notes after.notes

-- a note shows why a try of a cell was turned back: the cell's word wasn't 0, or the word of a proper ancestor was odd
pub record IsCause (shape : Shape) (cell at seen : ℕ) (note : Note) : Type 0 where
  pub at_is : note.cell ≡ at
  pub seen_is : note.seen ≡ seen
  pub why : ((note.kind ≡ Kind.Lock) × (at ≡ cell) × (seen ≢ 0)) ⊎ ((note.kind ≡ Kind.Raise) × Contains (ancestors shape cell) at × (seen % 2 ≡ 1))

-- a try of a cell was turned back lawfully: one of the further notes shows why
pub record IsLegalBusy (shape : Shape) (cell at seen : ℕ) (before after : List Note) : Type 0 where
  pub grew : Grew before after
  pub note : Note
  pub stands : Contains grew.further note
  pub cause : IsCause shape cell at seen note

-- what a try of a cell leaves
abbrev pub Tried : Shape → ℕ → SeatView → Try → SeatView → Type 0
Tried shape cell before Got after = Stepped before after (with_cell shape before.holds cell)
Tried shape cell before (Busy at seen) after = Stepped before after before.holds × IsLegalBusy shape cell at seen before.notes after.notes

-- the cells of a task, in the order in which they are tried
abbrev pub cells_of_task : Shape → ℕ → List ℕ
cells_of_task shape task = (task_at shape task).first ∷ option_to_list (task_at shape task).second

-- locks were tried of the first cell of a task, or of the first and then the second
pub record TriedInOrder (shape : Shape) (task : ℕ) (before after : List Note) : Type 0 where
  pub tried : ℕ
  pub is : locks_in after ≡ locks_in before ++ take tried (cells_of_task shape task)

-- a try of a task was turned back lawfully, at one of its cells
pub record IsLegalBusyTask (shape : Shape) (task at seen : ℕ) (before after : List Note) : Type 0 where
  pub cell : ℕ
  pub of_task : IsCellOf shape task cell
  pub legal : IsLegalBusy shape cell at seen before after

-- what a try of a task leaves
abbrev pub TriedTask : Shape → ℕ → SeatView → Try → SeatView → Type 0
TriedTask shape task before Got after = Stepped before after (with_cells shape before.holds (cells_of_task shape task)) × OwnsJust shape after.holds task
TriedTask shape task before (Busy at seen) after = Stepped before after before.holds × IsLegalBusyTask shape task at seen before.notes after.notes

-- what is left where the newest cell is given back
pub record Gave (before after : SeatView) : Type 0 where
  pub steps : Stepped before after (without_newest before.holds)
  pub no_lock : locks_in after.notes ≡ locks_in before.notes
