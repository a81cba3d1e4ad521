-- What a claim of a task answers, and what the releases of its successors leave.
use Rattle.std.specs.Prelude.{◌≡◌, ◌==◌, ℕ, ◌<◌, ◌≤◌, List, ◌++◌, All, length, map, Option, Some, None, if◌then◌else◌}
use Rattle.std.specs.List.{filter_map}
use Rattle.qs_core.specs.declared.event.Note.{Note}
use Rattle.qs_core.specs.declared.event.Step.TheVariants as Step
use Rattle.qs_core.specs.declared.event.StepKind.{StepKind}
use Rattle.qs_core.specs.declared.event.StepKind.TheVariants.{Release}
use Rattle.qs_core.specs.Shape.{Shape}
use Rattle.qs_core.specs.Core.{claimed_word}
use Rattle.qs_table.specs.declared.answers.Claim.{Claim}
use Rattle.qs_table.specs.declared.answers.Claim.TheVariants.{Claimed, Waiting, Taken}
use Rattle.qs_table.specs.declared.view.SeatView.{SeatView}
use Rattle.qs_table.specs.Views.{knows_after}

-- the answer to a claim tells the word that its one note saw: 0, a count of edges above 0, or that of a claimed task
abbrev pub Answered : Shape → ℕ → SeatView → Claim → SeatView → Type 0
Answered shape task before Claimed after = after ≡ knows_after shape before (Step.Claim task) 0
Answered shape task before (Waiting seen) after = (after ≡ knows_after shape before (Step.Claim task) seen) × (0 < seen) × (seen ≤ length shape.tasks)
Answered shape task before Taken after = after ≡ knows_after shape before (Step.Claim task) claimed_word

-- the task that a release frees: its word was 1
abbrev pub freed_if : ℕ → ℕ → Option ℕ
freed_if task seen = if seen == 1 then Some task else None

abbrev pub freed_of : StepKind → ℕ → ℕ → Option ℕ
freed_of Release task seen = freed_if task seen
freed_of _ task seen = None

-- the tasks that such notes free, in order
abbrev pub freed_in : List Note → List ℕ
freed_in notes = filter_map (λ (note : Note). freed_of note.kind note.cell note.seen) notes

abbrev pub AreReleasesOf : List Note → List ℕ → Type 0
AreReleasesOf notes tasks = All (λ (note : Note). note.kind ≡ Release) notes × (map (λ (note : Note). note.cell) notes ≡ tasks)

-- the task that ran is over: each of its successors was released once, in order, and those that were freed came to the end of a list
pub record IsOver (successors : List ℕ) (before after : SeatView) (ready ready' : List ℕ) : Type 0 where
  pub place : after.place ≡ before.place
  pub holds : after.holds ≡ record before.holds { running = None }
  pub fetched : after.fetched ≡ before.fetched
  pub hand : after.hand ≡ before.hand
  pub further : List Note
  pub notes : after.notes ≡ before.notes ++ further
  pub releases : AreReleasesOf further successors
  pub freed : ready' ≡ ready ++ freed_in further
