-- The tasks that notes claim.
use Rattle.std.specs.Prelude.{◌==◌, ℕ, List, Option, Some, None, if◌then◌else◌}
use Rattle.std.specs.List.{filter_map}
use Rattle.qs_core.specs.declared.event.Note.{Note}
use Rattle.qs_core.specs.declared.event.StepKind.{StepKind}
use Rattle.qs_core.specs.declared.event.StepKind.TheVariants.{Claim}

-- the task that a claim gets: its word was 0
abbrev pub claimed_if : ℕ → ℕ → Option ℕ
claimed_if task seen = if seen == 0 then Some task else None

abbrev pub claimed_of : StepKind → ℕ → ℕ → Option ℕ
claimed_of Claim task seen = claimed_if task seen
claimed_of _ task seen = None

-- the tasks that such notes claim, in order
abbrev pub claimed_in : List Note → List ℕ
claimed_in notes = filter_map (λ (note : Note). claimed_of note.kind note.cell note.seen) notes
