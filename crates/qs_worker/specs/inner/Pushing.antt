-- One task that is offered to the queues.
use Rattle.std.specs.Prelude.{◌≡◌, ℕ, Bool, List, MatchBool}
use Rattle.qs_heap.specs.declared.entry.Entry.{Entry}
use Rattle.qs_queues.specs.declared.view.QueueView.{QueueView}
use Rattle.qs_queues.specs.Views.{with_notes}
use Rattle.qs_worker.specs.Offers.{IsTakenByNone, IsTakenByOne, Pushed, notes_of_pushes}

-- the notes are those of pushes to the queues, of which one took the entry, or none did
abbrev pub Offered : ℕ → ℕ → ℕ → Entry → Bool → QueueView → QueueView → Type 0
Offered room queues own entry taken before after =
    (pushes : List Pushed) × (after ≡ with_notes before (notes_of_pushes pushes)) × MatchBool taken (IsTakenByOne room queues own entry pushes) (IsTakenByNone room queues own entry pushes)
