-- What a seat knows, and how its steps change it.
use Rattle.std.specs.Prelude.{ℕ, ◌+◌, List, [], ◌∷◌, ◌++◌, Option, None}
use Rattle.qs_queues.specs.declared.view.Held.{Held}
use Rattle.qs_queues.specs.declared.view.QueueNote.{QueueNote}
use Rattle.qs_queues.specs.declared.view.QueueView.{QueueView}

-- a seat that has done nothing
abbrev pub fresh_view : ℕ → ℕ → QueueView
fresh_view room tasks = record { room = room; tasks = tasks; subtractions = 0; held = None; notes = [] }

-- the view with further notes, and with one note more and another hold
abbrev pub with_notes : QueueView → List QueueNote → QueueView
with_notes v further = record { room = v.room; tasks = v.tasks; subtractions = v.subtractions; held = v.held; notes = v.notes ++ further }

abbrev pub with_note : QueueView → Option Held → QueueNote → QueueView
with_note v held note = record { room = v.room; tasks = v.tasks; subtractions = v.subtractions; held = held; notes = v.notes ++ note ∷ [] }

-- the view with a subtraction more
abbrev pub with_less : QueueView → QueueView
with_less v = record { room = v.room; tasks = v.tasks; subtractions = v.subtractions + 1; held = v.held; notes = v.notes }
