-- The machine that plays events: its state, with the last note of each seat.
use Rattle.std.specs.Prelude.{◌≡◌, ℕ, suc, ◌-◌, ◌^◌, min, List, length, slice_get, slice_set, replicate, Option, Some, None, unwrap_or}
use Rattle.qs_core.specs.declared.event.Event.{Event}
use Rattle.qs_core.specs.declared.event.Note.{Note}
use Rattle.qs_core.specs.declared.event.Step.{Step}
use Rattle.qs_core.specs.declared.event.Step.TheVariants.{Lock, Raise, Lower, Unlock, Fetch, Return, Claim, Release}
use Rattle.qs_core.specs.declared.event.StepKind.{StepKind}
use Rattle.qs_core.specs.declared.event.StepKind.TheVariants as Kind
use Rattle.qs_core.specs.Shape.{Shape, IsShape}
use Rattle.qs_core.specs.Core.{Core, View, opening, view_at}
use Rattle.qs_core.specs.Steps.{effect, object_of, seen_by}
use Rattle.qs_core.specs.Sound.{IsSound}

-- what is scheduled, the state of the machine, and each seat's last note
pub record Machine : Type 0 where
  pub shape : Shape
  pub core : Core
  pub notes : List (Option Note)

abbrev pub kind_of : Step → StepKind
kind_of (Lock cell) = Kind.Lock
kind_of Raise = Kind.Raise
kind_of Lower = Kind.Lower
kind_of Unlock = Kind.Unlock
kind_of (Fetch leaf) = Kind.Fetch
kind_of (Return leaf) = Kind.Return
kind_of (Claim task) = Kind.Claim
kind_of Release = Kind.Release

-- the number of a step: one more than that of the note before, up to the greatest of 64 bits
abbrev pub number_after : Option Note → ℕ
number_after None = 1
number_after (Some note) = min (suc note.number) (2 ^ 64 - 1)

-- the note that a step leaves with a seat of this view and this last note, where this was seen
abbrev pub note_after : Shape → View → Option Note → Step → ℕ → Note
note_after shape view last step seen = record {
  number = number_after last;
  kind = kind_of step;
  cell = object_of shape view step;
  seen = seen;
}

-- the note that an event leaves
abbrev pub note_of : Machine → Event → Note
note_of m event =
    note_after m.shape (view_at m.core.views event.seat) (unwrap_or (slice_get m.notes event.seat) None) event.step
    (seen_by m.shape m.core event.seat event.step)

-- the machine after an event
abbrev pub played : Machine → Event → Machine
played m event = record {
  shape = m.shape;
  core = effect m.shape m.core event;
  notes = slice_set m.notes event.seat (Some (note_of m event));
}

-- the machine before any event
abbrev pub made : Shape → ℕ → Machine
made shape seats = record { shape = shape; core = opening shape seats; notes = replicate seats None }

-- what every machine keeps
pub record IsMachine (m : Machine) : Type 0 where
  pub shape : IsShape m.shape
  pub sound : IsSound m.shape m.core
  pub one_note_each : length m.notes ≡ length m.core.views
