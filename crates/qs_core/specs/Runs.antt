-- Lists of events from the opening state.
use Rattle.std.specs.Prelude.{◌≡◌, ℕ, ◌<◌, List, [], ◌∷◌, ◌++◌, length, slice_index, Contains, Some, ⊤}
use Rattle.qs_core.specs.declared.event.Event.{Event}
use Rattle.qs_core.specs.declared.event.Step.TheVariants.{Claim, Return}
use Rattle.qs_core.specs.Shape.{Shape}
use Rattle.qs_core.specs.Core.{Core, View, Running, opening, task_place, view_at}
use Rattle.qs_core.specs.Steps.{IsAllowed, effect}
use Rattle.qs_core.specs.Sound.{IsClaimed, IsView, Runs}

-- each event is allowed in the state before it
abbrev pub IsRun : Shape → Core → List Event → Type 0
IsRun shape core [] = ⊤
IsRun shape core (event ∷ events) = IsAllowed shape core event × IsRun shape (effect shape core event) events

-- the state after the events
abbrev pub after_events : Shape → Core → List Event → Core
after_events shape core [] = core
after_events shape core (event ∷ events) = after_events shape (effect shape core event) events

-- the event claims the task: its word was 0
pub record Claims (shape : Shape) (core : Core) (event : Event) (task : ℕ) : Type 0 where
  pub step : event.step ≡ Claim task
  pub ready : slice_index core.words (task_place shape task) ≡ 0

-- the event returns the leaf for the task: its seat runs the task with the leaf left
pub record ReturnsWork (core : Core) (event : Event) (task leaf : ℕ) : Type 0 where
  pub step : event.step ≡ Return leaf
  pub running : Running
  pub runs : Runs (view_at core.views event.seat) task running
  pub left : Contains running.leaves leaf

-- a run from the opening state of a table with so many seats, at its state
pub record IsReached (shape : Shape) (seats : ℕ) (events : List Event) (core : Core) : Type 0 where
  pub run : IsRun shape (opening shape seats) events
  pub state : after_events shape (opening shape seats) events ≡ core

-- an event of a run claims the task
pub record ClaimsAfter (shape : Shape) (seats : ℕ) (events : List Event) (event : Event) (task : ℕ) : Type 0 where
  pub run : IsRun shape (opening shape seats) (events ++ event ∷ [])
  pub is_task : task < length shape.tasks
  pub claims : Claims shape (after_events shape (opening shape seats) events) event task

-- an event of a run returns the leaf for the task
pub record ReturnsAfter (shape : Shape) (seats : ℕ) (events : List Event) (event : Event) (task leaf : ℕ) : Type 0 where
  pub run : IsRun shape (opening shape seats) (events ++ event ∷ [])
  pub is_task : task < length shape.tasks
  pub returns : ReturnsWork (after_events shape (opening shape seats) events) event task leaf

-- one of the events of a run returns the leaf for the task
pub record WasReturned (shape : Shape) (seats : ℕ) (events : List Event) (task leaf : ℕ) : Type 0 where
  pub before : List Event
  pub event : Event
  pub more : List Event
  pub split : before ++ event ∷ more ≡ events
  pub returns : ReturnsAfter shape seats before event task leaf

-- every task is claimed and none runs
pub record IsFinished (shape : Shape) (core : Core) : Type 0 where
  pub claimed : (task : ℕ) → task < length shape.tasks → IsClaimed shape core task
  pub none_runs : (seat : ℕ) (view : View) (running : Running) → IsView core seat view → view.running ≡ Some running → ⊥
