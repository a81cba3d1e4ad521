-- The laws of the machine, over every step and every list of events.
use Rattle.std.specs.Prelude.{◌≡◌, ◌⊎◌, ℕ, ◌<◌, ◌≤◌, ◌==◌, ◌↔◌, List, [], ◌∷◌, ◌++◌, length, count_by, Contains}
use Rattle.qs_core.specs.declared.event.Event.{Event}
use Rattle.qs_core.specs.Shape.{Shape, IsEdge, IsShape, Precedes, Touches}
use Rattle.qs_core.specs.Core.{Core, opening}
use Rattle.qs_core.specs.Steps.{IsAllowed, effect}
use Rattle.qs_core.specs.Sound.{IsClaimed, IsDone, IsExclusive, IsReleased, IsSound, unreleased}
use Rattle.qs_core.specs.Machine.{Machine, made, played}
use Rattle.qs_core.specs.Runs.{ClaimsAfter, IsFinished, IsReached, ReturnsAfter, ReturnsWork, WasReturned, after_events}

-- the opening state is sound
abbrev pub OpeningIsSound : Type 0
OpeningIsSound = (shape : Shape) (seats : ℕ) → IsShape shape → IsSound shape (opening shape seats)

-- an allowed step from a sound state gives a sound one
abbrev pub StepsKeepSound : Type 0
StepsKeepSound = (shape : Shape) (core : Core) (event : Event) → IsShape shape → IsSound shape core → IsAllowed shape core event → IsSound shape (effect shape core event)

-- in a sound state no two chains own cells of which one contains the other
abbrev pub SoundIsExclusive : Type 0
SoundIsExclusive = (shape : Shape) (core : Core) → IsShape shape → IsSound shape core → IsExclusive shape core

-- every task before a claimed one, through any path, is claimed, and done on every leaf that it touches
abbrev pub SoundIsInOrder : Type 0
SoundIsInOrder =
    (shape : Shape) (core : Core) (before after leaf : ℕ) → IsShape shape → IsSound shape core → Precedes shape before after
    → IsClaimed shape core after → IsClaimed shape core before × (Touches shape before leaf → IsDone shape core before leaf)

-- after a step a task is done on a leaf just where it was done before or the step returns the leaf for the task
abbrev pub StepsChangeDone : Type 0
StepsChangeDone =
    (shape : Shape) (core : Core) (event : Event) (task leaf : ℕ) → IsShape shape → IsSound shape core → IsAllowed shape core event → task < length shape.tasks
    → IsDone shape (effect shape core event) task leaf ↔ (IsDone shape core task leaf ⊎ ReturnsWork core event task leaf)

-- no edge into a task is left to release just where each is released
abbrev pub ReleasedMeansNone : Type 0
ReleasedMeansNone =
    (shape : Shape) (core : Core) (after : ℕ) → IsShape shape → IsSound shape core → after < length shape.tasks
    → (unreleased shape core after ≡ 0) ↔ ((before : ℕ) → before < length shape.tasks → IsEdge shape before after → IsReleased shape core before after)

-- the list has, each once, just the tasks with an edge into the task that isn't released, and they are as many as are counted
pub record AreUnreleased (shape : Shape) (core : Core) (after : ℕ) (tasks : List ℕ) : Type 0 where
  pub just : (before : ℕ) → Contains tasks before ↔ ((before < length shape.tasks) × IsEdge shape before after × (IsReleased shape core before after → ⊥))
  pub once : (before : ℕ) → count_by (λ t. t == before) tasks ≤ 1
  pub counted : length tasks ≡ unreleased shape core after

-- the count of the edges into a task that aren't released is that of the tasks that they come from
abbrev pub UnreleasedAreCounted : Type 0
UnreleasedAreCounted = (shape : Shape) (core : Core) (after : ℕ) → IsShape shape → IsSound shape core → (tasks : List ℕ) × AreUnreleased shape core after tasks

-- a machine that is made is reached by no events
abbrev pub MadeIsReached : Type 0
MadeIsReached = (shape : Shape) (seats : ℕ) → IsReached shape seats [] (made shape seats).core

-- where a machine is reached by events, the one that an allowed event makes of it is reached by these and that event
abbrev pub PlayedIsReached : Type 0
PlayedIsReached =
    (m : Machine) (seats : ℕ) (events : List Event) (event : Event) → IsReached m.shape seats events m.core → IsAllowed m.shape m.core event
    → IsReached (played m event).shape seats (events ++ event ∷ []) (played m event).core

-- over every list of events each state is sound, and so exclusive
abbrev pub RunsAreSound : Type 0
RunsAreSound = (shape : Shape) (seats : ℕ) (events : List Event) (core : Core) → IsShape shape → IsReached shape seats events core → IsSound shape core × IsExclusive shape core

-- a task is claimed at most once
abbrev pub ClaimedOnce : Type 0
ClaimedOnce =
    (shape : Shape) (seats task : ℕ) (events more : List Event) (event other : Event) → IsShape shape
    → ClaimsAfter shape seats events event task → ClaimsAfter shape seats (events ++ event ∷ more) other task → ⊥

-- at its claim every task before it, through any path, is done on every leaf that it touches
abbrev pub ClaimedInOrder : Type 0
ClaimedInOrder =
    (shape : Shape) (seats task before leaf : ℕ) (events : List Event) (event : Event) → IsShape shape
    → ClaimsAfter shape seats events event task → Precedes shape before task → Touches shape before leaf
    → IsDone shape (after_events shape (opening shape seats) events) before leaf

-- where every task is claimed and none runs, the tasks done on a leaf are just those that touch it
abbrev pub AllAreDone : Type 0
AllAreDone =
    (shape : Shape) (core : Core) (task leaf : ℕ) → IsFinished shape core → task < length shape.tasks
    → IsDone shape core task leaf ↔ Touches shape task leaf

-- a leaf is returned for a task at most once
abbrev pub ReturnedOnce : Type 0
ReturnedOnce =
    (shape : Shape) (seats task leaf : ℕ) (events more : List Event) (event other : Event) → IsShape shape
    → ReturnsAfter shape seats events event task leaf → ReturnsAfter shape seats (events ++ event ∷ more) other task leaf → ⊥

-- in each state of a run the tasks done on a leaf are just those for which one of its events returned the leaf
abbrev pub DoneWasReturned : Type 0
DoneWasReturned =
    (shape : Shape) (seats task leaf : ℕ) (events : List Event) (core : Core) → IsShape shape → IsReached shape seats events core → task < length shape.tasks
    → IsDone shape core task leaf ↔ WasReturned shape seats events task leaf

-- where a run ends with every task claimed and none running, a leaf was returned for just the tasks that touch it
abbrev pub FinishedWasReturned : Type 0
FinishedWasReturned =
    (shape : Shape) (seats task leaf : ℕ) (events : List Event) (core : Core) → IsShape shape → IsReached shape seats events core → IsFinished shape core
    → task < length shape.tasks → WasReturned shape seats events task leaf ↔ Touches shape task leaf
