-- What a worker did until it stopped: turns, one after the other.
use Rattle.std.specs.Prelude.{◌≡◌, ◌<◌, ◌⊎◌, ℕ, List, [], ◌∷◌, ◌++◌, All, flat_map, length}
use Rattle.qs_core.specs.Shape.{Shape}
use Rattle.qs_queues.specs.Seats.{QueuesView}
use Rattle.qs_worker.specs.declared.turn.Turn.{Turn}
use Rattle.qs_worker.specs.declared.turn.Turn.TheVariants.{Over, Ran, Idle}
use Rattle.qs_worker.specs.Turns.{Turned, WorkerView}

-- turns with these answers lead from the one state of the worker to the other
abbrev pub AreTurns : {P : Type 0} → Shape → QueuesView → List Turn → WorkerView P → WorkerView P → Type 0
AreTurns shape queues [] before after = after ≡ before
AreTurns shape queues (answer ∷ answers) before after = (between : WorkerView _) × Turned shape queues answer before between × AreTurns shape queues answers between after

-- each of these turns was Idle
abbrev pub AreIdle : List Turn → Type 0
AreIdle answers = All (λ (answer : Turn). answer ≡ Idle) answers

-- fewer than so many turns were Idle, and then came one with this answer
pub record IsStretch (count : ℕ) (answer : Turn) (answers : List Turn) : Type 0 where
  pub idle : List Turn
  pub is : answers ≡ idle ++ answer ∷ []
  pub few : length idle < count
  pub are_idle : AreIdle idle

-- so many turns were Idle
pub record AreAllIdle (count : ℕ) (answers : List Turn) : Type 0 where
  pub many : length answers ≡ count
  pub are_idle : AreIdle answers

-- a stretch that ended with a task that ran
abbrev pub HasRun : ℕ → List Turn → Type 0
HasRun count answers = (task : ℕ) × IsStretch count (Ran task) answers

-- stretches one after the other
abbrev pub joined : List (List Turn) → List Turn
joined stretches = flat_map (λ (stretch : List Turn). stretch) stretches

-- the turns of a worker until it stops: stretches that each ended with a task that ran, and then one that ended with Over, or so many turns that were Idle
pub record UntilStop (count : ℕ) (answers : List Turn) : Type 0 where
  pub stretches : List (List Turn)
  pub last : List Turn
  pub is : answers ≡ joined stretches ++ last
  pub each : All (HasRun count) stretches
  pub ended : IsStretch count Over last ⊎ AreAllIdle count last

-- the worker stopped
pub record Worked {P : Type 0} (shape : Shape) (queues : QueuesView) (count : ℕ) (before after : WorkerView P) : Type 0 where
  pub answers : List Turn
  pub turns : AreTurns shape queues answers before after
  pub stopped : UntilStop count answers
