-- What a turn says, by the notes that the worker's two seats got in it.
use Rattle.std.specs.Prelude.{◌≡◌, ◌≢◌, ℕ, ◌+◌, ◌<◌, List, [], ◌∷◌, ◌++◌, count_by, length}
use Rattle.qs_core.specs.declared.event.Note.{Note}
use Rattle.qs_core.specs.Shape.{Shape, task_at}
use Rattle.qs_core.specs.Core.{empty_view}
use Rattle.qs_table.specs.Claims.{AreReleasesOf, freed_in}
use Rattle.qs_table.specs.Notes.{claims_task}
use Rattle.qs_table.specs.Seats.{TokenView}
use Rattle.qs_heap.specs.declared.entry.Entry.{Entry}
use Rattle.qs_heap.specs.Entries.{entry_of}
use Rattle.qs_queues.specs.declared.view.QueueNote.{QueueNote}
use Rattle.qs_queues.specs.declared.view.QueueNote.TheVariants.{Loaded}
use Rattle.qs_queues.specs.Seats.{QueuesView}
use Rattle.qs_queues.specs.Seats as queue
use Rattle.qs_worker.specs.declared.turn.Turn.{Turn}
use Rattle.qs_worker.specs.declared.turn.Turn.TheVariants.{Over, Ran, Idle}
use Rattle.qs_worker.specs.Claims.{claimed_in}
use Rattle.qs_worker.specs.Rounds.{FoundNone, FoundOne}
use Rattle.qs_worker.specs.Offers.{ArePushed}
use Rattle.qs_worker.specs.Refusals.{WasRefused}

-- what a worker is seen as: its number, its two seats and its ready list
pub record WorkerView (P : Type 0) : Type 0 where
  pub number : ℕ
  pub lock_seat : TokenView P
  pub queue_seat : queue.QueueTokenView
  pub ready : List ℕ

-- a task with its weight
abbrev pub entry_in : Shape → ℕ → Entry
entry_in shape task = entry_of (task_at shape task).weight task

-- just one of these notes claims a task: this one, which the seat hadn't claimed before; and the last notes release those that wait for it, once each, in order
pub record WasDone (shape : Shape) (task : ℕ) (before locks : List Note) : Type 0 where
  pub is_task : task < length shape.tasks
  pub new : count_by (claims_task task) before ≡ 0
  pub claimed : claimed_in locks ≡ task ∷ []
  pub others : List Note
  pub releases : List Note
  pub is : locks ≡ others ++ releases
  pub released : AreReleasesOf releases (task_at shape task).successors

-- how a turn ended, whose load saw so many tasks left: by the notes of the lock seat, those of the scans, and how often the tasks left were lowered
abbrev pub Ends : Shape → ℕ → ℕ → List Note → Turn → ℕ → List Note → List QueueNote → ℕ → Type 0
Ends shape queues own before Over left locks looks less = (left ≡ 0) × (locks ≡ []) × (looks ≡ []) × (less ≡ 0)
Ends shape queues own before Idle left locks looks less = (left ≢ 0) × FoundNone (WasRefused shape locks) queues own looks × (claimed_in locks ≡ []) × (less ≡ 0)
Ends shape queues own before (Ran task) left locks looks less = (left ≢ 0) × FoundOne (WasRefused shape locks) queues own task looks × WasDone shape task before locks × (less ≡ 1)

-- what a turn says: its pushes, its load, its scans, and of a task that it ran the claim and the releases. What is left of the ready list stays, and behind it come the tasks that the releases took to 0
pub record Turned {P : Type 0} (shape : Shape) (queues : QueuesView) (answer : Turn) (before after : WorkerView P) : Type 0 where
  pub number : after.number ≡ before.number
  pub place : after.lock_seat.view.place ≡ before.lock_seat.view.place
  pub rests : after.lock_seat.view.holds ≡ empty_view
  pub locks : List Note
  pub lock_notes : after.lock_seat.view.notes ≡ before.lock_seat.view.notes ++ locks
  pub pushes : List QueueNote
  pub left : ℕ
  pub looks : List QueueNote
  pub queue_notes : after.queue_seat.view.notes ≡ before.queue_seat.view.notes ++ (pushes ++ Loaded left ∷ looks)
  pub less : ℕ
  pub subtractions : after.queue_seat.view.subtractions ≡ before.queue_seat.view.subtractions + less
  pub kept : List ℕ
  pub pushed : ArePushed queues.room queues.queues before.number (entry_in shape) before.ready kept pushes
  pub ready : after.ready ≡ kept ++ freed_in locks
  pub ends : Ends shape queues.queues before.number before.lock_seat.view.notes answer left locks looks less
