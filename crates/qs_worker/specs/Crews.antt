-- The workers of a table and its queues, and what they start with.
use Rattle.std.specs.Prelude.{◌≡◌, ◌==◌, ◌&&◌, ℕ, ◌%◌, ◌<◌, List, Some, filter, length, map, slice_get}
use Rattle.std.specs.List.{range_with_len}
use Rattle.qs_core.specs.Shape.{Shape, edges_into}
use Rattle.qs_table.specs.Seats.{IsSeatOf, TableView, TokenView}
use Rattle.qs_queues.specs.Seats.{QueuesView}
use Rattle.qs_queues.specs.Seats as queue
use Rattle.qs_worker.specs.Turns.{WorkerView}

-- the seats of workers
abbrev pub lock_seats_of : {P : Type 0} → List (WorkerView P) → List (TokenView P)
lock_seats_of {P} workers = map (λ (w : WorkerView P). w.lock_seat) workers

abbrev pub queue_seats_of : {P : Type 0} → List (WorkerView P) → List queue.QueueTokenView
queue_seats_of {P} workers = map (λ (w : WorkerView P). w.queue_seat) workers

-- of the tasks below a number those that wait for no other and have this remainder by the number of workers
abbrev pub firsts_below : Shape → ℕ → ℕ → ℕ → List ℕ
firsts_below shape workers number count = filter (λ task. (edges_into shape task == 0) && (task % workers == number)) (range_with_len 0 count)

-- of all tasks
abbrev pub firsts_of : Shape → ℕ → ℕ → List ℕ
firsts_of shape workers number = firsts_below shape workers number (length shape.tasks)

-- a worker on each seat of the table and of the queues: in order, with numbers from 0, and with the first tasks of its number ready
pub record IsNewCrew {P : Type 0} (shape : Shape) (seats : List (TokenView P)) (queue_seats : List queue.QueueTokenView) (workers : List (WorkerView P)) : Type 0 where
  pub on_seats : lock_seats_of workers ≡ seats
  pub on_queue_seats : queue_seats_of workers ≡ queue_seats
  pub numbered : (k : ℕ) (w : WorkerView P) → slice_get workers k ≡ Some w → w.number ≡ k
  pub ready : (k : ℕ) (w : WorkerView P) → slice_get workers k ≡ Some w → w.ready ≡ firsts_of shape (length seats) k

-- the worker has a seat of the table and one of the queues, and its number is that of a queue
pub record IsOn {P : Type 0} (table : TableView P) (queues : QueuesView) (worker : WorkerView P) : Type 0 where
  pub lock_seat : IsSeatOf table worker.lock_seat
  pub queue_seat : queue.IsQueueSeatOf queues worker.queue_seat
  pub number : worker.number < queues.queues
