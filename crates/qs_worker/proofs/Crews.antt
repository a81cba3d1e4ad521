-- What is known of workers by the seats that they stand on.
use Rattle.std.proofs.Common.{◌≡◌, List, [], ◌∷◌, All, length, map, get_or, sym, ap, ◌∙◌, subst, arith}
use Rattle.std.proofs.lemmas.List.{length-map}
use Rattle.std.proofs.lemmas.List.Elements.{All-cons, All-head, All-map, All-nil, All-tail, All-weaker}
use Rattle.std.proofs.lemmas.Option.{slice_get-get_or}
use Rattle.qs_core.specs.Shape.{Shape}
use Rattle.qs_table.specs.Seats.{IsNewSeat, IsSeatOf, TableView, TokenView}
use Rattle.qs_queues.specs.Seats.{QueuesView}
use Rattle.qs_queues.specs.Seats as queue
use Rattle.qs_worker.specs.Crews.{IsNewCrew, IsOn, lock_seats_of}
use Rattle.qs_worker.specs.Turns.{WorkerView}

-- what holds of each element of a map
pub All-unmap : {X Y : Type 0} (P : Y → Type 0) (f : X → Y) (xs : List X) → All P (map f xs) → All (λ x. P (f x)) xs
All-unmap P f [] all = All-nil (λ x. P (f x))
All-unmap P f (x ∷ xs) all = All-cons (λ x. P (f x)) x xs (All-head P (f x) (map f xs) all) (All-unmap P f xs (All-tail P (f x) (map f xs) all))

-- as many workers as seats
pub length-lock_seats : {P : Type 0} (workers : List (WorkerView P)) → length (lock_seats_of workers) ≡ length workers
length-lock_seats workers = length-map workers (λ (w : WorkerView _). w.lock_seat)

pub length-new_crew : {P : Type 0} (shape : Shape) (seats : List (TokenView P)) (queue_seats : List queue.QueueTokenView) (workers : List (WorkerView P)) → IsNewCrew shape seats queue_seats workers → length workers ≡ length seats
length-new_crew shape seats queue_seats workers crew = sym (length-lock_seats workers) ∙ ap length crew.on_seats

module _ {P : Type 0} (table : TableView P) (queues : QueuesView) where
  -- a new crew on new seats, one for each queue
  pub new_crew_is_on : (shape : Shape) (seats : List (TokenView P)) (queue_seats : List queue.QueueTokenView) (workers : List (WorkerView P)) → IsNewCrew shape seats queue_seats workers
      → All (λ s. IsNewSeat table s) seats → All (λ s. queue.IsNewSeat queues s) queue_seats → length seats ≡ queues.queues → All (λ w. IsOn table queues w) workers
  new_crew_is_on shape seats queue_seats workers crew new new' as_many k d within =
      let locks : IsNewSeat table (get_or workers k d).lock_seat = All-unmap (IsNewSeat table) (λ (w : WorkerView P). w.lock_seat) workers (subst (All (IsNewSeat table)) (sym crew.on_seats) new) k d within in
      let scans : queue.IsNewSeat queues (get_or workers k d).queue_seat = All-unmap (queue.IsNewSeat queues) (λ (w : WorkerView P). w.queue_seat) workers (subst (All (queue.IsNewSeat queues)) (sym crew.on_queue_seats) new') k d within in
      let is = crew.numbered k (get_or workers k d) (slice_get-get_or workers k d within) in
      let count = length-new_crew shape seats queue_seats workers crew in
      record { lock_seat = locks.of_table; queue_seat = scans.of_queues; number = omega (arith, is, count, as_many, within) }

  -- the seats of such workers at the table
  pub lock_seats_are_on : (workers : List (WorkerView P)) → All (λ w. IsOn table queues w) workers → All (λ s. IsSeatOf table s) (lock_seats_of workers)
  lock_seats_are_on workers on = All-map (IsSeatOf table) (λ (w : WorkerView P). w.lock_seat) workers (All-weaker (IsOn table queues) (λ (w : WorkerView P). IsSeatOf table w.lock_seat) (λ w o. o.lock_seat) workers on)
