-- New seats of a table: workers may be made on them, and the table may be closed with the seats that workers give back.
use Rattle.std.proofs.Common.{◌≡◌, ◌<◌, ◌≤◌, ℕ, List, [], ◌∷◌, ◌++◌, All, Some, length, get_or, refl, sym, ap, ◌∙◌, subst, arith}
use Rattle.std.proofs.lemmas.List.Elements.{All-cons, All-nil}
use Rattle.qs_core.specs.Core.{empty_view}
use Rattle.qs_table.specs.declared.view.SeatView.{SeatView}
use Rattle.qs_table.specs.Seats.{IsIdle, IsIdleSeat, IsNewSeat, IsSeatOf, TableView, TokenView}
use Rattle.qs_queues.specs.Seats.{QueuesView}
use Rattle.qs_queues.specs.Seats as queue
use Rattle.qs_worker.specs.Crews.{IsOn, lock_seats_of}
use Rattle.qs_worker.specs.Turns.{WorkerView}
use Rattle.qs_worker.proofs.Crews.{length-lock_seats, lock_seats_are_on}

-- as many seats come back as there are workers
pub as_many_back : {P : Type 0} (workers : List (WorkerView P)) (seats : List (TokenView P)) → seats ≡ lock_seats_of workers → length seats ≡ length workers
as_many_back workers seats are = ap length are ∙ length-lock_seats workers

module _ {P : Type 0} (table : TableView P) where
  -- new seats have the plan of their table
  pub are_planned : (plan : P) (seats : List (TokenView P)) → plan ≡ table.plan → All (λ s. IsNewSeat table s) seats → All (λ s. s.plan ≡ Some plan) seats
  are_planned plan seats e new = λ k d l. (new k d l).of_table.plan_is ∙ ap Some (sym e)

  -- and hold nothing
  pub are_at_rest : (seats : List (TokenView P)) → All (λ s. IsNewSeat table s) seats → All (λ s. s.view.holds ≡ empty_view) seats
  are_at_rest seats new = λ k d l. ap (λ (v : SeatView). v.holds) (new k d l).fresh

  idle_at_rest : (seat : TokenView P) → IsSeatOf table seat → seat.view.holds ≡ empty_view → IsIdleSeat table seat
  idle_at_rest seat of rests = record { of_table = of; idle = subst IsIdle (sym rests) (record { owns_none = refl; runs_none = refl }) }

  pub one_is_idle : (seats : List (TokenView P)) (seat : TokenView P) → seats ≡ seat ∷ [] → IsSeatOf table seat → seat.view.holds ≡ empty_view → All (λ s. IsIdleSeat table s) seats
  one_is_idle seats seat are of rests = subst (All (IsIdleSeat table)) (sym are) (All-cons (IsIdleSeat table) seat [] (idle_at_rest seat of rests) (All-nil (IsIdleSeat table)))

  -- so do those that workers give back
  pub back_are_idle : (queues : QueuesView) (workers : List (WorkerView P)) (seats : List (TokenView P)) → All (λ w. IsOn table queues w) workers → seats ≡ lock_seats_of workers → All (λ s. s.view.holds ≡ empty_view) seats
      → All (λ s. IsIdleSeat table s) seats
  back_are_idle queues workers seats on are rest =
      let of = subst (All (λ s. IsSeatOf table s)) (sym are) (lock_seats_are_on table queues workers on) in λ k d l. idle_at_rest (get_or seats k d) (of k d l) (rest k d l)

  -- a worker that was made with the number of a queue
  pub made_is_on : (queues : QueuesView) (number : ℕ) (seat : TokenView P) (queue_seat : queue.QueueTokenView) (made : WorkerView P) → IsNewSeat table seat → queue.IsQueueSeatOf queues queue_seat → number < queues.queues
      → made ≡ record { number = number; lock_seat = seat; queue_seat = queue_seat; ready = [] } → IsOn table queues made
  made_is_on queues number seat queue_seat made new of low is = subst (IsOn table queues) (sym is) (record { lock_seat = new.of_table; queue_seat = of; number = low })

  -- one that was made with the number 0 and got a task
  pub one_is_on : (queues : QueuesView) (seat : TokenView P) (queue_seat : queue.QueueTokenView) (made worker : WorkerView P) → IsNewSeat table seat → queue.IsQueueSeatOf queues queue_seat → 1 ≤ queues.queues
      → made ≡ record { number = 0; lock_seat = seat; queue_seat = queue_seat; ready = [] } → worker ≡ record made { ready = made.ready ++ 0 ∷ [] } → IsOn table queues worker
  one_is_on queues seat queue_seat made worker new of some is more =
      subst (IsOn table queues) (sym (more ∙ ap (λ (w : WorkerView P). record w { ready = w.ready ++ 0 ∷ [] }) is)) (record { lock_seat = new.of_table; queue_seat = of; number = omega (arith, some) })

  -- one that kept its number
  pub still_on : (queues : QueuesView) (before after : WorkerView P) → IsOn table queues before → after.number ≡ before.number → IsSeatOf table after.lock_seat → queue.IsQueueSeatOf queues after.queue_seat → IsOn table queues after
  still_on queues before after on same of of' = record { lock_seat = of; queue_seat = of'; number = (let low = on.number in omega (arith, same, low)) }
