-- The family with all three tasks, as the tests have it.
use Rattle.std.proofs.Common.{◌≡◌, ℕ, true, List, [], Contains, length, Some, refl, sym, ap, ◌∙◌, subst, arith}
use Rattle.lists.proofs.Elements.{Contains-nil}
use Rattle.qs_family.specs.declared.family.Family.{Family}
use Rattle.qs_core.specs.Shape.{Shape}
use Rattle.qs_family.specs.Family.{family}
use Rattle.qs_table.specs.Seats.{IsNewSeat, TableView, TokenView}
use Rattle.qs_queues.specs.Seats as queue
use Rattle.qs_worker.specs.ReadyLists.{IsFirstTask}
use Rattle.qs_worker.specs.Turns.{WorkerView}
use Rattle.qs_worker.proofs.Sharing.{first_of}

abbrev pub three : Family
three = record { has_tasks = true; has_third = true }

abbrev pub shape_of : Family → Shape
shape_of f = family f.has_tasks f.has_third

pub tasks_are : (plan : Family) → plan ≡ three → (n : ℕ) → n ≡ 3 → n ≡ length (shape_of plan).tasks
tasks_are plan is n same = same ∙ sym (ap (λ (f : Family). length (shape_of f).tasks) is)

pub shape_is : (plan : Family) (shape : Shape) → plan ≡ three → shape ≡ shape_of plan → shape ≡ family true true
shape_is plan shape is same = same ∙ ap shape_of is

-- its first task waits for no other
first_task : IsFirstTask (family true true) 0
first_task = record { is_task = omega arith; no_edge = refl }

module _ (table : TableView Family) (seat : TokenView Family) (queue_seat : queue.QueueTokenView) (made : WorkerView Family) (is : made ≡ record { number = 0; lock_seat = seat; queue_seat = queue_seat; ready = [] }) where
  pub may_start : IsNewSeat table seat → table.plan ≡ three → (plan : Family) → made.lock_seat.plan ≡ Some plan → IsFirstTask (shape_of plan) 0
  may_start new of = first_of shape_of 0 three made.lock_seat.plan (ap (λ (w : WorkerView Family). w.lock_seat.plan) is ∙ new.of_table.plan_is ∙ ap Some of) first_task

  pub starts_empty : Contains made.ready 0 → ⊥
  starts_empty c = Contains-nil 0 (subst (λ (ready : List ℕ). Contains ready 0) (ap (λ (w : WorkerView Family). w.ready) is) c)
