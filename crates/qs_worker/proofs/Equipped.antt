-- What a worker keeps, from turn to turn.
use Rattle.std.proofs.Common.{◌≡◌, ℕ, ◌+◌, ◌*◌, ◌<◌, ◌≤◌, List, [], ◌∷◌, ◌++◌, Contains, length, Some, sym, ◌∙◌, subst, arith}
use Rattle.std.proofs.lemmas.Option.{same_Some}
use Rattle.qs_core.specs.declared.event.Note.{Note}
use Rattle.qs_core.specs.Shape.{IsShape, Shape, task_at}
use Rattle.qs_core.specs.Core.{empty_view}
use Rattle.qs_table.specs.Seats.{IsSeatOf, TableView, TokenView}
use Rattle.qs_worker.specs.ReadyLists.{IsFirstTask, IsReadyList}
use Rattle.qs_worker.specs.inner.Rooms.{HasBlockRoom, IsEquipped, IsRoom}
use Rattle.qs_worker.proofs.Freed.{few_ready, few_successors, none_ready, one_ready}

module _ {P B : Type 0} (shape : P → Shape) (table : TableView P) (seat : TokenView P) (first second : List B) (before : List ℕ) (firsts seconds tasks : ℕ) (i : IsEquipped shape seat first second before firsts seconds tasks)
    (of : IsSeatOf table seat) where
  same_plan : i.plan ≡ table.plan
  same_plan = same_Some i.plan table.plan (sym i.plan_is ∙ of.plan_is)

  -- the room and the ready list are those for the work of the table
  pub room_at : HasBlockRoom (shape table.plan) firsts seconds
  room_at = subst (λ (p : P). HasBlockRoom (shape p) firsts seconds) same_plan i.blocks_fit

  pub fit_at : 2 * length (shape table.plan).tasks ≤ tasks
  fit_at = subst (λ (p : P). 2 * length (shape p).tasks ≤ tasks) same_plan i.tasks_fit

  pub listed_at : IsReadyList (shape table.plan) seat.view.notes before
  listed_at = subst (λ (p : P). IsReadyList (shape p) seat.view.notes before) same_plan i.listed

  -- there is room behind the list for the tasks that wait for one
  pub spare : (notes : List Note) (kept : List ℕ) (task tasks' : ℕ) → IsShape (shape table.plan) → IsReadyList (shape table.plan) notes kept → task < length (shape table.plan).tasks → tasks' ≡ tasks
      → length kept + length (task_at (shape table.plan) task).successors ≤ tasks'
  spare notes kept task tasks' laws list l same =
      let few = few_ready (shape table.plan) notes kept list in
      let more = few_successors (shape table.plan) task laws l in
      let fit = fit_at in
      omega (arith, few, more, fit, same)

  -- what it keeps then
  pub equipped : (seat' : TokenView P) (first' second' : List B) (ready : List ℕ) (firsts' seconds' tasks' : ℕ) → IsSeatOf table seat' → seat'.view.holds ≡ empty_view → first' ≡ [] → second' ≡ [] → firsts' ≡ firsts → seconds' ≡ seconds → tasks' ≡ tasks
      → IsReadyList (shape table.plan) seat'.view.notes ready → IsEquipped shape seat' first' second' ready firsts' seconds' tasks'
  equipped seat' first' second' ready firsts' seconds' tasks' of' rests none none' same same' same'' list = record {
    rests = rests;
    plan = table.plan;
    plan_is = of'.plan_is;
    first_empty = none;
    second_empty = none';
    blocks_fit = subst (λ (n : ℕ × ℕ). HasBlockRoom (shape table.plan) n.0 n.1) (λ k. (sym same k, sym same' k)) room_at;
    tasks_fit = (let fit = fit_at in omega arith);
    listed = list;
  }

-- with a first task more
pub with_ready : {P B : Type 0} (shape : P → Shape) (seat : TokenView P) (first second : List B) (before : List ℕ) (firsts seconds tasks : ℕ) (i : IsEquipped shape seat first second before firsts seconds tasks) (task : ℕ) → IsFirstTask (shape i.plan) task
    → (Contains before task → ⊥) → (ready : List ℕ) (tasks' : ℕ) → ready ≡ before ++ task ∷ [] → tasks' ≡ tasks → IsEquipped shape seat first second ready firsts seconds tasks'
with_ready shape seat first second before firsts seconds tasks i task is new ready tasks' more same = record {
  rests = i.rests;
  plan = i.plan;
  plan_is = i.plan_is;
  first_empty = i.first_empty;
  second_empty = i.second_empty;
  blocks_fit = i.blocks_fit;
  tasks_fit = (let fit = i.tasks_fit in omega arith);
  listed = subst (IsReadyList (shape i.plan) seat.view.notes) (sym more) (one_ready (shape i.plan) seat.view.notes before task i.listed is new);
}

-- a worker that was made
pub furnished : {P B : Type 0} (shape : P → Shape) (plan : P) (seat : TokenView P) (first second : List B) (ready : List ℕ) (firsts seconds tasks : ℕ) → IsRoom (shape plan) first second ready firsts seconds tasks → seat.plan ≡ Some plan → seat.view.holds ≡ empty_view
    → IsEquipped shape seat first second ready firsts seconds tasks
furnished shape plan seat first second ready firsts seconds tasks r is rests = record {
  rests = rests;
  plan = plan;
  plan_is = is;
  first_empty = r.first_empty;
  second_empty = r.second_empty;
  blocks_fit = r.blocks_fit;
  tasks_fit = r.tasks_fit;
  listed = subst (IsReadyList (shape plan) seat.view.notes) (sym r.ready_empty) (none_ready (shape plan) seat.view.notes);
}
