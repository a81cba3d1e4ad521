-- A seat after its step, and tokens with what they keep of it.
use Rattle.std.proofs.Common.{◌≡◌, ◌≢◌, ◌==◌, ne_eqb, ℕ, ◌<◌, List, [], ◌∷◌, map, length, All, Contains, Option, Some, None, refl, sym, ap, ◌∙◌, subst}
use Rattle.std.proofs.lemmas.Bool.{cond-false}
use Rattle.std.proofs.lemmas.List.Elements.{All-nil, All-tail}
use Rattle.std.proofs.lemmas.Option.{none-some, same_Some}
use Rattle.atomic_table.specs.Table.{Me}
use Rattle.atomic_table.specs.Table as table
use Rattle.lists.proofs.Elements.{Contains-nil}
use Rattle.atomic_table.specs.declared.shared.Seat.{Seat}
use Rattle.qs_core.specs.declared.event.Step.TheVariants.{Claim}
use Rattle.qs_core.specs.Shape.{Shape, task_at}
use Rattle.qs_core.specs.Core.{Chain, Running, View, empty_view}
use Rattle.qs_core.specs.Steps.{CanFetch, CanRelease, after_return, rest, started, unless_over, without}
use Rattle.qs_table.specs.declared.seat.Cells.{Cells}
use Rattle.qs_table.specs.declared.view.Bundle.{Bundle}
use Rattle.qs_table.specs.declared.view.SeatView.{SeatView}
use Rattle.qs_table.specs.Seats.{CanGive, IsIdle, TableView}
use Rattle.qs_table.specs.Tries.{Gave, owned_chain}
use Rattle.qs_table.specs.Views.{alone, knows_after, knows_fetched, knows_returned}
use Rattle.qs_table.specs.inner.Plays.{seat_in}
use Rattle.qs_table.specs.inner.Tokens.{IsToken, RunsAll, Sits, cells_of}

rest_map : {X Y : Type 0} (f : X → Y) (xs : List X) → rest (map f xs) ≡ map f (rest xs)
rest_map f [] = refl
rest_map f (x ∷ xs) = refl

rest_all : (Q : ℕ → Type 0) (xs : List ℕ) → All Q xs → All Q (rest xs)
rest_all Q [] a = All-nil Q
rest_all Q (x ∷ xs) a = All-tail Q x xs a

-- a list has one front, and goes on with the rest
abbrev front_of : {S : Type 0} → S → List (ℕ × S) → S
front_of d [] = d
front_of d (x ∷ xs) = x.1

pub same_front : {S : Type 0} (l : List (ℕ × S)) (k : ℕ) (x y : S) (xs ys : List (ℕ × S)) → l ≡ (k, x) ∷ xs → l ≡ (k, y) ∷ ys → x ≡ y
same_front l k x y xs ys p q = ap (front_of y) (sym p ∙ q)

pub front_and_rest : {S : Type 0} (l : List (ℕ × S)) (k : ℕ) (x : S) (xs : List (ℕ × S)) → l ≡ (k, x) ∷ xs → l ≡ (k, x) ∷ table.rest l
front_and_rest l k x xs p = p ∙ ap (λ (r : List (ℕ × _)). (k, x) ∷ r) (sym (ap table.rest p))

-- a task that isn't over has what is left
unless_kept : (task : ℕ) (leaves successors : List ℕ) (running : Running) → unless_over task leaves successors ≡ Some running → record { task = task; leaves = leaves; successors = successors } ≡ running
unless_kept task [] [] running e = absurd (none-some running e)
unless_kept task (l ∷ ls) ss running e = same_Some _ running e
unless_kept task [] (s ∷ ss) running e = same_Some _ running e

-- what runs after a return ran before it
still_runs : (o : Option Running) (leaf : ℕ) (running : Running) → after_return o leaf ≡ Some running → (was : Running) × (o ≡ Some was) × (running.task ≡ was.task) × (running.successors ≡ was.successors)
still_runs None leaf running e = absurd (none-some running e)
still_runs (Some was) leaf running e =
    let q = unless_kept was.task (without leaf was.leaves) was.successors running e in
    (was, refl, sym (ap (λ (r : Running). r.task) q), sym (ap (λ (r : Running). r.successors) q))

-- a claim that saw another word than 0 leaves what is held
pub asked_holds : (shape : Shape) (v : SeatView) (task seen : ℕ) → seen ≢ 0 → (knows_after shape v (Claim task) seen).holds ≡ v.holds
asked_holds shape v task seen n = cond-false (seen == 0) (record v.holds { running = Some (started shape task) }) v.holds (ne_eqb seen 0 n)

module _ {S P : Type 0} where
  -- a seat that knows something else, alone in its bundle
  pub sits_after : (table : TableView P) (seat after : Seat S (Bundle P)) (w : SeatView) (slots : List (ℕ × S)) → Sits table seat → after.table_id ≡ seat.table_id → after.me ≡ (alone table.plan w, slots) → Sits table after
  sits_after table seat after w slots s same made = record {
    same = same ∙ s.same;
    alone_is = subst (λ (m : Me S (Bundle P)). m.0 ≡ alone table.plan (seat_in m.0)) (sym made) refl;
  }

  pub knows_is : (plan : P) (me : Me S (Bundle P)) (w : SeatView) (slots : List (ℕ × S)) → me ≡ (alone plan w, slots) → seat_in me.0 ≡ w
  knows_is plan me w slots made = ap (λ (m : Me S (Bundle P)). seat_in m.0) made

  -- a token's seat has the token's plan
  pub same_plan : (shape : P → Shape) (me : Me S (Bundle P)) (cells : Cells) (task : ℕ) (plan : P) → (t : IsToken shape me cells task) → me.0.plan ≡ Some plan → t.plan ≡ plan
  same_plan shape me cells task plan t is = same_Some t.plan plan (sym (ap (λ (b : Bundle P). b.plan) t.alone_is) ∙ is)

  -- a token that gave its newest cell back
  pub token_gave : (shape : P → Shape) (me me' : Me S (Bundle P)) (cells left : Cells) (task : ℕ) (plan : P) (t : IsToken shape me cells task) → t.plan ≡ plan → me'.0 ≡ alone plan (seat_in me'.0) → me'.1 ≡ me.1
      → CanGive (seat_in me.0).holds → Gave (seat_in me.0) (seat_in me'.0) → cells_of left ≡ rest (cells_of cells) → IsToken shape me' left task
  token_gave shape me me' cells left task plan t same alone_is slots can gave is = record {
    plan = t.plan;
    alone_is = alone_is ∙ ap (λ (p : P). alone p (seat_in me'.0)) (sym same);
    chains =
        ap (λ (w : View). w.chains) gave.steps.holds
        ∙ ap rest t.chains
        ∙ rest_map (owned_chain (shape t.plan)) (cells_of cells)
        ∙ ap (map (owned_chain (shape t.plan))) (sym is);
    within = subst (All (λ (c : ℕ). c < length (shape t.plan).parents)) (sym is) (rest_all (λ (c : ℕ). c < length (shape t.plan).parents) (cells_of cells) t.within);
    slots = slots ∙ t.slots;
    hand = gave.steps.hand ∙ t.hand;
    home = λ none. ap (λ (w : View). w.out) gave.steps.holds ∙ can.none_out;
    runs = λ running e. t.runs running (sym (ap (λ (w : View). w.running) gave.steps.holds) ∙ e);
  }

  -- a token with no cell, which runs nothing, holds nothing
  pub idle_is_empty : (shape : P → Shape) (me : Me S (Bundle P)) (cells : Cells) (task : ℕ) → IsToken shape me cells task → IsIdle (seat_in me.0).holds → (seat_in me.0).holds ≡ empty_view
  idle_is_empty shape me cells task t idle = λ i. record { chains = idle.owns_none i; out = t.home idle.owns_none i; running = idle.runs_none i }

  -- a token's seat is alone with what the token knows
  pub alone_as : (shape : P → Shape) (me : Me S (Bundle P)) (cells : Cells) (task : ℕ) (plan : P) (v : SeatView) → IsToken shape me cells task → me.0.plan ≡ Some plan → seat_in me.0 ≡ v → me.0 ≡ alone plan v
  alone_as shape me cells task plan v t is view_is = t.alone_is ∙ λ i. alone (same_plan shape me cells task plan t is i) (view_is i)

  -- a token that fetched a leaf, and one that returned a leaf
  pub token_fetched : (shape : P → Shape) (me me' : Me S (Bundle P)) (cells : Cells) (task : ℕ) (plan : P) (leaf : ℕ) (done : List ℕ) (t : IsToken shape me cells task) → t.plan ≡ plan → me'.0 ≡ alone plan (seat_in me'.0) → me'.1 ≡ []
      → CanFetch (shape plan) (seat_in me.0).holds leaf → seat_in me'.0 ≡ knows_fetched (shape plan) (seat_in me.0) leaf done None → IsToken shape me' cells task
  token_fetched shape me me' cells task plan leaf done t same alone_is slots can knows = record {
    plan = t.plan;
    alone_is = alone_is ∙ ap (λ (p : P). alone p (seat_in me'.0)) (sym same);
    chains = ap (λ (v : SeatView). v.holds.chains) knows ∙ t.chains;
    within = t.within;
    slots = slots;
    hand = ap (λ (v : SeatView). v.hand) knows;
    home = λ none. absurd (Contains-nil can.above.owned.chain (subst (λ (cs : List Chain). Contains cs can.above.owned.chain) (sym (ap (λ (v : SeatView). v.holds.chains) knows) ∙ none) can.above.owned.stands));
    runs = λ running e. t.runs running (sym (ap (λ (v : SeatView). v.holds.running) knows) ∙ e);
  }

  pub token_returned : (shape : P → Shape) (me me' : Me S (Bundle P)) (cells : Cells) (task : ℕ) (plan : P) (leaf : ℕ) (t : IsToken shape me cells task) → t.plan ≡ plan → me'.0 ≡ alone plan (seat_in me'.0) → me'.1 ≡ []
      → seat_in me'.0 ≡ knows_returned (shape plan) (seat_in me.0) leaf → IsToken shape me' cells task
  token_returned shape me me' cells task plan leaf t same alone_is slots knows = record {
    plan = t.plan;
    alone_is = alone_is ∙ ap (λ (p : P). alone p (seat_in me'.0)) (sym same);
    chains = ap (λ (v : SeatView). v.holds.chains) knows ∙ t.chains;
    within = t.within;
    slots = slots;
    hand = ap (λ (v : SeatView). v.hand) knows;
    home = λ none. ap (λ (v : SeatView). v.holds.out) knows ∙ ap (without leaf) (t.home (sym (ap (λ (v : SeatView). v.holds.chains) knows) ∙ none));
    runs = λ running e.
        let q = still_runs (seat_in me.0).holds.running leaf running (sym (ap (λ (v : SeatView). v.holds.running) knows) ∙ e) in
        let was = t.runs q.0 q.1 in
        record { is_task = was.is_task; of_task = q.2 ∙ was.of_task; successors = q.3 ∙ was.successors };
  }

  -- a token that claimed a task, one that didn't, and one whose task is over
  pub token_claimed : (shape : P → Shape) (me me' : Me S (Bundle P)) (cells : Cells) (task : ℕ) (plan : P) (claimed : ℕ) (t : IsToken shape me cells task) → t.plan ≡ plan → me'.0 ≡ alone plan (seat_in me'.0) → me'.1 ≡ me.1
      → claimed < length (shape plan).tasks → seat_in me'.0 ≡ knows_after (shape plan) (seat_in me.0) (Claim claimed) 0 → IsToken shape me' cells claimed
  token_claimed shape me me' cells task plan claimed t same alone_is slots within knows = record {
    plan = t.plan;
    alone_is = alone_is ∙ ap (λ (p : P). alone p (seat_in me'.0)) (sym same);
    chains = ap (λ (v : SeatView). v.holds.chains) knows ∙ t.chains;
    within = t.within;
    slots = slots ∙ t.slots;
    hand = ap (λ (v : SeatView). v.hand) knows ∙ t.hand;
    home = λ none. ap (λ (v : SeatView). v.holds.out) knows ∙ t.home (sym (ap (λ (v : SeatView). v.holds.chains) knows) ∙ none);
    runs = λ running e.
        let q = same_Some (started (shape plan) claimed) running (sym (ap (λ (v : SeatView). v.holds.running) knows) ∙ e) in
        subst (λ (p : P). RunsAll (shape p) claimed running) (sym same) (subst (RunsAll (shape plan) claimed) q (record { is_task = within; of_task = refl; successors = refl }));
  }

  pub token_asked : (shape : P → Shape) (me me' : Me S (Bundle P)) (cells : Cells) (task : ℕ) (plan : P) (asked seen : ℕ) (t : IsToken shape me cells task) → t.plan ≡ plan → me'.0 ≡ alone plan (seat_in me'.0) → me'.1 ≡ me.1
      → seen ≢ 0 → seat_in me'.0 ≡ knows_after (shape plan) (seat_in me.0) (Claim asked) seen → IsToken shape me' cells task
  token_asked shape me me' cells task plan asked seen t same alone_is slots n knows =
      let holds : (seat_in me'.0).holds ≡ (seat_in me.0).holds = ap (λ (v : SeatView). v.holds) knows ∙ asked_holds (shape plan) (seat_in me.0) asked seen n in
      record {
        plan = t.plan;
        alone_is = alone_is ∙ ap (λ (p : P). alone p (seat_in me'.0)) (sym same);
        chains = ap (λ (w : View). w.chains) holds ∙ t.chains;
        within = t.within;
        slots = slots ∙ t.slots;
        hand = ap (λ (v : SeatView). v.hand) knows ∙ t.hand;
        home = λ none. ap (λ (w : View). w.out) holds ∙ t.home (sym (ap (λ (w : View). w.chains) holds) ∙ none);
        runs = λ running e. t.runs running (sym (ap (λ (w : View). w.running) holds) ∙ e);
      }

  pub token_over : (shape : P → Shape) (me me' : Me S (Bundle P)) (cells : Cells) (task : ℕ) (plan : P) (t : IsToken shape me cells task) → t.plan ≡ plan → me'.0 ≡ alone plan (seat_in me'.0) → me'.1 ≡ me.1
      → (seat_in me'.0).holds ≡ record (seat_in me.0).holds { running = None } → (seat_in me'.0).hand ≡ (seat_in me.0).hand → IsToken shape me' cells task
  token_over shape me me' cells task plan t same alone_is slots holds hand = record {
    plan = t.plan;
    alone_is = alone_is ∙ ap (λ (p : P). alone p (seat_in me'.0)) (sym same);
    chains = ap (λ (w : View). w.chains) holds ∙ t.chains;
    within = t.within;
    slots = slots ∙ t.slots;
    hand = hand ∙ t.hand;
    home = λ none. ap (λ (w : View). w.out) holds ∙ t.home (sym (ap (λ (w : View). w.chains) holds) ∙ none);
    runs = λ running e. absurd (none-some running (sym (ap (λ (w : View). w.running) holds) ∙ e));
  }

  -- the task of a token runs with all its successors left, where they may be released
  pub runs_whole : (shape : P → Shape) (me : Me S (Bundle P)) (cells : Cells) (task : ℕ) (plan : P) (v : SeatView) (t : IsToken shape me cells task) → t.plan ≡ plan → seat_in me.0 ≡ v → CanRelease v.holds
      → ((seat_in me.0).holds.running ≡ Some (record { task = task; leaves = []; successors = (task_at (shape plan) task).successors })) × (task < length (shape plan).tasks)
  runs_whole shape me cells task plan v t same view_is can =
      let runs : (seat_in me.0).holds.running ≡ Some can.running = ap (λ (w : SeatView). w.holds.running) view_is ∙ can.runs in
      let all = t.runs can.running runs in
      let successors : can.running.successors ≡ (task_at (shape plan) task).successors = all.successors ∙ ap (λ (p : P). (task_at (shape p) task).successors) same in (
        runs ∙ λ i. Some (record { task = all.of_task i; leaves = can.returned i; successors = successors i }),
        subst (λ (p : P). task < length (shape p).tasks) same all.is_task,
      )
