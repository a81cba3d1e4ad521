-- A seat that does one of the first two tasks of the family, step by step: both are on cell 2, which has leaf 0 alone.
use Rattle.std.proofs.Common.{◌≡◌, ◌≢◌, ℕ, zero, suc, ◌<◌, List, [], ◌∷◌, Contains, length, slice_index_or, true, Option, Some, None, refl, sym, ap, ◌∙◌, subst, inl, inr, arith}
use Rattle.lists.proofs.Elements.{Contains-head, Contains-nil}
use Rattle.qs_core.specs.declared.event.Step.TheVariants.{Fetch, Return}
use Rattle.qs_core.specs.Shape.{Shape, leaves_of, task_at}
use Rattle.qs_core.specs.Core.{Running, View, empty_view}
use Rattle.qs_core.specs.Steps.{CanFetch, CanRelease, started, unless_over, view_after, without}
use Rattle.qs_core.specs.Blocks.{AreApplied, AreApplicable, first_leaves}
use Rattle.qs_family.specs.Family.{family}
use Rattle.qs_family.proofs.FamilyShape.{one_ready}
use Rattle.qs_table.specs.declared.view.SeatView.{SeatView}
use Rattle.qs_table.specs.Claims.{IsOver}
use Rattle.qs_table.specs.Leaves.{IsBrought, IsFetched, RunsTask}
use Rattle.qs_table.specs.Seats.{CanGive}
use Rattle.qs_table.specs.Tries.{Gave, owned_chain, without_newest}
use Rattle.qs_table.specs.Views.{knows_fetched, knows_returned}
use Rattle.qs_table.proofs.Finishes.{unless_some}
use Rattle.qs_table.proofs.TaskTries.{owned_is_complete}

abbrev three : Shape
three = family true true

leaves_are : (task : ℕ) → task < 2 → leaves_of three task ≡ 0 ∷ []
unfolding leaves_of
leaves_are zero l = refl
leaves_are (suc zero) l = refl
leaves_are (suc (suc task)) l = absurd (omega arith)

first_leaves_are : (task : ℕ) → task < 2 → first_leaves three task ≡ 0 ∷ []
first_leaves_are zero l = refl
first_leaves_are (suc zero) l = refl
first_leaves_are (suc (suc task)) l = absurd (omega arith)

-- some task waits for it
some_wait : (task : ℕ) → task < 2 → (task_at three task).successors ≢ []
some_wait zero l e = absurd (let none = ap length e in omega (arith, none))
some_wait (suc zero) l e = absurd (let none = ap length e in omega (arith, none))
some_wait (suc (suc task)) l e = absurd (omega arith)

-- the seat owns cell 2, and may run a task
abbrev owns_two : Option Running → View
owns_two running = record { chains = owned_chain three 2 ∷ []; out = []; running = running }

-- with no task running it can give the cell back, and then holds nothing
pub two_can_give : (v : SeatView) → v.holds ≡ owns_two None → CanGive v.holds
two_can_give v e = subst CanGive (sym e) (record { some = λ none. absurd (let n : 1 ≡ 0 = ap length none in omega arith); none_out = refl; returned = tt })

pub two_gave : (v end : SeatView) → v.holds ≡ owns_two None → Gave v end → end.holds ≡ empty_view
two_gave v end e gave = gave.steps.holds ∙ ap without_newest e

-- a list of one block
only_one : {B : Type 0} (blocks : List B) (d : B) → length blocks ≡ 1 → blocks ≡ slice_index_or blocks 0 d ∷ []
only_one [] d e = absurd (omega arith)
only_one (b ∷ []) d e = refl
only_one (b ∷ c ∷ bs) d e = absurd (omega arith)

module _ (shape : Shape) (of : shape ≡ three) (task : ℕ) (l : task < 2) where
  abbrev running : Running
  running = started three task

  abbrev done_running : Running
  done_running = record { task = task; leaves = []; successors = (task_at three task).successors }

  module _ (v : SeatView) (at_work : v.holds ≡ owns_two (Some running)) where
    -- its leaf may be fetched
    pub may_fetch : CanFetch shape v.holds 0
    may_fetch = subst (λ (x : Shape × View). CanFetch x.0 x.1 0) (λ i. (sym of i, sym at_work i)) (record {
      is_leaf = omega arith;
      above = record {
        cell = 2;
        owned = record { chain = owned_chain three 2; stands = Contains-head (owned_chain three 2) []; complete = owned_is_complete three 2; of_cell = refl };
        below = record { from = omega arith; to = omega arith };
      };
      home = λ c. absurd (Contains-nil 0 c);
      left = subst (λ (ls : List ℕ). Contains ls 0) (sym (leaves_are task l)) (Contains-head 0 []);
    })

    module _ {B : Type 0} (fits : ℕ → B → Type 0) (done : B → List ℕ) (all_fit : (leaf : ℕ) (b : B) → fits leaf b) (block : B) (fetched : IsFetched shape fits done v 0 block) where
      -- the task may be done on its block
      pub first_ready : AreApplicable three task fits done (first_leaves three task) (block ∷ [])
      first_ready =
          let ready = (subst (λ s. IsFetched s fits done v 0 block) of fetched).ready running (ap (λ (w : View). w.running) at_work) in
          subst (λ (ls : List ℕ). AreApplicable three task fits done ls (block ∷ [])) (sym (first_leaves_are task l)) (one_ready three fits done task (0 ∷ []) all_fit 0 block ready.not_done ready.before)

      module _ (w : SeatView) (out : w ≡ knows_fetched shape v 0 (done block) None) where
        out_holds : w.holds ≡ record (owns_two (Some running)) { out = 0 ∷ [] }
        out_holds = ap (λ (x : SeatView). x.holds) out ∙ ap (λ (x : View). view_after shape x (Fetch 0) 0) at_work

        -- and then be brought back
        pub brings : (after : List B) (d : B) → AreApplied three task fits done (first_leaves three task) (block ∷ []) after → IsBrought fits done w 0 (slice_index_or after 0 d)
        brings after d added =
            let one : 0 < length (first_leaves three task) = let many = ap length (first_leaves_are task l) in omega arith in
            let block' = slice_index_or after 0 d in
            let new = (subst (AreApplied three task fits done (first_leaves three task) (block ∷ [])) (only_one after d added.one_each) added).added 0 block one in
            let runs : w.holds.running ≡ Some running = ap (λ (x : View). x.running) out_holds in
            record {
              fitting = all_fit 0 block';
              before = done block;
              was = subst (λ (x : SeatView). Contains x.fetched (record { leaf = 0; done = done block })) (sym out) (Contains-head (record { leaf = 0; done = done block }) v.fetched);
              tasks = λ t. (
                λ c. elim ((new.tasks t).0 c) [ inl q ↦ inl q | inr q ↦ inr (subst (λ (o : Option Running). RunsTask o t) (sym runs) (sym q)) ],
                λ c. (new.tasks t).1 (elim c [ inl q ↦ inl q | inr q ↦ inr (sym (subst (λ (o : Option Running). RunsTask o t) runs q)) ]),
              );
            }

        -- its successors are to release then
        module _ (back : SeatView) (returned : back ≡ knows_returned shape w 0) where
          back_runs : back.holds ≡ owns_two (Some done_running)
          back_runs =
              ap (λ (x : SeatView). x.holds) returned
              ∙ ap (λ (x : View). view_after shape x (Return 0) 1) out_holds
              ∙ ap (λ (ls : List ℕ). owns_two (unless_over task (without 0 ls) (task_at three task).successors)) (leaves_are task l)
              ∙ ap owns_two (unless_some task (task_at three task).successors (some_wait task l))

          pub may_release : CanRelease back.holds
          may_release = record {
            running = done_running;
            runs = ap (λ (x : View). x.running) back_runs;
            returned = refl;
            left = some_wait task l;
          }

          pub over_two : (end : SeatView) (ready ready' : List ℕ) → ((r : Running) → back.holds.running ≡ Some r → IsOver r.successors back end ready ready') → end.holds ≡ owns_two None
          over_two end ready ready' over = (over done_running (ap (λ (x : View). x.running) back_runs)).holds ∙ ap (λ (x : View). record x { running = None }) back_runs
