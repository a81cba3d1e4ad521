-- What a step leaves of the claims: a claimed task stays claimed.
use Rattle.std.proofs.Common.{◌≡◌, ◌≢◌, ℕ, ◌<◌, ◌==◌, length, slice_index, sym, ap, ◌∙◌, subst, inl, inr, arith}
use Rattle.std.proofs.lemmas.Bool.{cases_eq, eq-eqb, ne_eqb, cond-true, cond-false}
use Rattle.qs_core.specs.declared.event.Event.{Event}
use Rattle.qs_core.specs.declared.event.Step.{Step}
use Rattle.qs_core.specs.declared.event.Step.TheVariants.{Lock, Raise, Lower, Unlock, Fetch, Return, Claim, Release}
use Rattle.qs_core.specs.Shape.{Shape, IsShape}
use Rattle.qs_core.specs.Core.{Core, View, task_place, claimed_word, view_at}
use Rattle.qs_core.specs.Steps.{IsAllowed, Allowed, CanClaim, effect, stepped, exchanged, next_successor}
use Rattle.qs_core.specs.Sound.{IsSound, IsClaimed, IsDone}
use Rattle.qs_core.specs.Runs.{Claims}
use Rattle.std.proofs.lemmas.Option.{none-some}
use Rattle.qs_core.proofs.Tasks.{IsReleasing-from, place-apart, word-other, word-same}
use Rattle.qs_core.proofs.Views.{view_at_is, IsView-changed_other}

-- a claim that saw 0 claims the task, and no other changes its word
pub claimed_by : (shape : Shape) (core : Core) (event : Event) (task : ℕ) → IsSound shape core → IsAllowed shape core event → task < length shape.tasks → Claims shape core event task
    → IsClaimed shape (effect shape core event) task
claimed_by shape core event task sound allowed l claims = subst (λ (step : Step). IsClaimed shape (stepped shape core event.seat step) task) (sym claims.step) here
  where
    here : IsClaimed shape (stepped shape core event.seat (Claim task)) task
    here = word-same shape core (exchanged (Claim task) (slice_index core.words (task_place shape task))) task sound l
        ∙ cond-true (slice_index core.words (task_place shape task) == 0) claimed_word (slice_index core.words (task_place shape task)) (eq-eqb _ 0 claims.ready)

-- a claimed task stays claimed over a step
stays : (shape : Shape) (core : Core) (seat : ℕ) (step : Step) (task : ℕ) → IsShape shape → IsSound shape core → seat < length core.views → Allowed shape (view_at core.views seat) step
    → task < length shape.tasks → IsClaimed shape core task → IsClaimed shape (stepped shape core seat step) task
stays shape core seat (Claim t) task s sound l a below c =
    elim (cases_eq task t) [
      | inl e ↦
          let seen : slice_index core.words (task_place shape t) ≡ claimed_word = ap (λ u. slice_index core.words (task_place shape u)) (sym e) ∙ c in
          let written = word-same shape core (exchanged (Claim t) (slice_index core.words (task_place shape t))) t sound (subst (λ u. u < length shape.tasks) e below) in
          let kept = cond-false (slice_index core.words (task_place shape t) == 0) claimed_word (slice_index core.words (task_place shape t)) (ne_eqb _ 0 (λ z. omega arith)) in
          subst (λ u. IsClaimed shape (stepped shape core seat (Claim t)) u) (sym e) (written ∙ kept ∙ seen)
      | inr n ↦ word-other shape core.words (task_place shape t) _ task (λ e. n (omega arith)) ∙ c
    ]
stays shape core seat Release task s sound l a below c =
    let r = IsReleasing-from shape core seat s sound l a in
    let apart : task_place shape task ≢ task_place shape (next_successor (view_at core.views seat).running) = λ e. r.unclaimed (subst (IsClaimed shape core) (let n = r.next in omega arith) c) in
    word-other shape core.words (task_place shape (next_successor (view_at core.views seat).running)) _ task apart ∙ c
stays shape core seat (Lock cell) task s sound l a below c = word-other shape core.words _ _ task (place-apart shape core seat (Lock cell) task s sound l a tt) ∙ c
stays shape core seat Raise task s sound l a below c = word-other shape core.words _ _ task (place-apart shape core seat Raise task s sound l a tt) ∙ c
stays shape core seat Lower task s sound l a below c = word-other shape core.words _ _ task (place-apart shape core seat Lower task s sound l a tt) ∙ c
stays shape core seat Unlock task s sound l a below c = word-other shape core.words _ _ task (place-apart shape core seat Unlock task s sound l a tt) ∙ c
stays shape core seat (Fetch leaf) task s sound l a below c = word-other shape core.words _ _ task (place-apart shape core seat (Fetch leaf) task s sound l a tt) ∙ c
stays shape core seat (Return leaf) task s sound l a below c = word-other shape core.words _ _ task (place-apart shape core seat (Return leaf) task s sound l a tt) ∙ c

-- a claimed task stays claimed over an event
pub claimed_stays : (shape : Shape) (core : Core) (event : Event) (task : ℕ) → IsShape shape → IsSound shape core → IsAllowed shape core event → task < length shape.tasks
    → IsClaimed shape core task → IsClaimed shape (effect shape core event) task
claimed_stays shape core event task s sound allowed l c = stays shape core event.seat event.step task s sound allowed.seat allowed.step l c

-- what is done just after the claim of another task was done before it
pub same_before_claim : (shape : Shape) (core : Core) (event : Event) (task before leaf : ℕ) → IsAllowed shape core event → Claims shape core event task → (before ≡ task → ⊥)
    → IsDone shape (effect shape core event) before leaf → IsDone shape core before leaf
same_before_claim shape core event task before leaf allowed claims n done =
    let done' : IsDone shape (stepped shape core event.seat (Claim task)) before leaf = subst (λ (step : Step). IsDone shape (stepped shape core event.seat step) before leaf) claims.step done in
    let can : CanClaim shape (view_at core.views event.seat) task = subst (λ (step : Step). Allowed shape (view_at core.views event.seat) step) claims.step allowed.step in
    record {
      touches = done'.touches;
      claimed = sym (word-other shape core.words (task_place shape task) _ before (λ e. n (omega arith))) ∙ done'.claimed;
      none_left = λ seat view running v r c.
          elim (cases_eq seat event.seat) [
            | inl e ↦
                let same : view_at core.views event.seat ≡ view = ap (view_at core.views) (sym e) ∙ view_at_is core seat view v in
                none-some running (sym can.free.none_runs ∙ ap (λ (w : View). w.running) same ∙ r.is)
            | inr n' ↦ done'.none_left seat view running (IsView-changed_other core _ event.seat _ seat view n' v) r c
          ];
    }
