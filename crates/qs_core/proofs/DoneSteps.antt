-- On which leaves tasks are done after a step.
use Rattle.std.proofs.Common.{◌≡◌, ◌≢◌, ◌⊎◌, ◌↔◌, ℕ, ◌<◌, ◌==◌, List, [], ◌∷◌, length, slice_index, slice_set, Contains, Option, Some, None, refl, sym, ap, ◌∙◌, subst, inl, inr, arith, length-set}
use Rattle.std.proofs.lemmas.Bool.{cases_eq, cond-true, cond-false, cond_both, eq-eqb, eqb-true, ne_eqb}
use Rattle.std.proofs.lemmas.Option.{slice_get_within}
use Rattle.lists.proofs.Elements.{Contains-nil}
use Rattle.qs_core.specs.declared.event.Event.{Event}
use Rattle.qs_core.specs.declared.event.Step.{Step}
use Rattle.qs_core.specs.declared.event.Step.TheVariants.{Lock, Raise, Lower, Unlock, Fetch, Return, Claim, Release}
use Rattle.qs_core.specs.Shape.{Shape, IsShape, Touches}
use Rattle.qs_core.specs.Core.{Core, Running, View, cell_place, claimed_word, task_place, view_at}
use Rattle.qs_core.specs.Steps.{Allowed, IsAllowed, after_release, after_return, effect, exchanged, rest, seen_by, stepped, unless_over, view_after, without}
use Rattle.qs_core.specs.Sound.{IsClaimed, IsDone, IsSound}
use Rattle.qs_core.specs.Runs.{ReturnsWork}
use Rattle.qs_core.specs.Laws.{StepsChangeDone}
use Rattle.qs_core.specs.inner.Held.{RunsOn}
use Rattle.qs_core.proofs.Claims.{claimed_stays}
use Rattle.qs_core.proofs.Without.{Contains-without, without_keeps}
use Rattle.qs_core.proofs.LocksLock.{with_lock}
use Rattle.qs_core.proofs.RunningClaim.{claiming}
use Rattle.qs_core.proofs.RunningKept.{same_words}
use Rattle.qs_core.proofs.RunningRelease.{claimed_before_release}
use Rattle.qs_core.proofs.Tasks.{word-other, word-same}
use Rattle.qs_core.proofs.Views.{IsView-view_at, view_at-changed_other, view_at-changed_same, view_at_is}
use Rattle.lists.proofs.Counts.{cases_Contains}

-- a task that runs with a leaf left
pub record IsRunningOn (o : Option Running) (task leaf : ℕ) : Type 0 where
  pub running : Running
  pub is : o ≡ Some running
  pub of_task : running.task ≡ task
  pub left : Contains running.leaves leaf

pub runs_some : (o : Option Running) (task leaf : ℕ) → RunsOn o task leaf → IsRunningOn o task leaf
runs_some None task leaf r = absurd r
runs_some (Some running) task leaf r = record { running = running; is = refl; of_task = r.0; left = r.1 }

-- some view runs the task with the leaf left
record IsLeft (views : List View) (task leaf : ℕ) : Type 0 where
  pub seat : ℕ
  pub within : seat < length views
  pub runs : RunsOn (view_at views seat).running task leaf

-- a claimed task is done on a leaf that it touches where no view has the leaf of it left
done_where : (shape : Shape) (core : Core) (task leaf : ℕ) → Touches shape task leaf → IsClaimed shape core task → (IsLeft core.views task leaf → ⊥) → IsDone shape core task leaf
done_where shape core task leaf touches claimed none = record {
  touches = touches;
  claimed = claimed;
  none_left = λ seat view running v r h. none (record {
    seat = seat;
    within = slice_get_within core.views seat view v.is;
    runs = subst (λ x. RunsOn x task leaf) (sym (ap (λ (w : View). w.running) (view_at_is core seat view v) ∙ r.is)) (r.of_task, h);
  });
}

-- and where it is done none has
none_where_done : (shape : Shape) (core : Core) (task leaf : ℕ) → IsDone shape core task leaf → IsLeft core.views task leaf → ⊥
none_where_done shape core task leaf done left =
    let view = view_at core.views left.seat in
    let r = runs_some view.running task leaf left.runs in
    done.none_left left.seat view r.running (IsView-view_at core left.seat left.within) (record { is = r.is; of_task = r.of_task }) r.left

-- a task runs with a leaf left or doesn't
RunsOn-cases : (old : Option Running) (task leaf : ℕ) → RunsOn old task leaf ⊎ (RunsOn old task leaf → ⊥)
RunsOn-cases None task leaf = inr (λ r. r)
RunsOn-cases (Some running) task leaf =
    elim (cases_eq running.task task) [
      | inl e ↦ elim (cases_Contains running.leaves leaf) [ inl c ↦ inl (e, c) | inr n ↦ inr (λ r. n r.1) ]
      | inr n ↦ inr (λ r. n r.0)
    ]

-- what `unless_over` gives runs with the leaves that are given
RunsOn-unless_over : (t : ℕ) (leaves successors : List ℕ) (task leaf : ℕ) → RunsOn (unless_over t leaves successors) task leaf ↔ ((t ≡ task) × Contains leaves leaf)
RunsOn-unless_over t [] [] task leaf = (λ r. absurd r, λ p. Contains-nil leaf p.1)
RunsOn-unless_over t [] (s ∷ ss) task leaf = (λ r. r, λ p. p)
RunsOn-unless_over t (l ∷ ls) [] task leaf = (λ r. r, λ p. p)
RunsOn-unless_over t (l ∷ ls) (s ∷ ss) task leaf = (λ r. r, λ p. p)

-- after a return the leaf isn't left, and the others are
RunsOn-return : (old : Option Running) (back task leaf : ℕ) → RunsOn (after_return old back) task leaf ↔ (RunsOn old task leaf × (leaf ≡ back → ⊥))
RunsOn-return None back task leaf = (λ r. absurd r, λ p. p.0)
RunsOn-return (Some running) back task leaf =
    let is = RunsOn-unless_over running.task (without back running.leaves) running.successors task leaf in (
      λ r. let p = is.0 r in let w = Contains-without back running.leaves leaf p.1 in ((p.0, w.0), w.1),
      λ p. is.1 (p.0.0, without_keeps back running.leaves leaf p.0.1 p.1),
    )

-- a release leaves the leaves
RunsOn-release : (old : Option Running) (task leaf : ℕ) → RunsOn (after_release old) task leaf ↔ RunsOn old task leaf
RunsOn-release None task leaf = (λ r. r, λ r. r)
RunsOn-release (Some running) task leaf = RunsOn-unless_over running.task running.leaves (rest running.successors) task leaf

-- the view of the seat after its step
abbrev new_view : Shape → Core → ℕ → Step → View
new_view shape core seat step = view_after shape (view_at core.views seat) step (seen_by shape core seat step)

module _ (shape : Shape) (core : Core) (seat task leaf : ℕ) (is : IsShape shape) (sound : IsSound shape core) (l : seat < length core.views) where
  abbrev view : View
  view = view_at core.views seat

  -- where a claimed task runs after a step with the leaf left, it did before
  came_left : (step : Step) → Allowed shape view step → IsClaimed shape core task → RunsOn (new_view shape core seat step).running task leaf → RunsOn view.running task leaf
  came_left (Lock cell) can c r =
      cond_both (slice_index core.words (cell_place shape cell) == 0)
      (with_lock view cell) view
      (λ (w : View). RunsOn w.running task leaf → RunsOn view.running task leaf) (λ _ q. q) (λ _ q. q) r
  came_left Raise can c r = r
  came_left Lower can c r = r
  came_left Unlock can c r = r
  came_left (Fetch out) can c r = r
  came_left (Return back) can c r = ((RunsOn-return view.running back task leaf).0 r).0
  came_left (Claim t) can c r =
      cond_both (slice_index core.words (task_place shape t) == 0)
      (claiming shape view t) view
      (λ (w : View). RunsOn w.running task leaf → RunsOn view.running task leaf)
      (λ e q.
      let zero_seen = eqb-true (slice_index core.words (task_place shape t)) 0 e in
      let claimed = subst (IsClaimed shape core) (sym q.0) c in
      absurd (omega arith))
      (λ _ q. q) r
  came_left Release can c r = (RunsOn-release view.running task leaf).0 r

  -- where a task runs with the leaf left it does after the step, or the step returns the leaf
  stays_left : (step : Step) → Allowed shape view step → RunsOn view.running task leaf → RunsOn (new_view shape core seat step).running task leaf ⊎ (step ≡ Return leaf)
  stays_left (Lock cell) can r =
      inl (cond_both (slice_index core.words (cell_place shape cell) == 0)
      (with_lock view cell) view
      (λ (w : View). RunsOn w.running task leaf) (λ _. r) (λ _. r))
  stays_left Raise can r = inl r
  stays_left Lower can r = inl r
  stays_left Unlock can r = inl r
  stays_left (Fetch out) can r = inl r
  stays_left (Return back) can r =
      elim (cases_eq leaf back) [
        | inl e ↦ inr (ap Return (sym e))
        | inr n ↦ inl ((RunsOn-return view.running back task leaf).1 (r, n))
      ]
  stays_left (Claim t) can r = absurd (subst (λ (o : Option Running). RunsOn o task leaf) can.free.none_runs r)
  stays_left Release can r = inl ((RunsOn-release view.running task leaf).1 r)

  -- a task that is claimed after a step was before, or it starts to run in this seat with all its leaves left
  claimed_or_starts : (step : Step) → Allowed shape view step → IsClaimed shape (stepped shape core seat step) task
      → IsClaimed shape core task ⊎ (Touches shape task leaf → RunsOn (new_view shape core seat step).running task leaf)
  claimed_or_starts (Claim t) can c =
      elim (cases_eq task t) [
        | inr n ↦ inl (sym (word-other shape core.words (task_place shape t) _ task (λ e. n (omega arith))) ∙ c)
        | inl e ↦ elim (cases_eq (slice_index core.words (task_place shape t)) 0) [
          | inl zero_seen ↦
              let made : new_view shape core seat (Claim t) ≡ claiming shape view t = cond-true (slice_index core.words (task_place shape t) == 0) (claiming shape view t) view (eq-eqb _ 0 zero_seen) in
              inr (λ touches. subst (λ (w : View). RunsOn w.running task leaf) (sym made) (sym e, subst (λ x. Touches shape x leaf) e touches))
          | inr n ↦
              let value = exchanged (Claim t) (slice_index core.words (task_place shape t)) in
              let kept : value ≡ slice_index core.words (task_place shape t) = cond-false (slice_index core.words (task_place shape t) == 0) claimed_word (slice_index core.words (task_place shape t)) (ne_eqb _ 0 n) in
              let written = word-same shape core value t sound can.is_task in
              let now : IsClaimed shape (stepped shape core seat (Claim t)) t = subst (IsClaimed shape (stepped shape core seat (Claim t))) e c in
              inl (subst (IsClaimed shape core) (sym e) (sym kept ∙ sym written ∙ now))
        ]
      ]
  claimed_or_starts Release can c = inl (claimed_before_release shape core seat task is sound l can c)
  claimed_or_starts (Lock cell) can c = inl (sym (same_words shape core seat (Lock cell) is sound l can tt task) ∙ c)
  claimed_or_starts Raise can c = inl (sym (same_words shape core seat Raise is sound l can tt task) ∙ c)
  claimed_or_starts Lower can c = inl (sym (same_words shape core seat Lower is sound l can tt task) ∙ c)
  claimed_or_starts Unlock can c = inl (sym (same_words shape core seat Unlock is sound l can tt task) ∙ c)
  claimed_or_starts (Fetch out) can c = inl (sym (same_words shape core seat (Fetch out) is sound l can tt task) ∙ c)
  claimed_or_starts (Return back) can c = inl (sym (same_words shape core seat (Return back) is sound l can tt task) ∙ c)

module _ (shape : Shape) (core : Core) (event : Event) (task leaf : ℕ) (is : IsShape shape) (sound : IsSound shape core) (allowed : IsAllowed shape core event) where
  abbrev new : View
  new = new_view shape core event.seat event.step

  abbrev after : List View
  after = slice_set core.views event.seat new

  -- a seat that has the leaf left for the task after the step: this one or another
  left_now : RunsOn new.running task leaf → IsLeft after task leaf
  left_now r = record {
    seat = event.seat;
    within = rw (length-set core.views event.seat new) (allowed.seat);
    runs = subst (λ (w : View). RunsOn w.running task leaf) (sym (view_at-changed_same core.views event.seat new allowed.seat)) r;
  }

  left_still : (left : IsLeft core.views task leaf) → left.seat ≢ event.seat → IsLeft after task leaf
  left_still left n = record {
    seat = left.seat;
    within = rw (length-set core.views event.seat new) (left.within);
    runs = subst (λ (w : View). RunsOn w.running task leaf) (sym (view_at-changed_other core.views event.seat left.seat new n)) left.runs;
  }

  here : (left : IsLeft after task leaf) → left.seat ≡ event.seat → RunsOn new.running task leaf
  here left e =
      subst (λ (w : View). RunsOn w.running task leaf) (view_at-changed_same core.views event.seat new allowed.seat)
      (subst (λ s. RunsOn (view_at after s).running task leaf) e left.runs)

  within : (left : IsLeft after task leaf) → left.seat < length core.views
  within left = subst (λ k. left.seat < k) (length-set core.views event.seat new) left.within

  elsewhere : (left : IsLeft after task leaf) → left.seat ≢ event.seat → RunsOn (view_at core.views left.seat).running task leaf
  elsewhere left n = subst (λ (w : View). RunsOn w.running task leaf) (view_at-changed_other core.views event.seat left.seat new n) left.runs

  -- what is left of a claimed task was left before
  left_before : IsClaimed shape core task → IsLeft after task leaf → IsLeft core.views task leaf
  left_before c left =
      elim (cases_eq left.seat event.seat) [
        | inl e ↦ record { seat = event.seat; within = allowed.seat; runs = came_left shape core event.seat task leaf is sound allowed.seat event.step allowed.step c (here left e) }
        | inr n ↦ record { seat = left.seat; within = within left; runs = elsewhere left n }
      ]

  -- the leaf that is returned for the task isn't left
  returned_none : ReturnsWork core event task leaf → IsLeft after task leaf → ⊥
  returned_none returns left =
      elim (cases_eq left.seat event.seat) [
        | inl e ↦
            let back : RunsOn (after_return (view_at core.views event.seat).running leaf) task leaf =
            subst (λ (step : Step). RunsOn (new_view shape core event.seat step).running task leaf) returns.step (here left e) in
            ((RunsOn-return (view_at core.views event.seat).running leaf task leaf).0 back).1 refl
        | inr n ↦
            let r = runs_some (view_at core.views left.seat).running task leaf (elsewhere left n) in
            n (sound.tasks.one_runs left.seat event.seat task (view_at core.views left.seat) (view_at core.views event.seat) r.running returns.running (IsView-view_at core left.seat (within left))
            (IsView-view_at core event.seat allowed.seat) (record { is = r.is; of_task = r.of_task }) returns.runs)
      ]

  -- a task done after the step was done before, or the leaf is returned for it
  was_done : IsDone shape (effect shape core event) task leaf → IsDone shape core task leaf ⊎ ReturnsWork core event task leaf
  was_done d =
      let none_left = none_where_done shape (effect shape core event) task leaf d in
      elim (RunsOn-cases (view_at core.views event.seat).running task leaf) [
        | inl r ↦ elim (stays_left shape core event.seat task leaf is sound allowed.seat event.step allowed.step r) [
          | inl now ↦ absurd (none_left (left_now now))
          | inr back ↦
              let some = runs_some (view_at core.views event.seat).running task leaf r in
              inr (record { step = back; running = some.running; runs = record { is = some.is; of_task = some.of_task }; left = some.left })
        ]
        | inr n ↦ elim (claimed_or_starts shape core event.seat task leaf is sound allowed.seat event.step allowed.step d.claimed) [
          | inl c ↦
              inl (done_where shape core task leaf d.touches c
              (λ left. none_left (left_still left (λ e. n (subst (λ s. RunsOn (view_at core.views s).running task leaf) e left.runs)))))
          | inr starts ↦ absurd (none_left (left_now (starts d.touches)))
        ]
      ]

  -- a task that was done is done after the step
  stays_done : task < length shape.tasks → IsDone shape core task leaf → IsDone shape (effect shape core event) task leaf
  stays_done l d =
      done_where shape (effect shape core event) task leaf d.touches (claimed_stays shape core event task is sound allowed l d.claimed)
      (λ left. none_where_done shape core task leaf d (left_before d.claimed left))

  -- and so is one for which the leaf is returned
  returned_done : task < length shape.tasks → ReturnsWork core event task leaf → IsDone shape (effect shape core event) task leaf
  returned_done l returns =
      let runs = sound.tasks.runs event.seat (view_at core.views event.seat) returns.running (IsView-view_at core event.seat allowed.seat) returns.runs.is in
      let touches : Touches shape task leaf = subst (λ t. Touches shape t leaf) returns.runs.of_task ((runs.leaves leaf).0 returns.left) in
      let claimed : IsClaimed shape core task = subst (IsClaimed shape core) returns.runs.of_task runs.claimed in
      done_where shape (effect shape core event) task leaf touches (claimed_stays shape core event task is sound allowed l claimed) (returned_none returns)

-- a step makes a task done on a leaf just where it returns the leaf for it
pub steps_change_done : StepsChangeDone
steps_change_done shape core event task leaf is sound allowed l = (
  λ d. was_done shape core event task leaf is sound allowed d,
  λ o. elim o [ inl d ↦ stays_done shape core event task leaf is sound allowed l d | inr r ↦ returned_done shape core event task leaf is sound allowed l r ],
)
