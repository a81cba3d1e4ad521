-- What holds of every list of events, from the law of one step.
use Rattle.std.proofs.Common.{◌≡◌, ℕ, zero, suc, ◌<◌, List, [], ◌∷◌, ◌++◌, length, slice_get, slice_index, Contains, refl, sym, ap, ◌∙◌, subst, arith}
use Rattle.std.specs.Prelude.{unwrap_or}
use Rattle.lists.proofs.Elements.{Contains-nil}
use Rattle.qs_core.specs.declared.event.Event.{Event}
use Rattle.qs_core.specs.Shape.{Shape, TaskShape, IsEdge, IsShape, IsPath, Touches, no_task}
use Rattle.qs_core.specs.Core.{Core, opening, task_place, claimed_word}
use Rattle.qs_core.specs.Steps.{IsAllowed, effect}
use Rattle.qs_core.specs.Sound.{IsSound, IsClaimed, IsDone}
use Rattle.qs_core.specs.Runs.{IsRun, after_events}
use Rattle.qs_core.specs.Laws.{AllAreDone, ClaimedInOrder, ClaimedOnce, MadeIsReached, PlayedIsReached, RunsAreSound, SoundIsExclusive, SoundIsInOrder, StepsKeepSound}
use Rattle.qs_core.proofs.Opening.{opening_is_sound}
use Rattle.qs_core.proofs.Claims.{claimed_stays, claimed_by, same_before_claim}

-- each state of a run is sound
pub sound-after : StepsKeepSound → (shape : Shape) (core : Core) (events : List Event) → IsShape shape → IsSound shape core → IsRun shape core events → IsSound shape (after_events shape core events)
sound-after kept shape core [] s g r = g
sound-after kept shape core (event ∷ events) s g r = sound-after kept shape (effect shape core event) events s (kept shape core event s g r.0) r.1

-- the first part of a run is a run
pub run-front : (shape : Shape) (core : Core) (events more : List Event) → IsRun shape core (events ++ more) → IsRun shape core events
run-front shape core [] more r = tt
run-front shape core (event ∷ events) more r = (r.0, run-front shape (effect shape core event) events more r.1)

-- the rest of a run is one from the state between
pub run-rest : (shape : Shape) (core : Core) (events more : List Event) → IsRun shape core (events ++ more) → IsRun shape (after_events shape core events) more
run-rest shape core [] more r = r
run-rest shape core (event ∷ events) more r = run-rest shape (effect shape core event) events more r.1

-- the state after both parts
pub after-append : (shape : Shape) (core : Core) (events more : List Event) → after_events shape core (events ++ more) ≡ after_events shape (after_events shape core events) more
after-append shape core [] more = refl
after-append shape core (event ∷ events) more = after-append shape (effect shape core event) events more

-- a run, and one from its last state, make a run
run-append : (shape : Shape) (core : Core) (events more : List Event) → IsRun shape core events → IsRun shape (after_events shape core events) more → IsRun shape core (events ++ more)
run-append shape core [] more r q = q
run-append shape core (event ∷ events) more r q = (r.0, run-append shape (effect shape core event) events more r.1 q)

-- a machine that is made is reached by no events
pub made_is_reached : MadeIsReached
made_is_reached shape seats = record { run = tt; state = refl }

-- and one that plays an allowed event by one event more
pub played_is_reached : PlayedIsReached
played_is_reached m seats events event reached allowed =
    let start = opening m.shape seats in
    record {
      run = run-append m.shape start events (event ∷ []) reached.run (subst (λ (c : Core). IsAllowed m.shape c event) (sym reached.state) allowed, tt);
      state = after-append m.shape start events (event ∷ []) ∙ ap (λ (c : Core). effect m.shape c event) reached.state;
    }

-- each state of a run is sound and exclusive, where steps keep a state sound and sound states are exclusive
pub runs_are_sound_from : StepsKeepSound → SoundIsExclusive → RunsAreSound
runs_are_sound_from kept exclusive shape seats events core s reached =
    let sound : IsSound shape core = subst (λ (c : Core). IsSound shape c) reached.state (sound-after kept shape (opening shape seats) events s (opening_is_sound shape seats s) reached.run) in
    (sound, exclusive shape core s sound)

-- a claimed task stays claimed over a run
claimed-after : StepsKeepSound → (shape : Shape) (core : Core) (events : List Event) (task : ℕ) → IsShape shape → IsSound shape core → IsRun shape core events → task < length shape.tasks
    → IsClaimed shape core task → IsClaimed shape (after_events shape core events) task
claimed-after kept shape core [] task s g r l c = c
claimed-after kept shape core (event ∷ events) task s g r l c =
    claimed-after kept shape (effect shape core event) events task s (kept shape core event s g r.0) r.1 l (claimed_stays shape core event task s g r.0 l c)

-- no task is claimed twice, where steps keep a state sound
pub claimed_once_from : StepsKeepSound → ClaimedOnce
claimed_once_from kept shape seats task events more event other s first second =
    let start = opening shape seats in
    let middle = after_events shape start events in
    let whole = run-front shape start (events ++ event ∷ more) (other ∷ []) second.run in
    let sound = sound-after kept shape start events s (opening_is_sound shape seats s) (run-front shape start events (event ∷ more) whole) in
    let run = run-rest shape start events (event ∷ more) whole in
    let claimed = claimed_by shape middle event task sound run.0 first.is_task first.claims in
    let later = claimed-after kept shape (effect shape middle event) more task s (kept shape middle event s sound run.0) run.1 first.is_task claimed in
    let e : slice_index (after_events shape start (events ++ event ∷ more)).words (task_place shape task) ≡ claimed_word = rw (after-append shape start events (event ∷ more)) later in
    let z = second.claims.ready in
    absurd (omega arith)

-- a number beyond the tasks has no edge
edge-from : (shape : Shape) (before after : ℕ) → IsEdge shape before after → before < length shape.tasks
edge-from shape before after e = go shape.tasks before e
  where
    go : (tasks : List TaskShape) (k : ℕ) → Contains (unwrap_or (slice_get tasks k) no_task).successors after → k < length tasks
    go [] k c = absurd (Contains-nil after c)
    go (task ∷ tasks) zero c = omega arith
    go (task ∷ tasks) (suc k) c = let l = go tasks k c in omega arith

-- an edge goes up
edge-up : (shape : Shape) (before after : ℕ) → IsShape shape → IsEdge shape before after → (before < after) × (after < length shape.tasks)
edge-up shape before after s e = (s.tasks before (edge-from shape before after e)).later after e

-- a path of edges goes up
pub path-up : (shape : Shape) (before : ℕ) (path : List ℕ) (after : ℕ) → IsShape shape → IsPath shape before path after → before < after
path-up shape before [] after s p = (edge-up shape before after s p).0
path-up shape before (task ∷ path) after s p =
    let here = (edge-up shape before task s p.0).0 in
    let there = path-up shape task path after s p.1 in
    omega arith

-- in a sound state each task before a claimed one is claimed, and done
path-done : (shape : Shape) (core : Core) (before : ℕ) (path : List ℕ) (after leaf : ℕ) → IsShape shape → IsSound shape core → IsPath shape before path after
    → IsClaimed shape core after → IsClaimed shape core before × (Touches shape before leaf → IsDone shape core before leaf)
path-done shape core before [] after leaf s sound p c = sound.tasks.in_order before after leaf (edge-from shape before after p) (edge-up shape before after s p).1 p c
path-done shape core before (task ∷ path) after leaf s sound p c =
    sound.tasks.in_order before task leaf (edge-from shape before task p.0) (edge-up shape before task s p.0).1 p.0 (path-done shape core task path after leaf s sound p.1 c).0

-- the same where it precedes
pub sound_is_in_order : SoundIsInOrder
sound_is_in_order shape core before after leaf s sound precedes c = path-done shape core before precedes.0 after leaf s sound precedes.1 c

-- at its claim the tasks before a task are done, where steps keep a state sound
pub claimed_in_order_from : StepsKeepSound → ClaimedInOrder
claimed_in_order_from kept shape seats task before leaf events event s claim precedes touches =
    let start = opening shape seats in
    let middle = after_events shape start events in
    let sound = sound-after kept shape start events s (opening_is_sound shape seats s) (run-front shape start events (event ∷ []) claim.run) in
    let allowed = (run-rest shape start events (event ∷ []) claim.run).0 in
    let next = kept shape middle event s sound allowed in
    let claimed = claimed_by shape middle event task sound allowed claim.is_task claim.claims in
    let up = path-up shape before precedes.0 task s precedes.1 in
    let done = (path-done shape (effect shape middle event) before precedes.0 task leaf s next precedes.1 claimed).1 touches in
    same_before_claim shape middle event task before leaf allowed claim.claims (λ e. omega arith) done

-- where every task is claimed and none runs, every task is done
pub all_are_done : AllAreDone
all_are_done shape core task leaf f l = (
  λ d. d.touches,
  λ t. record { touches = t; claimed = f.claimed task l; none_left = λ seat view running v r c. f.none_runs seat view running v r.is },
)
