-- Over every list of events a leaf is returned for a task at most once, and the done tasks are those for which it was.
use Rattle.std.proofs.Common.{◌≡◌, ◌⊎◌, ◌↔◌, ℕ, ◌<◌, List, [], ◌∷◌, ◌++◌, length, get_or, refl, sym, ap, subst, inl, inr, arith, append_assoc, length-append}
use Rattle.qs_core.specs.declared.event.Event.{Event}
use Rattle.qs_core.specs.Shape.{Shape, IsShape}
use Rattle.qs_core.specs.Core.{Core, opening, view_at}
use Rattle.qs_core.specs.Steps.{effect, rest}
use Rattle.qs_core.specs.Sound.{IsDone, IsSound}
use Rattle.qs_core.specs.Runs.{IsRun, ReturnsWork, after_events}
use Rattle.qs_core.specs.Laws.{DoneWasReturned, FinishedWasReturned, ReturnedOnce}
use Rattle.qs_core.proofs.DoneSteps.{steps_change_done}
use Rattle.qs_core.proofs.Events.{after-append, all_are_done, run-front, run-rest, sound-after}
use Rattle.qs_core.proofs.Owned.{both_ways, other_way}
use Rattle.qs_core.proofs.Opening.{none_claimed, opening_is_sound}
use Rattle.qs_core.proofs.SoundKept.{sound_kept}
use Rattle.qs_core.proofs.Views.{IsView-view_at}

-- one of the events from a state returns the leaf for the task
record HasReturn (shape : Shape) (core : Core) (events : List Event) (task leaf : ℕ) : Type 0 where
  before : List Event
  event : Event
  more : List Event
  split : before ++ event ∷ more ≡ events
  returns : ReturnsWork (after_events shape core before) event task leaf

-- it is the first of them or a later one
first_or_later : (shape : Shape) (core : Core) (first : Event) (events before : List Event) (event : Event) (more : List Event) (task leaf : ℕ) → before ++ event ∷ more ≡ first ∷ events
    → ReturnsWork (after_events shape core before) event task leaf → ReturnsWork core first task leaf ⊎ HasReturn shape (effect shape core first) events task leaf
first_or_later shape core first events [] event more task leaf split returns =
    let e : event ≡ first = ap (λ xs. get_or xs 0 event) split in
    inl (subst (λ (x : Event). ReturnsWork core x task leaf) e returns)
first_or_later shape core first events (b ∷ before) event more task leaf split returns =
    let e : b ≡ first = ap (λ xs. get_or xs 0 b) split in
    inr (record {
      before = before;
      event = event;
      more = more;
      split = ap rest split;
      returns = subst (λ (x : Event). ReturnsWork (after_events shape (effect shape core x) before) event task leaf) e returns;
    })

later : (shape : Shape) (core : Core) (first : Event) (events : List Event) (task leaf : ℕ) → HasReturn shape (effect shape core first) events task leaf → HasReturn shape core (first ∷ events) task leaf
later shape core first events task leaf h = record {
  before = first ∷ h.before;
  event = h.event;
  more = h.more;
  split = ap (λ (xs : List Event). first ∷ xs) h.split;
  returns = h.returns;
}

-- no events have none
none_returned : (shape : Shape) (core : Core) (task leaf : ℕ) → HasReturn shape core [] task leaf → ⊥
none_returned shape core task leaf h =
    let e = ap (λ (xs : List Event). length xs) h.split in
    let n = length-append h.before (h.event ∷ h.more) in
    omega arith

-- after events a task is done on a leaf just where it was before or one of them returned the leaf for it
done-after : (shape : Shape) (core : Core) (events : List Event) (task leaf : ℕ) → IsShape shape → IsSound shape core → IsRun shape core events → task < length shape.tasks
    → IsDone shape (after_events shape core events) task leaf ↔ (IsDone shape core task leaf ⊎ HasReturn shape core events task leaf)
done-after shape core [] task leaf s sound run l = (λ d. inl d, λ o. elim o [ inl d ↦ d | inr h ↦ absurd (none_returned shape core task leaf h) ])
done-after shape core (event ∷ events) task leaf s sound run l =
    let one = steps_change_done shape core event task leaf s sound run.0 l in
    let all = done-after shape (effect shape core event) events task leaf s (sound_kept shape core event s sound run.0) run.1 l in (
      λ d. elim (all.0 d) [
        | inl middle ↦ elim (one.0 middle) [
          | inl was ↦ inl was
          | inr r ↦ inr (record { before = []; event = event; more = events; split = refl; returns = r })
        ]
        | inr h ↦ inr (later shape core event events task leaf h)
      ],
      λ o. elim o [
        | inl was ↦ all.1 (inl (one.1 (inl was)))
        | inr h ↦ elim (first_or_later shape core event events h.before h.event h.more task leaf h.split h.returns) [
          | inl r ↦ all.1 (inl (one.1 (inr r)))
          | inr g ↦ all.1 (inr g)
        ]
      ],
    )

-- no leaf is returned twice for a task
pub returned_once : ReturnedOnce
returned_once shape seats task leaf events more event other s first second =
    let start = opening shape seats in
    let middle = after_events shape start events in
    let end = after_events shape start (events ++ event ∷ more) in
    let whole = run-front shape start (events ++ event ∷ more) (other ∷ []) second.run in
    let sound = sound-after sound_kept shape start events s (opening_is_sound shape seats s) (run-front shape start events (event ∷ more) whole) in
    let run = run-rest shape start events (event ∷ more) whole in
    let later : IsDone shape (after_events shape middle (event ∷ more)) task leaf = (done-after shape middle (event ∷ more) task leaf s sound run first.is_task).1
    (inr (record { before = []; event = event; more = more; split = refl; returns = first.returns })) in
    let done : IsDone shape end task leaf = subst (λ (c : Core). IsDone shape c task leaf) (sym (after-append shape start events (event ∷ more))) later in
    let seat = (run-rest shape start (events ++ event ∷ more) (other ∷ []) second.run).0.seat in
    done.none_left other.seat (view_at end.views other.seat) second.returns.running (IsView-view_at end other.seat seat) second.returns.runs second.returns.left

-- the part of a run up to an event
run-to : (shape : Shape) (core : Core) (before : List Event) (event : Event) (more : List Event) → IsRun shape core (before ++ event ∷ more) → IsRun shape core (before ++ event ∷ [])
run-to shape core before event more run = run-front shape core (before ++ event ∷ []) more (subst (IsRun shape core) (sym (append_assoc before (event ∷ []) more)) run)

-- in each state of a run the done tasks are those for which the leaf was returned
pub done_was_returned : DoneWasReturned
done_was_returned shape seats task leaf events core s reached l =
    let start = opening shape seats in
    let all = done-after shape start events task leaf s (opening_is_sound shape seats s) reached.run l in (
      λ d. elim (all.0 (subst (λ (c : Core). IsDone shape c task leaf) (sym reached.state) d)) [
        | inl was ↦ absurd (none_claimed shape seats task s l was.claimed)
        | inr h ↦ record {
          before = h.before;
          event = h.event;
          more = h.more;
          split = h.split;
          returns = record { run = run-to shape start h.before h.event h.more (subst (IsRun shape start) (sym h.split) reached.run); is_task = l; returns = h.returns };
        }
      ],
      λ w. subst (λ (c : Core). IsDone shape c task leaf) reached.state (all.1 (inr (record { before = w.before; event = w.event; more = w.more; split = w.split; returns = w.returns.returns }))),
    )

-- where a run ends with every task claimed and none running, a leaf was returned for just the tasks that touch it
pub finished_was_returned : FinishedWasReturned
finished_was_returned shape seats task leaf events core s reached finished l =
    both_ways (other_way (done_was_returned shape seats task leaf events core s reached l)) (all_are_done shape core task leaf finished l)
