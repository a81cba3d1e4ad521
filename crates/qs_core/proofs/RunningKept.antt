-- Each step keeps what a sound state keeps of its tasks.
use Rattle.std.proofs.Common.{◌≡◌, ℕ, ◌<◌, ◌==◌, [], length, slice_index, Option, Some, refl, sym, ◌∙◌, subst}
use Rattle.std.proofs.lemmas.Bool.{cond_both}
use Rattle.std.proofs.lemmas.Option.{none-some}
use Rattle.qs_core.specs.declared.event.Event.{Event}
use Rattle.qs_core.specs.declared.event.Step.{Step}
use Rattle.qs_core.specs.declared.event.Step.TheVariants.{Lock, Raise, Lower, Unlock, Fetch, Return, Claim, Release}
use Rattle.qs_core.specs.Shape.{Shape, IsShape}
use Rattle.qs_core.specs.Core.{Core, View, Running, cell_place, task_place, view_at}
use Rattle.qs_core.specs.Steps.{Allowed, HasReturned, IsAllowed, effect, stepped, view_after}
use Rattle.qs_core.specs.Sound.{IsSound, AreTasksSound}
use Rattle.qs_core.proofs.Tasks.{place-apart, word-other, LeavesTasks}
use Rattle.qs_core.proofs.Views.{IsView-view_at, changed}
use Rattle.qs_core.proofs.Running.{OwnsJust-chains, tasks-same}
use Rattle.qs_core.proofs.RunningClaim.{tasks-claim}
use Rattle.qs_core.proofs.RunningRelease.{tasks-release}
use Rattle.qs_core.proofs.RunningReturn.{tasks-return}
use Rattle.qs_core.proofs.LocksLock.{with_lock}

-- a running task has no leaf left where none is left to return
none_to_return : (old : Option Running) (running : Running) → HasReturned old → old ≡ Some running → running.leaves ≡ []
none_to_return old running h e = subst HasReturned e h

-- the words of the tasks stay where the step is on another word
pub same_words : (shape : Shape) (core : Core) (seat : ℕ) (step : Step) → IsShape shape → IsSound shape core → seat < length core.views → Allowed shape (view_at core.views seat) step → LeavesTasks step
    → (t : ℕ) → slice_index (stepped shape core seat step).words (task_place shape t) ≡ slice_index core.words (task_place shape t)
same_words shape core seat step s sound l a p t = word-other shape core.words _ _ t (place-apart shape core seat step t s sound l a p)

-- each kind of step
tasks-step : (shape : Shape) (core : Core) (seat : ℕ) (step : Step) → IsShape shape → IsSound shape core → seat < length core.views → Allowed shape (view_at core.views seat) step
    → AreTasksSound shape (stepped shape core seat step)
tasks-step shape core seat (Lock cell) s sound l a =
    cond_both (slice_index core.words (cell_place shape cell) == 0)
    (with_lock (view_at core.views seat) cell)
    (view_at core.views seat)
    (λ (new : View). AreTasksSound shape (changed core (stepped shape core seat (Lock cell)).words seat new))
    (λ _. tasks-same shape core (stepped shape core seat (Lock cell)).words seat _ sound l (same_words shape core seat (Lock cell) s sound l a tt) refl
    (λ running r. absurd (none-some running (sym a.free.none_runs ∙ r))))
    (λ _. tasks-same shape core (stepped shape core seat (Lock cell)).words seat _ sound l (same_words shape core seat (Lock cell) s sound l a tt) refl
    (λ running r. absurd (none-some running (sym a.free.none_runs ∙ r))))
tasks-step shape core seat Raise s sound l a =
    tasks-same shape core (stepped shape core seat Raise).words seat _ sound l (same_words shape core seat Raise s sound l a tt) refl
    (λ running r. absurd (none-some running (sym a.none_runs ∙ r)))
tasks-step shape core seat Lower s sound l a =
    tasks-same shape core (stepped shape core seat Lower).words seat _ sound l (same_words shape core seat Lower s sound l a tt) refl
    (λ running r some. absurd (some (none_to_return (view_at core.views seat).running running a.returned r)))
tasks-step shape core seat Unlock s sound l a =
    tasks-same shape core (stepped shape core seat Unlock).words seat _ sound l (same_words shape core seat Unlock s sound l a tt) refl
    (λ running r some. absurd (some (none_to_return (view_at core.views seat).running running a.returned r)))
tasks-step shape core seat (Fetch leaf) s sound l a =
    let view = view_at core.views seat in
    tasks-same shape core (stepped shape core seat (Fetch leaf)).words seat (view_after shape view (Fetch leaf) 0) sound l (same_words shape core seat (Fetch leaf) s sound l a tt) refl
    (λ running r some. OwnsJust-chains shape view (view_after shape view (Fetch leaf) 0) running.task refl ((sound.tasks.runs seat view running (IsView-view_at core seat l) r).owns some).0)
tasks-step shape core seat (Return leaf) s sound l a =
    tasks-return shape core (stepped shape core seat (Return leaf)).words seat leaf sound l (same_words shape core seat (Return leaf) s sound l a tt)
tasks-step shape core seat (Claim task) s sound l a = tasks-claim shape core seat task s sound l a
tasks-step shape core seat Release s sound l a = tasks-release shape core seat s sound l a

-- each event
pub tasks_kept : (shape : Shape) (core : Core) (event : Event) → IsShape shape → IsSound shape core → IsAllowed shape core event → AreTasksSound shape (effect shape core event)
tasks_kept shape core event s sound allowed = tasks-step shape core event.seat event.step s sound allowed.seat allowed.step
