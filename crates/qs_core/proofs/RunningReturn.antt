-- The tasks after a return.
use Rattle.std.proofs.Common.{◌≡◌, ℕ, ◌<◌, ◌==◌, List, [], length, slice_index, not, Contains, Option, Some, None, refl, sym, ap, ◌∙◌, subst, arith}
use Rattle.std.proofs.lemmas.Option.{none-some}
use Rattle.lists.proofs.Elements.{Contains-from_filter}
use Rattle.lists.proofs.Counts.{count-filter}
use Rattle.qs_core.specs.Shape.{Shape}
use Rattle.qs_core.specs.Core.{Core, View, Running, task_place, view_at}
use Rattle.qs_core.specs.Steps.{after_return, without}
use Rattle.qs_core.specs.Sound.{IsSound, IsClaimed, IsRunning, left_in, AreTasksSound}
use Rattle.qs_core.proofs.Views.{IsView-view_at, changed}
use Rattle.qs_core.proofs.Running.{AllCame, IsGoing-from, OwnsJust-chains, left-unless_over, tasks-plain}

-- the view after a return
abbrev pub returning : View → ℕ → View
returning view leaf = record view { out = without leaf view.out; running = after_return view.running leaf }

-- what runs after a return ran before it
came-return : (old : Option Running) (leaf : ℕ) → AllCame old (after_return old leaf)
came-return None leaf after e = absurd (none-some after e)
came-return (Some running) leaf after e =
    let left = IsGoing-from running.task (without leaf running.leaves) running.successors after e in
    record {
      running = running;
      was = refl;
      of_task = ap (λ (r : Running). r.task) (sym left.is);
      leaves = λ l c. Contains-from_filter (λ y. not (y == leaf)) running.leaves l (subst (λ (r : Running). Contains r.leaves l) (sym left.is) c);
    }

-- as much is left to release
left-return : (old : Option Running) (leaf t : ℕ) → left_in (after_return old leaf) t ≡ left_in old t
left-return None leaf t = refl
left-return (Some running) leaf t = left-unless_over running.task (without leaf running.leaves) running.successors t

-- a running task with fewer leaves left
fewer-leaves : (shape : Shape) (core after : Core) (view view' : View) (running : Running) (leaf : ℕ) → IsRunning shape core view running → IsClaimed shape after running.task → view.chains ≡ view'.chains
    → (without leaf running.leaves ≡ [] → running.successors ≡ [] → ⊥)
    → IsRunning shape after view' (record { task = running.task; leaves = without leaf running.leaves; successors = running.successors })
fewer-leaves shape core after view view' running leaf r c e some = record {
  is_task = r.is_task;
  claimed = c;
  leaves = λ l. (
    (λ in'. (r.leaves l).0 (Contains-from_filter (λ y. not (y == leaf)) running.leaves l in')),
    let a = count-filter (λ y. not (y == leaf)) (λ y. y == l) running.leaves in let b = (r.leaves l).1 in omega arith,
  );
  successors = r.successors;
  some_left = some;
  owns = λ some'.
      let was = r.owns (λ z. some' (ap (without leaf) z)) in
      (OwnsJust-chains shape view view' running.task e was.0, was.1);
}

-- what the seat runs after a return
own-return : (shape : Shape) (core after : Core) (view view' : View) (leaf : ℕ) (old : Option Running) → view.running ≡ old
    → ((running : Running) → view.running ≡ Some running → IsRunning shape core view running)
    → ((running : Running) → IsRunning shape core view running → IsClaimed shape after running.task)
    → view.chains ≡ view'.chains
    → (running : Running) → after_return old leaf ≡ Some running → IsRunning shape after view' running
own-return shape core after view view' leaf None is runs claims e running a = absurd (none-some running a)
own-return shape core after view view' leaf (Some was) is runs claims e running a =
    let left = IsGoing-from was.task (without leaf was.leaves) was.successors running a in
    let r = runs was is in
    subst (λ (r : Running). IsRunning shape after view' r) left.is (fewer-leaves shape core after view view' was leaf r (claims was r) e left.some)

-- the tasks after a return
pub tasks-return : (shape : Shape) (core : Core) (words : List ℕ) (seat leaf : ℕ) → IsSound shape core → seat < length core.views
    → ((t : ℕ) → slice_index words (task_place shape t) ≡ slice_index core.words (task_place shape t))
    → AreTasksSound shape (changed core words seat (returning (view_at core.views seat) leaf))
tasks-return shape core words seat leaf sound l same =
    let view = view_at core.views seat in
    tasks-plain shape core words seat (returning view leaf) sound l same (came-return view.running leaf) (left-return view.running leaf)
    (own-return shape core (changed core words seat (returning view leaf)) view (returning view leaf) leaf view.running refl
    (λ running r. sound.tasks.runs seat view running (IsView-view_at core seat l) r) (λ running r. same running.task ∙ r.claimed) refl)
