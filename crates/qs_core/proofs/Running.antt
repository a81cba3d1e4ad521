-- What the running tasks and the tasks' words keep over a step that releases nothing and claims nothing.
use Rattle.std.proofs.Common.{◌≡◌, ◌≢◌, ℕ, ◌<◌, ◌==◌, cond, List, [], ◌∷◌, length, slice_index, count_by, Contains, Option, Some, refl, sym, ap, ◌∙◌, subst, inl, inr, arith}
use Rattle.std.specs.List.{range_with_len}
use Rattle.std.proofs.lemmas.Option.{none-some, same_Some}
use Rattle.lists.proofs.Sums.{sum_by-same}
use Rattle.qs_core.specs.Shape.{Shape, IsEdge, Touches, task_at}
use Rattle.qs_core.specs.Core.{Core, View, Running, task_place, claimed_word, view_at}
use Rattle.qs_core.specs.Steps.{OwnsJust, unless_over}
use Rattle.qs_core.specs.Sound.{IsSound, IsView, IsClaimed, IsDone, IsRunning, Runs, left_in, unclaimed_edges, unreleased, edges_from, AreTasksSound}
use Rattle.qs_core.proofs.Views.{IsView-view_at, changed, view_cases, sum_by-views}
use Rattle.qs_core.proofs.Owned.{owns_by_chains}

-- a running task after a step comes from one before it, with no more leaves left
pub record Came (old : Option Running) (after : Running) : Type 0 where
  pub running : Running
  pub was : old ≡ Some running
  pub of_task : after.task ≡ running.task
  pub leaves : (leaf : ℕ) → Contains after.leaves leaf → Contains running.leaves leaf

-- the same of what may run after it
abbrev pub AllCame : Option Running → Option Running → Type 0
AllCame old new = (after : Running) → new ≡ Some after → Came old after

-- a task that runs in a seat after a step ran there before
pub record Ran (core : Core) (seat task : ℕ) (after : Running) : Type 0 where
  pub view : View
  pub is_view : IsView core seat view
  pub running : Running
  pub runs : Runs view task running
  pub leaves : (leaf : ℕ) → Contains after.leaves leaf → Contains running.leaves leaf

-- where the seat's running task came from one before, so did each
pub Ran-from : (core : Core) (words : List ℕ) (seat : ℕ) (new : View) → seat < length core.views → AllCame (view_at core.views seat).running new.running
    → (other : ℕ) (view : View) (task : ℕ) (running : Running) → IsView (changed core words seat new) other view → Runs view task running → Ran core other task running
Ran-from core words seat new l came other view task running v r =
    elim (view_cases core words seat new other view l v) [
      | inl n ↦
          let c = came running (ap (λ (w : View). w.running) n.is ∙ r.is) in
          record {
            view = view_at core.views seat;
            is_view = subst (λ s. IsView core s (view_at core.views seat)) (sym n.of_seat) (IsView-view_at core seat l);
            running = c.running;
            runs = record { is = c.was; of_task = sym c.of_task ∙ r.of_task };
            leaves = c.leaves;
          }
      | inr o ↦ record { view = view; is_view = o.was; running = running; runs = r; leaves = λ leaf c. c }
    ]

-- a running task stands as it was where its claim and its cells do
pub IsRunning-moved : (shape : Shape) (core after : Core) (view view' : View) (running : Running) → IsRunning shape core view running → IsClaimed shape after running.task
    → (running.leaves ≢ [] → OwnsJust shape view' running.task) → IsRunning shape after view' running
IsRunning-moved shape core after view view' running r c owns = record {
  is_task = r.is_task;
  claimed = c;
  leaves = r.leaves;
  successors = r.successors;
  some_left = r.some_left;
  owns = λ some. (owns some, (r.owns some).1);
}

-- the running tasks, where claims stay
pub runs-kept : (shape : Shape) (core : Core) (words : List ℕ) (seat : ℕ) (new : View) → IsSound shape core → seat < length core.views
    → ((task : ℕ) → task < length shape.tasks → IsClaimed shape core task → IsClaimed shape (changed core words seat new) task)
    → ((running : Running) → new.running ≡ Some running → IsRunning shape (changed core words seat new) new running)
    → (other : ℕ) (view : View) (running : Running) → IsView (changed core words seat new) other view → view.running ≡ Some running → IsRunning shape (changed core words seat new) view running
runs-kept shape core words seat new sound l claims own other view running v r =
    elim (view_cases core words seat new other view l v) [
      | inl n ↦ subst (λ (w : View). IsRunning shape (changed core words seat new) w running) n.is (own running (ap (λ (w : View). w.running) n.is ∙ r))
      | inr o ↦
          let was = sound.tasks.runs other view running o.was r in
          IsRunning-moved shape core (changed core words seat new) view view running was (claims running.task was.is_task was.claimed) (λ some. (was.owns some).0)
    ]

-- one seat runs a task
pub one_runs-kept : (shape : Shape) (core : Core) (words : List ℕ) (seat : ℕ) (new : View) → IsSound shape core → seat < length core.views → AllCame (view_at core.views seat).running new.running
    → (one two task : ℕ) (view view' : View) (running running' : Running)
    → IsView (changed core words seat new) one view → IsView (changed core words seat new) two view' → Runs view task running → Runs view' task running' → one ≡ two
one_runs-kept shape core words seat new sound l came one two task view view' running running' v v' r r' =
    let a = Ran-from core words seat new l came one view task running v r in
    let b = Ran-from core words seat new l came two view' task running' v' r' in
    sound.tasks.one_runs one two task a.view b.view a.running b.running a.is_view b.is_view a.runs b.runs

-- the order, where the claims are the same
pub in_order-kept : (shape : Shape) (core : Core) (words : List ℕ) (seat : ℕ) (new : View) → IsSound shape core → seat < length core.views → AllCame (view_at core.views seat).running new.running
    → ((task : ℕ) → task < length shape.tasks → IsClaimed shape core task → IsClaimed shape (changed core words seat new) task)
    → ((task : ℕ) → task < length shape.tasks → IsClaimed shape (changed core words seat new) task → IsClaimed shape core task)
    → (before after leaf : ℕ) → before < length shape.tasks → after < length shape.tasks → IsEdge shape before after → IsClaimed shape (changed core words seat new) after
    → IsClaimed shape (changed core words seat new) before × (Touches shape before leaf → IsDone shape (changed core words seat new) before leaf)
in_order-kept shape core words seat new sound l came forth back before after leaf b a edge c =
    let was = sound.tasks.in_order before after leaf b a edge (back after a c) in (
      forth before b was.0,
      λ t. record {
        touches = t;
        claimed = forth before b was.0;
        none_left = λ other view running v r left.
            let ran = Ran-from core words seat new l came other view before running v r in
            (was.1 t).none_left other ran.view ran.running ran.is_view ran.runs (ran.leaves leaf left);
      },
    )

-- the edges from tasks that aren't claimed, where the claims are the same
pub unclaimed-kept : (shape : Shape) (core after : Core) (task : ℕ)
    → ((t : ℕ) → (slice_index after.words (task_place shape t) == claimed_word) ≡ (slice_index core.words (task_place shape t) == claimed_word))
    → unclaimed_edges shape after task ≡ unclaimed_edges shape core task
unclaimed-kept shape core after task same =
    sum_by-same (edges_from shape after task) (edges_from shape core task) (range_with_len 0 (length shape.tasks))
    (λ before. ap (λ b. cond b 0 (count_by (λ s. s == task) (task_at shape before).successors)) (same before))

-- the edges that aren't released, where the words are the same and as much is left
pub unreleased-kept : (shape : Shape) (core : Core) (words : List ℕ) (seat : ℕ) (new : View) (task : ℕ) → seat < length core.views
    → ((t : ℕ) → slice_index words (task_place shape t) ≡ slice_index core.words (task_place shape t))
    → left_in new.running task ≡ left_in (view_at core.views seat).running task
    → unreleased shape (changed core words seat new) task ≡ unreleased shape core task
unreleased-kept shape core words seat new task l same left =
    let a = unclaimed-kept shape core (changed core words seat new) task (λ t. ap (λ w. w == claimed_word) (same t)) in
    let b = sum_by-views (λ (v : View). left_in v.running task) core.views seat new l in
    omega arith

-- the tasks of a state, where the words are the same, as much is left to release, and no more to return
pub tasks-plain : (shape : Shape) (core : Core) (words : List ℕ) (seat : ℕ) (new : View) → IsSound shape core → seat < length core.views
    → ((t : ℕ) → slice_index words (task_place shape t) ≡ slice_index core.words (task_place shape t))
    → AllCame (view_at core.views seat).running new.running
    → ((t : ℕ) → left_in new.running t ≡ left_in (view_at core.views seat).running t)
    → ((running : Running) → new.running ≡ Some running → IsRunning shape (changed core words seat new) new running)
    → AreTasksSound shape (changed core words seat new)
tasks-plain shape core words seat new sound l same came left own = record {
  runs = runs-kept shape core words seat new sound l (λ t b c. same t ∙ c) own;
  one_runs = one_runs-kept shape core words seat new sound l came;
  task_words = λ t b n. same t ∙ sound.tasks.task_words t b (λ c. n (same t ∙ c)) ∙ sym (unreleased-kept shape core words seat new t l same (left t));
  claimed_ready = λ t b c. unreleased-kept shape core words seat new t l same (left t) ∙ sound.tasks.claimed_ready t b (sym (same t) ∙ c);
  in_order = in_order-kept shape core words seat new sound l came (λ t b c. same t ∙ c) (λ t b c. sym (same t) ∙ c);
}

-- the tasks of a state, where the seat runs what it ran
pub tasks-same : (shape : Shape) (core : Core) (words : List ℕ) (seat : ℕ) (new : View) → IsSound shape core → seat < length core.views
    → ((t : ℕ) → slice_index words (task_place shape t) ≡ slice_index core.words (task_place shape t))
    → new.running ≡ (view_at core.views seat).running
    → ((running : Running) → (view_at core.views seat).running ≡ Some running → running.leaves ≢ [] → OwnsJust shape new running.task)
    → AreTasksSound shape (changed core words seat new)
tasks-same shape core words seat new sound l same e owns =
    tasks-plain shape core words seat new sound l same
    (λ after a. record { running = after; was = sym e ∙ a; of_task = refl; leaves = λ leaf c. c })
    (λ t. ap (λ (o : Option Running). left_in o t) e)
    (λ running r.
    let was = sound.tasks.runs seat (view_at core.views seat) running (IsView-view_at core seat l) (sym e ∙ r) in
    IsRunning-moved shape core (changed core words seat new) (view_at core.views seat) new running was (same running.task ∙ was.claimed) (owns running (sym e ∙ r)))

-- what a view owns hangs on its chains alone
pub OwnsJust-chains : (shape : Shape) (view view' : View) (task : ℕ) → view.chains ≡ view'.chains → OwnsJust shape view task → OwnsJust shape view' task
OwnsJust-chains shape view view' task e owns cell = (
  λ o. (owns cell).0 (owns_by_chains shape view' view cell e o),
  λ is. owns_by_chains shape view view' cell (sym e) ((owns cell).1 is),
)

-- a task that isn't over has what is given, and something is left
pub record IsGoing (task : ℕ) (leaves successors : List ℕ) (running : Running) : Type 0 where
  pub is : ◌≡◌ {A = Running} (record { task = task; leaves = leaves; successors = successors }) running
  pub some : leaves ≡ [] → successors ≡ [] → ⊥

-- what `unless_over` gives isn't over
pub IsGoing-from : (task : ℕ) (leaves successors : List ℕ) (running : Running) → unless_over task leaves successors ≡ Some running → IsGoing task leaves successors running
IsGoing-from task [] [] running e = absurd (none-some running e)
IsGoing-from task [] (s ∷ ss) running e = record { is = same_Some _ _ e; some = λ p q. cc }
IsGoing-from task (l ∷ ls) [] running e = record { is = same_Some _ _ e; some = λ p q. cc }
IsGoing-from task (l ∷ ls) (s ∷ ss) running e = record { is = same_Some _ _ e; some = λ p q. cc }

-- as much is left to release
pub left-unless_over : (task : ℕ) (leaves successors : List ℕ) (t : ℕ) → left_in (unless_over task leaves successors) t ≡ count_by (λ s. s == t) successors
left-unless_over task [] [] t = refl
left-unless_over task [] (s ∷ ss) t = refl
left-unless_over task (l ∷ ls) [] t = refl
left-unless_over task (l ∷ ls) (s ∷ ss) t = refl
