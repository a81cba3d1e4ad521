-- The tasks after a release.
use Rattle.std.proofs.Common.{◌≡◌, ◌≢◌, ℕ, ◌+◌, ◌-◌, ◌%◌, ◌^◌, ◌<◌, ◌≤◌, ◌==◌, cond, List, [], ◌∷◌, length, slice_index, slice_set, count_by, Contains, Option, Some, refl, sym, ap, ◌∙◌, subst, inl, inr, arith}
use Rattle.std.proofs.lemmas.Bool.{cases_eq, eq-eqb, ne_eqb, cond-true, cond-false}
use Rattle.std.proofs.lemmas.List.Sums.{sum_by-cons}
use Rattle.lists.proofs.Elements.{Contains-later}
use Rattle.qs_core.specs.declared.event.Step.TheVariants.{Release}
use Rattle.qs_core.specs.Shape.{Shape, IsShape}
use Rattle.qs_core.specs.Core.{Core, View, Running, task_place, claimed_word, view_at}
use Rattle.qs_core.specs.Steps.{CanRelease, after_release, next_successor, rest, stepped}
use Rattle.qs_core.specs.Sound.{IsSound, IsClaimed, IsRunning, left_in, unreleased, AreTasksSound}
use Rattle.qs_core.proofs.Tasks.{IsReleasing, IsReleasing-from, word-other, word-same}
use Rattle.qs_core.proofs.Views.{IsView-view_at, changed, sum_by-views}
use Rattle.qs_core.proofs.Running.{AllCame, IsGoing-from, in_order-kept, left-unless_over, one_runs-kept, runs-kept, unclaimed-kept}
use Rattle.qs_core.proofs.UnreleasedEdges.{unreleased-few}

-- a word above 0 falls by one
falls : (word : ℕ) → 1 ≤ word → word < 2 ^ 64 → (word + (2 ^ 64 - 1)) % 2 ^ 64 + 1 ≡ word
falls word some few = omega arith

-- an element of the rest is one of the whole
Contains-rest : (xs : List ℕ) (x : ℕ) → Contains (rest xs) x → Contains xs x
Contains-rest [] x c = c
Contains-rest (y ∷ ys) x c = Contains-later y ys x c

-- the first element and the rest are counted
count-rest : (xs : List ℕ) (t : ℕ) → xs ≢ [] → count_by (λ y. y == t) xs ≡ cond (slice_index xs 0 == t) 1 0 + count_by (λ y. y == t) (rest xs)
count-rest [] t some = absurd (some refl)
count-rest (y ∷ ys) t some = sum_by-cons (λ z. cond (z == t) 1 0) y ys

-- the view after a release of a running task
abbrev pub releasing : View → Option Running → View
releasing view old = record view { running = after_release old }

-- the words after it
abbrev fallen : Shape → Core → ℕ → List ℕ
fallen shape core after = slice_set core.words (task_place shape after) ((slice_index core.words (task_place shape after) + (2 ^ 64 - 1)) % 2 ^ 64)

-- the state after it
abbrev next : Shape → Core → ℕ → Running → Core
next shape core seat running = changed core (fallen shape core (slice_index running.successors 0)) seat (releasing (view_at core.views seat) (Some running))

-- what is known where a running task releases its next successor
record CanGo (shape : Shape) (core : Core) (seat : ℕ) (running : Running) : Type 0 where
  shape_is : IsShape shape
  sound : IsSound shape core
  seat_is : seat < length core.views
  runs : (view_at core.views seat).running ≡ Some running
  returned : running.leaves ≡ []
  left : running.successors ≢ []
  releases : IsReleasing shape core (view_at core.views seat) running (slice_index running.successors 0)

-- the word of the successor falls by one
word-fallen : (shape : Shape) (core : Core) (seat : ℕ) (running : Running) → CanGo shape core seat running
    → slice_index (fallen shape core (slice_index running.successors 0)) (task_place shape (slice_index running.successors 0)) + 1 ≡ unreleased shape core (slice_index running.successors 0)
word-fallen shape core seat running k =
    let after = slice_index running.successors 0 in
    let word = slice_index core.words (task_place shape after) in
    let is : word ≡ unreleased shape core after = k.sound.tasks.task_words after k.releases.is_task k.releases.unclaimed in
    let some = k.releases.unreleased in
    let few = unreleased-few shape core after k.shape_is k.sound in
    let m = k.shape_is.few_tasks in
    let there = word-same shape core ((word + (2 ^ 64 - 1)) % 2 ^ 64) after k.sound k.releases.is_task in
    let f = falls word (omega arith) (omega arith) in
    ap (λ w. w + 1) there ∙ f ∙ is

-- and isn't the claimed one
unclaimed-fallen : (shape : Shape) (core : Core) (seat : ℕ) (running : Running) → CanGo shape core seat running → IsClaimed shape (next shape core seat running) (slice_index running.successors 0) → ⊥
unclaimed-fallen shape core seat running k c =
    let w = word-fallen shape core seat running k in
    let few = unreleased-few shape core (slice_index running.successors 0) k.shape_is k.sound in
    let m = k.shape_is.few_tasks in
    omega arith

-- the word of another task stays
other-fallen : (shape : Shape) (core : Core) (after t : ℕ) → t ≢ after → slice_index (fallen shape core after) (task_place shape t) ≡ slice_index core.words (task_place shape t)
other-fallen shape core after t n = word-other shape core.words (task_place shape after) _ t (λ e. n (omega arith))

-- what was claimed is claimed after it
forth : (shape : Shape) (core : Core) (seat : ℕ) (running : Running) → CanGo shape core seat running → (t : ℕ) → IsClaimed shape core t → IsClaimed shape (next shape core seat running) t
forth shape core seat running k t c =
    other-fallen shape core (slice_index running.successors 0) t (λ e. k.releases.unclaimed (subst (IsClaimed shape core) e c)) ∙ c

-- a task claimed after it isn't the successor
apart : (shape : Shape) (core : Core) (seat : ℕ) (running : Running) → CanGo shape core seat running → (t : ℕ) → IsClaimed shape (next shape core seat running) t → t ≢ slice_index running.successors 0
apart shape core seat running k t c e = unclaimed-fallen shape core seat running k (subst (IsClaimed shape (next shape core seat running)) e c)

-- what is claimed after it was claimed before
back : (shape : Shape) (core : Core) (seat : ℕ) (running : Running) → CanGo shape core seat running → (t : ℕ) → IsClaimed shape (next shape core seat running) t → IsClaimed shape core t
back shape core seat running k t c = sym (other-fallen shape core (slice_index running.successors 0) t (apart shape core seat running k t c)) ∙ c

-- so the tests of the words are the same
tests_same : (shape : Shape) (core : Core) (seat : ℕ) (running : Running) → CanGo shape core seat running → (t : ℕ)
    → (slice_index (fallen shape core (slice_index running.successors 0)) (task_place shape t) == claimed_word) ≡ (slice_index core.words (task_place shape t) == claimed_word)
tests_same shape core seat running k t =
    elim (cases_eq (slice_index core.words (task_place shape t)) claimed_word) [
      | inl c ↦ eq-eqb _ _ (forth shape core seat running k t c) ∙ sym (eq-eqb _ _ c)
      | inr n ↦ ne_eqb _ _ (λ c. n (back shape core seat running k t c)) ∙ sym (ne_eqb _ _ n)
    ]

-- one edge into the successor is released
unreleased-fallen : (shape : Shape) (core : Core) (seat : ℕ) (running : Running) → CanGo shape core seat running → (t : ℕ)
    → unreleased shape (next shape core seat running) t + cond (slice_index running.successors 0 == t) 1 0 ≡ unreleased shape core t
unreleased-fallen shape core seat running k t =
    let view = view_at core.views seat in
    let a = unclaimed-kept shape core (next shape core seat running) t (tests_same shape core seat running k) in
    let b = sum_by-views (λ (v : View). left_in v.running t) core.views seat (releasing view (Some running)) k.seat_is in
    let new = left-unless_over running.task running.leaves (rest running.successors) t in
    let old : left_in view.running t ≡ count_by (λ y. y == t) running.successors = ap (λ (o : Option Running). left_in o t) k.runs in
    let one = count-rest running.successors t k.left in
    omega arith

-- the edges into another task stay
unreleased-other : (shape : Shape) (core : Core) (seat : ℕ) (running : Running) → CanGo shape core seat running → (t : ℕ) → t ≢ slice_index running.successors 0
    → unreleased shape (next shape core seat running) t ≡ unreleased shape core t
unreleased-other shape core seat running k t n =
    let u = unreleased-fallen shape core seat running k t in
    let z = cond-false {A = ℕ} (slice_index running.successors 0 == t) 1 0 (ne_eqb _ _ (λ e. n (sym e))) in
    omega arith

-- what runs after a release ran before it
came-release : (running : Running) → AllCame (Some running) (after_release (Some running))
came-release running after e =
    let left = IsGoing-from running.task running.leaves (rest running.successors) after e in
    record {
      running = running;
      was = refl;
      of_task = ap (λ (r : Running). r.task) (sym left.is);
      leaves = λ l c. subst (λ (r : Running). Contains r.leaves l) (sym left.is) c;
    }

-- the running task with a successor fewer
own-release : (shape : Shape) (core : Core) (seat : ℕ) (running : Running) → CanGo shape core seat running → (after : Running) → after_release (Some running) ≡ Some after
    → IsRunning shape (next shape core seat running) (releasing (view_at core.views seat) (Some running)) after
own-release shape core seat running k after e =
    let view = view_at core.views seat in
    let left = IsGoing-from running.task running.leaves (rest running.successors) after e in
    let was = k.sound.tasks.runs seat view running (IsView-view_at core seat k.seat_is) k.runs in
    subst (λ (r : Running). IsRunning shape (next shape core seat running) (releasing view (Some running)) r) left.is (record {
      is_task = was.is_task;
      claimed = forth shape core seat running k running.task was.claimed;
      leaves = was.leaves;
      successors = λ t. (
        (λ c. (was.successors t).0 (Contains-rest running.successors t c)),
        let a = count-rest running.successors t k.left in let b = (was.successors t).1 in omega arith,
      );
      some_left = left.some;
      owns = λ some. absurd (some k.returned);
    })

-- the tasks after a release by a running task
tasks-fallen : (shape : Shape) (core : Core) (seat : ℕ) (running : Running) → CanGo shape core seat running → AreTasksSound shape (next shape core seat running)
tasks-fallen shape core seat running k =
    let view = view_at core.views seat in
    let words = fallen shape core (slice_index running.successors 0) in
    let new = releasing view (Some running) in
    let came : AllCame view.running new.running = subst (λ (o : Option Running). AllCame o new.running) (sym k.runs) (came-release running) in
    record {
      runs = runs-kept shape core words seat new k.sound k.seat_is (λ t l c. forth shape core seat running k t c) (own-release shape core seat running k);
      one_runs = one_runs-kept shape core words seat new k.sound k.seat_is came;
      task_words = λ t l n.
          elim (cases_eq t (slice_index running.successors 0)) [
            | inl e ↦
                let w = word-fallen shape core seat running k in
                let u = unreleased-fallen shape core seat running k (slice_index running.successors 0) in
                let z = cond-true {A = ℕ} (slice_index running.successors 0 == slice_index running.successors 0) 1 0 (eq-eqb _ _ refl) in
                subst (λ t. slice_index words (task_place shape t) ≡ unreleased shape (next shape core seat running) t) (sym e) (omega arith)
            | inr m ↦
                let same = other-fallen shape core (slice_index running.successors 0) t m in
                same ∙ k.sound.tasks.task_words t l (λ c. n (same ∙ c)) ∙ sym (unreleased-other shape core seat running k t m)
          ];
      claimed_ready = λ t l c.
          unreleased-other shape core seat running k t (apart shape core seat running k t c) ∙ k.sound.tasks.claimed_ready t l (back shape core seat running k t c);
      in_order = in_order-kept shape core words seat new k.sound k.seat_is came (λ t l c. forth shape core seat running k t c) (λ t l c. back shape core seat running k t c);
    }

-- it is known where a release is allowed
CanGo-from : (shape : Shape) (core : Core) (seat : ℕ) → IsShape shape → IsSound shape core → seat < length core.views → (can : CanRelease (view_at core.views seat)) → CanGo shape core seat can.running
CanGo-from shape core seat s sound l can =
    record { shape_is = s; sound = sound; seat_is = l; runs = can.runs; returned = can.returned; left = can.left; releases = IsReleasing-from shape core seat s sound l can }

-- the state after a release of what runs
abbrev released : Shape → Core → ℕ → Option Running → Core
released shape core seat old = changed core (fallen shape core (next_successor old)) seat (releasing (view_at core.views seat) old)

-- the tasks after a release
pub tasks-release : (shape : Shape) (core : Core) (seat : ℕ) → IsShape shape → IsSound shape core → seat < length core.views → CanRelease (view_at core.views seat)
    → AreTasksSound shape (stepped shape core seat Release)
tasks-release shape core seat s sound l can =
    subst (λ (o : Option Running). AreTasksSound shape (released shape core seat o)) (sym can.runs) (tasks-fallen shape core seat can.running (CanGo-from shape core seat s sound l can))

-- what is claimed after a release was claimed before it
pub claimed_before_release : (shape : Shape) (core : Core) (seat task : ℕ) → IsShape shape → IsSound shape core → seat < length core.views → CanRelease (view_at core.views seat)
    → IsClaimed shape (stepped shape core seat Release) task → IsClaimed shape core task
claimed_before_release shape core seat task s sound l can c =
    back shape core seat can.running (CanGo-from shape core seat s sound l can) task (subst (λ (o : Option Running). IsClaimed shape (released shape core seat o) task) can.runs c)
