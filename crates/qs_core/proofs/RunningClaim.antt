-- The tasks after a claim.
use Rattle.std.proofs.Common.{◌≡◌, ◌≢◌, ℕ, ◌+◌, ◌<◌, ◌⊎◌, ◌==◌, cond, List, length, slice_index, slice_set, count_by, Contains, Option, Some, refl, sym, ap, ◌∙◌, subst, inl, inr, arith}
use Rattle.std.proofs.lemmas.Bool.{cases_eq, eq-eqb, ne_eqb}
use Rattle.std.proofs.lemmas.Option.{none-some, same_Some}
use Rattle.lists.proofs.Ranges.{sum_by-range_change}
use Rattle.qs_core.specs.declared.event.Step.TheVariants.{Claim}
use Rattle.qs_core.specs.Shape.{Shape, IsShape, IsEdge, Touches, task_at}
use Rattle.qs_core.specs.Core.{Core, View, Running, task_place, claimed_word, view_at}
use Rattle.qs_core.specs.Steps.{CanClaim, stepped, started}
use Rattle.qs_core.specs.Sound.{IsSound, IsView, IsClaimed, IsDone, IsRunning, Runs, left_in, unclaimed_edges, unreleased, edges_from, AreTasksSound, IsReleased}
use Rattle.qs_core.proofs.Tasks.{word-other, word-same}
use Rattle.qs_core.proofs.Views.{changed, view_cases, sum_by-views}
use Rattle.qs_core.proofs.Running.{OwnsJust-chains, runs-kept, tasks-same}
use Rattle.qs_core.proofs.RunningLeaves.{leaves-once, leaves-some}
use Rattle.qs_core.proofs.ReleasedEdges.{each_released, edges_from-other, edges_from-claimed}
use Rattle.lists.proofs.Elements.{Contains-nil}

-- the view after a claim that saw 0
abbrev pub claiming : Shape → View → ℕ → View
claiming shape view task = record view { running = Some (started shape task) }

-- the words after it
abbrev claimed : Shape → Core → ℕ → List ℕ
claimed shape core task = slice_set core.words (task_place shape task) claimed_word

-- what is known where a claim saw 0
record CanStart (shape : Shape) (core : Core) (seat task : ℕ) : Type 0 where
  shape_is : IsShape shape
  sound : IsSound shape core
  seat_is : seat < length core.views
  can : CanClaim shape (view_at core.views seat) task
  zero_seen : slice_index core.words (task_place shape task) ≡ 0

-- the state after it
abbrev next : Shape → Core → ℕ → ℕ → Core
next shape core seat task = changed core (claimed shape core task) seat (claiming shape (view_at core.views seat) task)

-- the task wasn't claimed
unclaimed-start : (shape : Shape) (core : Core) (seat task : ℕ) → CanStart shape core seat task → IsClaimed shape core task → ⊥
unclaimed-start shape core seat task k c = let z = k.zero_seen in omega arith

-- and now it is
claimed-start : (shape : Shape) (core : Core) (seat task : ℕ) → CanStart shape core seat task → IsClaimed shape (next shape core seat task) task
claimed-start shape core seat task k = word-same shape core claimed_word task k.sound k.can.is_task

-- the word of another stays
other-start : (shape : Shape) (core : Core) (seat task t : ℕ) → t ≢ task → slice_index (claimed shape core task) (task_place shape t) ≡ slice_index core.words (task_place shape t)
other-start shape core seat task t n = word-other shape core.words (task_place shape task) claimed_word t (λ e. n (omega arith))

-- a claimed task stays claimed
stays-start : (shape : Shape) (core : Core) (seat task : ℕ) → CanStart shape core seat task → (t : ℕ) → IsClaimed shape core t → IsClaimed shape (next shape core seat task) t
stays-start shape core seat task k t c =
    other-start shape core seat task t (λ e. unclaimed-start shape core seat task k (subst (IsClaimed shape core) e c)) ∙ c

-- another task was claimed before
back-start : (shape : Shape) (core : Core) (seat task : ℕ) → CanStart shape core seat task → (t : ℕ) → t ≢ task → IsClaimed shape (next shape core seat task) t → IsClaimed shape core t
back-start shape core seat task k t n c = sym (other-start shape core seat task t n) ∙ c

-- its edges aren't those of an unclaimed task any more
unclaimed-edges-start : (shape : Shape) (core : Core) (seat task : ℕ) → CanStart shape core seat task → (t : ℕ)
    → unclaimed_edges shape (next shape core seat task) t + count_by (λ s. s == t) (task_at shape task).successors ≡ unclaimed_edges shape core t
unclaimed-edges-start shape core seat task k t =
    let f = edges_from shape (next shape core seat task) t in
    let g = edges_from shape core t in
    let c = sum_by-range_change f g task 0 (length shape.tasks)
    (λ i n. ap (λ w. cond (w == claimed_word) 0 (count_by (λ s. s == t) (task_at shape i).successors)) (other-start shape core seat task i n)) (omega arith) (let l = k.can.is_task in omega arith) in
    let none = edges_from-claimed shape (next shape core seat task) t task (claimed-start shape core seat task k) in
    let all = edges_from-other shape core t task (unclaimed-start shape core seat task k) in
    omega arith

-- as many edges are left to release as before
unreleased-start : (shape : Shape) (core : Core) (seat task : ℕ) → CanStart shape core seat task → (t : ℕ) → unreleased shape (next shape core seat task) t ≡ unreleased shape core t
unreleased-start shape core seat task k t =
    let a = unclaimed-edges-start shape core seat task k t in
    let b = sum_by-views (λ (v : View). left_in v.running t) core.views seat (claiming shape (view_at core.views seat) task) k.seat_is in
    let none : left_in (view_at core.views seat).running t ≡ 0 = ap (λ (o : Option Running). left_in o t) k.can.free.none_runs in
    omega arith

-- no edge into the task is left
ready-start : (shape : Shape) (core : Core) (seat task : ℕ) → CanStart shape core seat task → unreleased shape core task ≡ 0
ready-start shape core seat task k = sym (k.sound.tasks.task_words task k.can.is_task (unclaimed-start shape core seat task k)) ∙ k.zero_seen

-- the task as it starts
running-start : (shape : Shape) (core : Core) (seat task : ℕ) → CanStart shape core seat task
    → IsRunning shape (next shape core seat task) (claiming shape (view_at core.views seat) task) (started shape task)
running-start shape core seat task k = record {
  is_task = k.can.is_task;
  claimed = claimed-start shape core seat task k;
  leaves = λ leaf. ((λ c. c), leaves-once shape task leaf k.shape_is k.can.is_task);
  successors = λ after. ((λ c. c), (k.shape_is.tasks task k.can.is_task).once after);
  some_left = λ none _. leaves-some shape task k.shape_is k.can.is_task none;
  owns = λ some. (OwnsJust-chains shape (view_at core.views seat) (claiming shape (view_at core.views seat) task) task refl k.can.owns, refl);
}

-- a view that runs a task after the claim: the claimed one in this seat, or another that ran there before
one_runs-start : (shape : Shape) (core : Core) (seat task : ℕ) → CanStart shape core seat task → (one two t : ℕ) (view view' : View) (running running' : Running)
    → IsView (next shape core seat task) one view → IsView (next shape core seat task) two view' → Runs view t running → Runs view' t running' → one ≡ two
one_runs-start shape core seat task k one two t view view' running running' v v' r r' =
    elim (cases one view running v r) [
      | inl a ↦
          elim (cases two view' running' v' r') [
            | inl b ↦ a.0 ∙ sym b.0
            | inr b ↦ absurd (unclaimed-start shape core seat task k (subst (IsClaimed shape core) a.1 (was_claimed two view' running' b r')))
          ]
      | inr a ↦
          elim (cases two view' running' v' r') [
            | inl b ↦ absurd (unclaimed-start shape core seat task k (subst (IsClaimed shape core) b.1 (was_claimed one view running a r)))
            | inr b ↦ k.sound.tasks.one_runs one two t view view' running running' a b r r'
          ]
    ]
  where
    cases : (s : ℕ) (w : View) (run : Running) → IsView (next shape core seat task) s w → Runs w t run → ((s ≡ seat) × (t ≡ task)) ⊎ IsView core s w
    cases s w run v r =
        elim (view_cases core (claimed shape core task) seat (claiming shape (view_at core.views seat) task) s w k.seat_is v) [
          | inl n ↦ inl (n.of_seat, sym r.of_task ∙ ap (λ (x : Running). x.task) (same_Some run (started shape task) (sym r.is ∙ sym (ap (λ (x : View). x.running) n.is))))
          | inr o ↦ inr o.was
        ]

    was_claimed : (s : ℕ) (w : View) (run : Running) → IsView core s w → Runs w t run → IsClaimed shape core t
    was_claimed s w run v r = subst (IsClaimed shape core) r.of_task (k.sound.tasks.runs s w run v r.is).claimed

-- a task that was claimed doesn't run in this seat after the claim
not_here : (shape : Shape) (core : Core) (seat task : ℕ) → CanStart shape core seat task → (before : ℕ) → IsClaimed shape core before → (other : ℕ) (view : View) (running : Running)
    → IsView (next shape core seat task) other view → Runs view before running → IsView core other view
not_here shape core seat task k before c other view running v r =
    elim (view_cases core (claimed shape core task) seat (claiming shape (view_at core.views seat) task) other view k.seat_is v) [
      | inl n ↦
          let e : before ≡ task = sym r.of_task ∙ ap (λ (x : Running). x.task) (same_Some running (started shape task) (sym r.is ∙ sym (ap (λ (x : View). x.running) n.is))) in
          absurd (unclaimed-start shape core seat task k (subst (IsClaimed shape core) e c))
      | inr o ↦ o.was
    ]

-- each edge into it is released
released-start : (shape : Shape) (core : Core) (seat task : ℕ) → CanStart shape core seat task → (before : ℕ) → before < length shape.tasks → IsEdge shape before task → IsReleased shape core before task
released-start shape core seat task k before l edge = each_released shape core task before (ready-start shape core seat task k) l edge

-- so a task before it had no leaf left: else all its successors were left, this task among them
before-done : (shape : Shape) (core : Core) (seat task : ℕ) → CanStart shape core seat task → (before leaf other : ℕ) (view : View) (running : Running) → before < length shape.tasks → IsEdge shape before task
    → IsView core other view → Runs view before running → Contains running.leaves leaf → ⊥
before-done shape core seat task k before leaf other view running l edge v r c =
    let run = k.sound.tasks.runs other view running v r.is in
    let all = (run.owns (λ e. Contains-nil leaf (subst (λ (ls : List ℕ). Contains ls leaf) e c))).1 in
    let edge' : IsEdge shape running.task task = subst (λ b. IsEdge shape b task) (sym r.of_task) edge in
    (released-start shape core seat task k before l edge).none_left other view running v r (subst (λ (ss : List ℕ). Contains ss task) (sym all) edge')

-- the order after the claim
in_order-start : (shape : Shape) (core : Core) (seat task : ℕ) → CanStart shape core seat task → (before after leaf : ℕ) → before < length shape.tasks → after < length shape.tasks
    → IsEdge shape before after → IsClaimed shape (next shape core seat task) after
    → IsClaimed shape (next shape core seat task) before × (Touches shape before leaf → IsDone shape (next shape core seat task) before leaf)
in_order-start shape core seat task k before after leaf b a edge c =
    elim (cases_eq after task) [
      | inl e ↦
          let edge' : IsEdge shape before task = subst (λ t. IsEdge shape before t) e edge in
          let was = (released-start shape core seat task k before b edge').claimed in
          let now = stays-start shape core seat task k before was in (
            now,
            λ t. record {
              touches = t;
              claimed = now;
              none_left = λ other view running v r left.
                  before-done shape core seat task k before leaf other view running b edge' (not_here shape core seat task k before was other view running v r) r left;
            },
          )
      | inr n ↦
          let was = k.sound.tasks.in_order before after leaf b a edge (back-start shape core seat task k after n c) in
          let now = stays-start shape core seat task k before was.0 in (
            now,
            λ t. record {
              touches = t;
              claimed = now;
              none_left = λ other view running v r left.
                  (was.1 t).none_left other view running (not_here shape core seat task k before was.0 other view running v r) r left;
            },
          )
    ]

-- the tasks after a claim that saw 0
tasks-start : (shape : Shape) (core : Core) (seat task : ℕ) → CanStart shape core seat task → AreTasksSound shape (next shape core seat task)
tasks-start shape core seat task k = record {
  runs =
      runs-kept shape core (claimed shape core task) seat (claiming shape (view_at core.views seat) task) k.sound k.seat_is (λ t l c. stays-start shape core seat task k t c)
      (λ running r. subst (λ (x : Running). IsRunning shape (next shape core seat task) (claiming shape (view_at core.views seat) task) x) (same_Some (started shape task) running r) (running-start shape core seat task k));
  one_runs = one_runs-start shape core seat task k;
  task_words = λ t l n.
      elim (cases_eq t task) [
        | inl e ↦ absurd (n (subst (IsClaimed shape (next shape core seat task)) (sym e) (claimed-start shape core seat task k)))
        | inr m ↦
            let same = other-start shape core seat task t m in
            same ∙ k.sound.tasks.task_words t l (λ c. n (same ∙ c)) ∙ sym (unreleased-start shape core seat task k t)
      ];
  claimed_ready = λ t l c.
      unreleased-start shape core seat task k t
      ∙ elim (cases_eq t task) [
        | inl e ↦ subst (λ x. unreleased shape core x ≡ 0) (sym e) (ready-start shape core seat task k)
        | inr m ↦ k.sound.tasks.claimed_ready t l (back-start shape core seat task k t m c)
      ];
  in_order = in_order-start shape core seat task k;
}

-- the tasks after a claim, whatever it saw
pub tasks-claim : (shape : Shape) (core : Core) (seat task : ℕ) → IsShape shape → IsSound shape core → seat < length core.views → CanClaim shape (view_at core.views seat) task
    → AreTasksSound shape (stepped shape core seat (Claim task))
tasks-claim shape core seat task s sound l can = go (cases_eq (slice_index core.words (task_place shape task)) 0)
  where
    go : (slice_index core.words (task_place shape task) ≡ 0) ⊎ (slice_index core.words (task_place shape task) ≡ 0 → ⊥) → AreTasksSound shape (stepped shape core seat (Claim task))
    go (inl z) =
        let t = eq-eqb (slice_index core.words (task_place shape task)) 0 z in
        subst (λ b. AreTasksSound shape (changed core
        (slice_set core.words (task_place shape task) (cond b claimed_word (slice_index core.words (task_place shape task)))) seat
        (cond b (claiming shape (view_at core.views seat) task) (view_at core.views seat)))) (sym t)
        (tasks-start shape core seat task (record { shape_is = s; sound = sound; seat_is = l; can = can; zero_seen = z }))
    go (inr n) =
        let f = ne_eqb (slice_index core.words (task_place shape task)) 0 n in
        subst (λ b. AreTasksSound shape (changed core
        (slice_set core.words (task_place shape task) (cond b claimed_word (slice_index core.words (task_place shape task)))) seat
        (cond b (claiming shape (view_at core.views seat) task) (view_at core.views seat)))) (sym f)
        (tasks-same shape core (slice_set core.words (task_place shape task) (slice_index core.words (task_place shape task))) seat (view_at core.views seat) sound l
        (λ t. elim (cases_eq t task) [
          | inl e ↦ subst (λ u. slice_index (slice_set core.words (task_place shape task) (slice_index core.words (task_place shape task))) (task_place shape u) ≡ slice_index core.words (task_place shape u)) (sym e)
              (word-same shape core (slice_index core.words (task_place shape task)) task sound can.is_task)
          | inr m ↦ word-other shape core.words (task_place shape task) _ t (λ e. m (omega arith))
        ])
        refl
        (λ running r. absurd (none-some running (sym can.free.none_runs ∙ r))))
