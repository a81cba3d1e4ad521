-- Which words a step leaves, and the facts of a release.
use Rattle.std.proofs.Common.{◌≡◌, ◌≢◌, ℕ, ◌-◌, ◌<◌, ◌≤◌, List, length, slice_index, slice_set, Contains, ap, inl, inr, arith}
use Rattle.std.specs.Bool.{⊤}
use Rattle.std.proofs.lemmas.Bool.{cases_lt}
use Rattle.std.proofs.lemmas.List.{get_or_past, get_or-set_same, get_or-set_other}
use Rattle.lists.proofs.Elements.{first-contained}
use Rattle.lists.proofs.Counts.{count-pos}
use Rattle.qs_core.specs.declared.event.Step.{Step}
use Rattle.qs_core.specs.declared.event.Step.TheVariants.{Lock, Raise, Lower, Unlock, Fetch, Return, Claim, Release}
use Rattle.qs_core.specs.Shape.{Shape, IsShape, IsEdge, ancestors}
use Rattle.qs_core.specs.Core.{Core, View, Running, task_place, view_at}
use Rattle.qs_core.specs.Steps.{Allowed, CanRelease, newest, place_of, object_of, next_successor}
use Rattle.qs_core.specs.Sound.{IsSound, IsClaimed, left_in, unreleased}
use Rattle.qs_core.proofs.Ancestors.{ancestor_is_cell}
use Rattle.qs_core.proofs.Views.{IsView-view_at, part-le-sum_by}
use Rattle.qs_core.proofs.Chains.{newest_is}

-- the ancestors of a cell are cells, and past the last of them cell 0 is read
pub ancestor-below : (shape : Shape) (cell i : ℕ) → IsShape shape → cell < length shape.parents → slice_index (ancestors shape cell) i < length shape.parents
ancestor-below shape cell i s l =
    elim (cases_lt i (length (ancestors shape cell))) [
      | inl within ↦ ancestor_is_cell shape s cell i within
      | inr past ↦ let e : slice_index (ancestors shape cell) i ≡ 0 = get_or_past (ancestors shape cell) i 0 past in omega arith
    ]

-- the word of a task stays where another word is written
pub word-other : (shape : Shape) (words : List ℕ) (place value task : ℕ) → task_place shape task ≢ place → slice_index (slice_set words place value) (task_place shape task) ≡ slice_index words (task_place shape task)
word-other shape words place value task n = get_or-set_other words place (task_place shape task) value 0 n

-- a word that is written is there
pub word-same : (shape : Shape) (core : Core) (value task : ℕ) → IsSound shape core → task < length shape.tasks → slice_index (slice_set core.words (task_place shape task) value) (task_place shape task) ≡ value
word-same shape core value task s l = get_or-set_same core.words (task_place shape task) value 0 (let e = s.locks.words in omega arith)

-- a step on the word of a cell or a leaf
abbrev pub LeavesTasks : Step → Type 0
LeavesTasks (Claim task) = ⊥
LeavesTasks Release = ⊥
LeavesTasks _ = ⊤

-- its place is no task's
pub place-apart : (shape : Shape) (core : Core) (seat : ℕ) (step : Step) (task : ℕ) → IsShape shape → IsSound shape core → seat < length core.views → Allowed shape (view_at core.views seat) step → LeavesTasks step
    → task_place shape task ≢ place_of shape step (object_of shape (view_at core.views seat) step)
place-apart shape core seat (Lock cell) task s sound l a p = λ e. let c = a.is_cell in omega arith
place-apart shape core seat Raise task s sound l a p =
    let view = view_at core.views seat in
    let cell = (newest_is shape core seat l sound.locks.cells a.some).0 in
    let c = ancestor-below shape (newest view).cell (newest view).raises s cell in
    λ e. omega arith
place-apart shape core seat Lower task s sound l a p =
    let view = view_at core.views seat in
    let cell = (newest_is shape core seat l sound.locks.cells a.some).0 in
    let c = ancestor-below shape (newest view).cell ((newest view).raises - 1) s cell in
    λ e. omega arith
place-apart shape core seat Unlock task s sound l a p =
    let cell = (newest_is shape core seat l sound.locks.cells a.some).0 in
    λ e. omega arith
place-apart shape core seat (Fetch leaf) task s sound l a p = λ e. let c = a.is_leaf in omega arith
place-apart shape core seat (Return leaf) task s sound l a p = λ e. let c = a.is_leaf in omega arith
place-apart shape core seat (Claim t) task s sound l a p = absurd p
place-apart shape core seat Release task s sound l a p = absurd p

-- what is known where a successor is released
pub record IsReleasing (shape : Shape) (core : Core) (view : View) (running : Running) (after : ℕ) : Type 0 where
  pub next : next_successor view.running ≡ after
  pub left : Contains running.successors after
  pub edge : IsEdge shape running.task after
  pub is_task : after < length shape.tasks
  pub counted : 1 ≤ left_in view.running after
  pub unreleased : 1 ≤ unreleased shape core after
  pub unclaimed : IsClaimed shape core after → ⊥

-- it is known where a release is allowed
pub IsReleasing-from : (shape : Shape) (core : Core) (seat : ℕ) → IsShape shape → IsSound shape core → seat < length core.views → (a : CanRelease (view_at core.views seat))
    → IsReleasing shape core (view_at core.views seat) a.running (slice_index a.running.successors 0)
IsReleasing-from shape core seat s sound l a =
    let view = view_at core.views seat in
    let after = slice_index a.running.successors 0 in
    let v = IsView-view_at core seat l in
    let runs = sound.tasks.runs seat view a.running v a.runs in
    let left : Contains a.running.successors after = first-contained a.running.successors a.left in
    let edge = (runs.successors after).0 left in
    let below = ((s.tasks a.running.task runs.is_task).later after edge).1 in
    let counted : 1 ≤ left_in view.running after = rw a.runs (let c = count-pos a.running.successors after left in omega arith) in
    let part = part-le-sum_by (λ (v : View). left_in v.running after) core seat view v in
    let unreleased : 1 ≤ unreleased shape core after = omega arith in
    record {
      next = ap next_successor a.runs;
      left = left;
      edge = edge;
      is_task = below;
      counted = counted;
      unreleased = unreleased;
      unclaimed = λ c. let z = sound.tasks.claimed_ready after below c in omega arith;
    }
