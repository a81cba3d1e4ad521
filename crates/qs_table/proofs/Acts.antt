-- A step of the machine, as a seat at the shared words makes it.
use Rattle.std.proofs.Common.{◌≡◌, ℕ, ◌+◌, ◌<◌, ◌⊎◌, ◌↔◌, ◌==◌, cond, Bool, false, List, ◌∷◌, length, map, slice_index, slice_set, sum_by, count_by, Contains, Option, Some, refl, sym, ap, ◌∙◌, subst, inl, inr, length-set, arith}
use Rattle.std.specs.Prelude.{⊤}
use Rattle.std.proofs.lemmas.Bool.{cases_eq, cases_lt, cond_both}
use Rattle.std.proofs.lemmas.List.Sums.{sum_by_push}
use Rattle.std.proofs.lemmas.List.{get_or_past}
use Rattle.std.proofs.lemmas.Option.{slice_get_within}
use mathlib.Core.Option as maybe
use lib.ListN.{get_elem?}
use Rattle.qs_core.specs.declared.event.Event.{Event}
use Rattle.qs_core.specs.declared.event.Note.{Note}
use Rattle.qs_core.specs.declared.event.Step.{Step}
use Rattle.qs_core.specs.declared.event.Step.TheVariants.{Lock, Raise, Lower, Unlock, Fetch, Return, Claim, Release}
use Rattle.qs_core.specs.Shape.{Shape, IsShape}
use Rattle.qs_core.specs.Core.{Core, View, claimed_word, task_place, view_at}
use Rattle.qs_core.specs.Steps.{Allowed, CanReturn, IsAllowed, effect, exchanged, new_chain, object_of, place_of, started, view_after}
use Rattle.qs_core.specs.Sound.{IsClaimed, IsDone, IsSound, IsView, outs_of, unreleased}
use Rattle.qs_core.specs.Runs.{ReturnsWork}
use Rattle.qs_core.proofs.SoundKept.{sound_kept}
use Rattle.qs_core.proofs.DoneSteps.{steps_change_done}
use Rattle.qs_core.proofs.Claims.{claimed_stays}
use Rattle.qs_core.proofs.Tasks.{LeavesTasks}
use Rattle.qs_core.proofs.RunningKept.{same_words}
use Rattle.qs_core.proofs.Outs.{out_count, outs_change}
use Rattle.qs_core.proofs.Views.{IsView-changed_other, view_at_is}
use Rattle.lists.proofs.Counts.{count-pos}
use Rattle.lists.proofs.Elements.{Contains-map}
use Rattle.lists.proofs.Places.{Contains-from_slice_get, slice_get-set_same}
use Rattle.lists.proofs.Sums.{same_place, share-le}
use Rattle.qs_table.specs.declared.view.Fetched.{Fetched}
use Rattle.qs_table.specs.declared.view.SeatView.{SeatView}
use Rattle.qs_table.specs.Notes.{claims_of, claims_task, frees_task, frees_of}
use Rattle.qs_table.specs.Rule.{AreDoneOn, AreOut, AreSeats}
use Rattle.qs_table.specs.Views.{knows_with, noted}
use Rattle.qs_table.proofs.Bundles.{Changes, changed_length}

-- a step on the word of a cell leaves the leaves and the tasks
abbrev pub IsCellStep : Step → Type 0
IsCellStep (Lock cell) = ⊤
IsCellStep Raise = ⊤
IsCellStep Lower = ⊤
IsCellStep Unlock = ⊤
IsCellStep _ = ⊥

abbrev pub KeepsLeaves : Step → Type 0
KeepsLeaves (Fetch leaf) = ⊥
KeepsLeaves (Return leaf) = ⊥
KeepsLeaves _ = ⊤

pub leaves_tasks : (step : Step) → IsCellStep step → LeavesTasks step
leaves_tasks (Lock cell) c = tt
leaves_tasks Raise c = tt
leaves_tasks Lower c = tt
leaves_tasks Unlock c = tt
leaves_tasks (Fetch leaf) c = absurd c
leaves_tasks (Return leaf) c = absurd c
leaves_tasks (Claim task) c = absurd c
leaves_tasks Release c = absurd c

pub keeps_leaves : (step : Step) → IsCellStep step → KeepsLeaves step
keeps_leaves (Lock cell) c = tt
keeps_leaves Raise c = tt
keeps_leaves Lower c = tt
keeps_leaves Unlock c = tt
keeps_leaves (Fetch leaf) c = absurd c
keeps_leaves (Return leaf) c = absurd c
keeps_leaves (Claim task) c = absurd c
keeps_leaves Release c = absurd c

-- what is out stays so
pub same_out : (shape : Shape) (view : View) (step : Step) (seen : ℕ) → KeepsLeaves step → (view_after shape view step seen).out ≡ view.out
same_out shape view (Lock cell) seen c = cond_both (seen == 0) (record view { chains = new_chain cell ∷ view.chains }) view (λ (v : View). v.out ≡ view.out) (λ _. refl) (λ _. refl)
same_out shape view Raise seen c = refl
same_out shape view Lower seen c = refl
same_out shape view Unlock seen c = refl
same_out shape view (Fetch leaf) seen c = absurd c
same_out shape view (Return leaf) seen c = absurd c
same_out shape view (Claim task) seen c =
    cond_both (seen == 0) (record view { running = Some (started shape task) }) view (λ (v : View). v.out ≡ view.out) (λ _. refl) (λ _. refl)
same_out shape view Release seen c = refl

-- a leaf that is noted is out
pub fetched_is_out : (fetched : List Fetched) (out : List ℕ) (f : Fetched) → map (λ (g : Fetched). g.leaf) fetched ≡ out → Contains fetched f → Contains out f.leaf
fetched_is_out fetched out f is c = subst (λ (xs : List ℕ). Contains xs f.leaf) is (Contains-map (λ (g : Fetched). g.leaf) fetched f c)

-- a leaf that a seat has out is out
pub some_has : (core : Core) (u : SeatView) (leaf : ℕ) → IsView core u.place u.holds → Contains u.holds.out leaf → 0 < outs_of leaf core.views
some_has core u leaf is c =
    let share = share-le (λ (w : View). out_count leaf w.out) core.views u.holds (Contains-from_slice_get core.views u.place u.holds is.is) in
    let some = count-pos u.holds.out leaf c in
    omega arith

-- and no other seat has it out
pub one_has : (shape : Shape) (core : Core) (u v : SeatView) (leaf : ℕ) → IsSound shape core → IsView core u.place u.holds → IsView core v.place v.holds → Contains u.holds.out leaf → Contains v.holds.out leaf → u.place ≡ v.place
one_has shape core u v leaf sound is is' c c' =
    same_place (λ (w : View). out_count leaf w.out) core.views u.place v.place u.holds v.holds is.is is'.is (count-pos u.holds.out leaf c) (count-pos v.holds.out leaf c') (sound.locks.leaves.one_out leaf)

-- the note of such a step is no claim and no release
pub no_claim : (shape : Shape) (v : SeatView) (step : Step) (seen task : ℕ) → LeavesTasks step → claims_task task (noted shape v step seen) ≡ false
no_claim shape v (Lock cell) seen task c = refl
no_claim shape v Raise seen task c = refl
no_claim shape v Lower seen task c = refl
no_claim shape v Unlock seen task c = refl
no_claim shape v (Fetch leaf) seen task c = refl
no_claim shape v (Return leaf) seen task c = refl
no_claim shape v (Claim t) seen task c = absurd c
no_claim shape v Release seen task c = absurd c

pub no_release : (shape : Shape) (v : SeatView) (step : Step) (seen task : ℕ) → LeavesTasks step → frees_task task (noted shape v step seen) ≡ false
no_release shape v (Lock cell) seen task c = refl
no_release shape v Raise seen task c = refl
no_release shape v Lower seen task c = refl
no_release shape v Unlock seen task c = refl
no_release shape v (Fetch leaf) seen task c = refl
no_release shape v (Return leaf) seen task c = refl
no_release shape v (Claim t) seen task c = absurd c
no_release shape v Release seen task c = absurd c

-- only tasks below the count are claimed, and run
pub claimed_is_task : (shape : Shape) (core : Core) (task : ℕ) → IsSound shape core → IsClaimed shape core task → task < length shape.tasks
claimed_is_task shape core task sound claimed =
    elim (cases_lt task (length shape.tasks)) [
      | inl within ↦ within
      | inr past ↦
          let many = sound.locks.words in
          let none : slice_index core.words (task_place shape task) ≡ 0 = get_or_past core.words (task_place shape task) 0 (omega arith) in
          absurd (let e : slice_index core.words (task_place shape task) ≡ claimed_word = claimed in omega arith)
    ]

-- the slots of leaves that other seats have out stay as they are
abbrev pub SlotsStay : {B : Type 0} → Core → SeatView → List (maybe.Option (Option B)) → List (maybe.Option (Option B)) → Type 0
SlotsStay core v slots slots' = (leaf : ℕ) → 0 < outs_of leaf core.views → (Contains v.holds.out leaf → ⊥) → get_elem? slots' leaf ≡ get_elem? slots leaf

-- the state after the step of a seat with this view
abbrev pub core_after : Shape → Core → ℕ → Step → View → Core
core_after shape core seat step view =
    let place = place_of shape step (object_of shape view step) in
    let seen = slice_index core.words place in
    record { words = slice_set core.words place (exchanged step seen); views = slice_set core.views seat (view_after shape view step seen) }

module _ (shape : Shape) (laws : IsShape shape) (core : Core) (sound : IsSound shape core) (v : SeatView) (is : IsView core v.place v.holds) (step : Step) (allowed : Allowed shape v.holds step) where
  abbrev pub place_at : ℕ
  place_at = place_of shape step (object_of shape v.holds step)

  abbrev pub seen_at : ℕ
  seen_at = slice_index core.words place_at

  abbrev pub event_at : Event
  event_at = record { seat = v.place; step = step }

  abbrev pub core_then : Core
  core_then = core_after shape core v.place step v.holds

  pub view_is : view_at core.views v.place ≡ v.holds
  view_is = view_at_is core v.place v.holds is

  -- the machine allows the event
  pub is_allowed : IsAllowed shape core event_at
  is_allowed = record { seat = slice_get_within core.views v.place v.holds is.is; step = subst (λ (w : View). Allowed shape w step) (sym view_is) allowed }

  pub effect_is : core_then ≡ effect shape core event_at
  effect_is = ap (core_after shape core v.place step) (sym view_is)

  -- the state after it is sound
  pub sound_then : IsSound shape core_then
  sound_then = subst (IsSound shape) (sym effect_is) (sound_kept shape core event_at laws sound is_allowed)

  -- where the word of a task stays and none of its edges was left, none is
  pub ready_stays : (task : ℕ) → task < length shape.tasks → slice_index core_then.words (task_place shape task) ≡ slice_index core.words (task_place shape task)
      → unreleased shape core task ≡ 0 → unreleased shape core_then task ≡ 0
  ready_stays task l same was =
      elim (cases_eq (slice_index core_then.words (task_place shape task)) claimed_word) [
        | inl c ↦ sound_then.tasks.claimed_ready task l c
        | inr n ↦ sym (sound_then.tasks.task_words task l n) ∙ same ∙ sound.tasks.task_words task l (λ c. n (same ∙ c)) ∙ was
      ]

  -- a claimed task stays claimed
  pub still_claimed : (task : ℕ) → task < length shape.tasks → IsClaimed shape core task → IsClaimed shape core_then task
  still_claimed task l c = subst (λ (k : Core). IsClaimed shape k task) (sym effect_is) (claimed_stays shape core event_at task laws sound is_allowed l c)

  -- what is done after the step
  pub done_is : (task leaf : ℕ) → IsDone shape core_then task leaf ↔ (IsDone shape core task leaf ⊎ ReturnsWork core event_at task leaf)
  done_is task leaf =
      let changes : task < length shape.tasks → (IsDone shape core_then task leaf ↔ (IsDone shape core task leaf ⊎ ReturnsWork core event_at task leaf)) = λ l.
      subst (λ (k : Core). IsDone shape k task leaf ↔ (IsDone shape core task leaf ⊎ ReturnsWork core event_at task leaf)) (sym effect_is) (steps_change_done shape core event_at task leaf laws sound is_allowed l) in (
        λ d. (changes (claimed_is_task shape core_then task sound_then d.claimed)).0 d,
        λ d. elim d [
          | inl was ↦ (changes (claimed_is_task shape core task sound was.claimed)).1 (inl was)
          | inr back ↦
              let running = sound.tasks.runs v.place (view_at core.views v.place) back.running (subst (IsView core v.place) (sym view_is) is) back.runs.is in
              (changes (let t = running.is_task in let e = back.runs.of_task in omega arith)).1 (inr back)
        ],
      )

  -- where the step doesn't return the leaf, what is done on it stays
  pub same_done : (leaf : ℕ) → (step ≡ Return leaf → ⊥) → (tasks : List ℕ) → AreDoneOn shape core tasks leaf → AreDoneOn shape core_then tasks leaf
  same_done leaf n tasks was task =
      let d = done_is task leaf in (
        λ c. d.1 (inl ((was task).0 c)),
        λ t. elim (d.0 t) [ inl q ↦ (was task).1 q | inr r ↦ absurd (n r.step) ],
      )

  -- how often a leaf is out
  pub outs_then : (leaf : ℕ) → outs_of leaf core_then.views + out_count leaf v.holds.out ≡ outs_of leaf core.views + out_count leaf (view_after shape v.holds step seen_at).out
  outs_then leaf =
      let a = outs_change leaf core.views v.place (view_after shape v.holds step seen_at) is_allowed.seat in
      let c : out_count leaf (view_at core.views v.place).out ≡ out_count leaf v.holds.out = ap (λ (w : View). out_count leaf w.out) view_is in
      omega arith

  pub outs_are : KeepsLeaves step → (leaf : ℕ) → outs_of leaf core_then.views ≡ outs_of leaf core.views
  outs_are keeps leaf =
      let a = outs_then leaf in
      let b : out_count leaf (view_after shape v.holds step seen_at).out ≡ out_count leaf v.holds.out = ap (out_count leaf) (same_out shape v.holds step seen_at keeps) in
      omega arith

  -- the words of the tasks stay
  pub task_words_stay : LeavesTasks step → (task : ℕ) → slice_index core_then.words (task_place shape task) ≡ slice_index core.words (task_place shape task)
  task_words_stay quiet task =
      ap (λ (k : Core). slice_index k.words (task_place shape task)) effect_is
      ∙ same_words shape core v.place step laws sound is_allowed.seat is_allowed.step quiet task

  -- a return has its leaf out
  returns_out : (leaf : ℕ) → step ≡ Return leaf → Contains v.holds.out leaf
  returns_out leaf e = let can : CanReturn shape v.holds leaf = subst (Allowed shape v.holds) e allowed in can.out

  -- the seats, where this one knows what its step taught it
  module _ (fetched : List Fetched) (hand : Option ℕ) where
    abbrev pub view_then : SeatView
    view_then = knows_with shape v step seen_at fetched hand

    module _ (known after : List SeatView) (change : Changes known after v view_then) (seats : AreSeats core known) where
      pub seats_then : AreSeats core_then after
      seats_then = record {
        each = λ u c. elim (change.cases u c) [
          | inl e ↦ subst (λ (x : SeatView). IsView core_then x.place x.holds) e (record { is = slice_get-set_same core.views v.place view_then.holds is_allowed.seat })
          | inr p ↦ IsView-changed_other core core_then.words v.place view_then.holds u.place u.holds p.1 (seats.each u p.0)
        ];
        once = λ place l.
            let s = change.sums (λ (x : SeatView). cond (x.place == place) 1 0) in
            let was = seats.once place (let e = length-set core.views v.place view_then.holds in omega arith) in
            omega arith;
        all = changed_length known after v view_then change ∙ seats.all ∙ sym (length-set core.views v.place view_then.holds);
      }

      -- what other seats have noted of their leaves stays right
      pub others_out : {B : Type 0} (slots slots' : List (maybe.Option (Option B))) → SlotsStay core v slots slots' → (u : SeatView) → Contains known u → (u.place ≡ v.place → ⊥) → AreOut shape core slots u → AreOut shape core_then slots' u
      others_out slots slots' stay u there apart was =
          let out : (f : Fetched) → Contains u.fetched f → Contains u.holds.out f.leaf = λ f c. fetched_is_out u.fetched u.holds.out f was.leaves c in
          let theirs : (f : Fetched) → Contains u.fetched f → Contains v.holds.out f.leaf → ⊥ = λ f c mine. apart (one_has shape core u v f.leaf sound (seats.each u there) is (out f c) mine) in
          record {
            leaves = was.leaves;
            tasks = λ f c. same_done f.leaf (λ e. theirs f c (returns_out f.leaf e)) f.done (was.tasks f c);
            empty = λ f c n. stay f.leaf (some_has core u f.leaf (seats.each u there) (out f c)) (theirs f c) ∙ was.empty f c n;
          }

      -- the notes that count
      pub counts_then : (p : Note → Bool) → sum_by (λ (u : SeatView). count_by p u.notes) after ≡ sum_by (λ (u : SeatView). count_by p u.notes) known + cond {A = ℕ} (p (noted shape v step seen_at)) 1 0
      counts_then p =
          let a = change.sums (λ (u : SeatView). count_by p u.notes) in
          let b = sum_by_push (λ (y : Note). cond {A = ℕ} (p y) 1 0) v.notes (noted shape v step seen_at) in
          omega arith

      pub claims_are : (task : ℕ) → claims_task task (noted shape v step seen_at) ≡ false → claims_of task after ≡ claims_of task known
      claims_are task none = let a = counts_then (claims_task task) in let z : cond {A = ℕ} (claims_task task (noted shape v step seen_at)) 1 0 ≡ 0 = ap (λ (b : Bool). cond {A = ℕ} b 1 0) none in omega arith

      pub releases_are : (task : ℕ) → frees_task task (noted shape v step seen_at) ≡ false → frees_of task after ≡ frees_of task known
      releases_are task none = let a = counts_then (frees_task task) in let z : cond {A = ℕ} (frees_task task (noted shape v step seen_at)) 1 0 ≡ 0 = ap (λ (b : Bool). cond {A = ℕ} b 1 0) none in omega arith
