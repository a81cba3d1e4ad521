-- A step on a shared word keeps the rule.
use Rattle.std.proofs.Common.{◌≡◌, ℕ, ◌<◌, ◌==◌, cond, Bool, true, false, List, map, set, slice_get, slice_index, slice_set, Contains, Option, refl, sym, ap, ◌∙◌, subst, inl, inr, length-set, arith}
use Rattle.std.proofs.lemmas.Option.{same_Some}
use mathlib.Core.Option as maybe
use mathlib.Core.Option.{none, some}
use lib.ListN.{get_elem?}
use prog.Atomic.{either}
use Rattle.atomic_table.specs.Table.{State, Me, stepped, Allows}
use Rattle.atomic_table.specs.Table as table
use Rattle.qs_core.specs.declared.event.Step.{Step}
use Rattle.qs_core.specs.declared.event.Step.TheVariants.{Lock}
use Rattle.qs_core.specs.Shape.{Shape, IsShape}
use Rattle.qs_core.specs.Core.{Core, cell_place}
use Rattle.qs_core.specs.Steps.{Allowed, CanLock, exchanged, object_of, place_of, view_after}
use Rattle.qs_core.specs.Sound.{IsView}
use Rattle.qs_core.proofs.Tasks.{LeavesTasks}
use Rattle.qs_table.specs.declared.view.Bundle.{Bundle}
use Rattle.qs_table.specs.declared.view.Fetched.{Fetched}
use Rattle.qs_table.specs.declared.view.SeatView.{SeatView}
use Rattle.qs_table.specs.Notes.{claims_of, frees_of}
use Rattle.qs_table.specs.Rule.{AreClaims, AreHomes, AreOut, AreFreedOnce, IsShown, Shows}
use Rattle.qs_table.specs.Views.{alone, knows_after, knows_with, seats_in}
use Rattle.qs_table.specs.inner.Plays.{Locked, Moved}
use Rattle.qs_table.proofs.Acts.{IsCellStep, KeepsLeaves, SlotsStay, claims_are, core_then, keeps_leaves, leaves_tasks, no_claim, no_release, others_out, outs_are, ready_stays, releases_are, same_done, same_out, seats_then, seen_at, sound_then, task_words_stay, view_then}
use Rattle.qs_table.proofs.Bundles.{Changes, changes}

-- one seat is that of another bundle, where the bundles are one
pub same_alone : {P : Type 0} (plan p : P) (v w : SeatView) → alone plan v ≡ alone p w → (plan ≡ p) × (v ≡ w)
same_alone plan p v w e = (
  same_Some plan p (ap (λ (b : Bundle _). b.plan) e),
  same_Some v w (ap (λ (b : Bundle _). slice_get b.seats 0) e),
)

-- the two forms of a compare and exchange
pub either_cond : (b : Bool) (x y : ℕ) → cond b x y ≡ either b x y
either_cond true x y = refl
either_cond false x y = refl

module _ {B : Type 0} (shape : Shape) (fits : ℕ → B → Type 0) (done : B → List ℕ) (laws : IsShape shape) where
  abbrev pub Slots : Type 0
  Slots = List (maybe.Option (Option B))

  -- a state is shown, and a seat of it makes a step
  module _ (core : Core) (slots : Slots) (known : List SeatView) (shown : IsShown shape fits done core slots known) (v : SeatView) (here : Contains known v) (step : Step) (allowed : Allowed shape v.holds step)
      (fetched : List Fetched) (hand : Option ℕ) where
    abbrev pub is_view : IsView core v.place v.holds
    is_view = shown.seats.each v here

    abbrev pub core_now : Core
    core_now = core_then shape laws core shown.sound v is_view step allowed

    abbrev pub view_now : SeatView
    view_now = view_then shape laws core shown.sound v is_view step allowed fetched hand

    abbrev pub seen_now : ℕ
    seen_now = seen_at shape laws core shown.sound v is_view step allowed

    module _ (after : List SeatView) (change : Changes known after v view_now) (slots' : Slots) where
      -- the state after it is shown, where what is at home, what this seat has noted of its leaves, and the notes of claims and releases are right
      pub shown_then : AreHomes shape fits done core_now slots' → SlotsStay core v slots slots' → AreOut shape core_now slots' view_now → AreClaims shape core_now after → AreFreedOnce shape core_now after
          → IsShown shape fits done core_now slots' after
      shown_then homes stay own claims releases = record {
        sound = sound_then shape laws core shown.sound v is_view step allowed;
        seats = seats_then shape laws core shown.sound v is_view step allowed fetched hand known after change shown.seats;
        homes = homes;
        outs = λ u c. elim (change.cases u c) [
          | inl e ↦ subst (AreOut shape core_now slots') e own
          | inr p ↦ others_out shape laws core shown.sound v is_view step allowed fetched hand known after change shown.seats slots slots' stay u p.0 p.1 (shown.outs u p.0)
        ];
        claims = claims;
        releases = releases;
      }

      -- a step on the word of a cell or a leaf leaves the claims and the releases
      pub claims_stay : LeavesTasks step → AreClaims shape core_now after
      claims_stay quiet =
          let same : (task : ℕ) → claims_of task after ≡ claims_of task known = λ task.
          claims_are shape laws core shown.sound v is_view step allowed fetched hand known after change shown.seats task (no_claim shape v step seen_now task quiet) in
          let word = task_words_stay shape laws core shown.sound v is_view step allowed quiet in
          record {
            one = λ task. rw (same task) (shown.claims.one task);
            claimed = λ task l.
                let was = shown.claims.claimed task l in (
                  λ some. word task ∙ was.0 (subst (λ (n : ℕ). 0 < n) (same task) some),
                  λ c. subst (λ (n : ℕ). 0 < n) (sym (same task)) (was.1 (sym (word task) ∙ c)),
                );
          }

      pub releases_stay : LeavesTasks step → AreFreedOnce shape core_now after
      releases_stay quiet =
          let same : (task : ℕ) → frees_of task after ≡ frees_of task known = λ task.
          releases_are shape laws core shown.sound v is_view step allowed fetched hand known after change shown.seats task (no_release shape v step seen_now task quiet) in
          record {
            one = λ task. rw (same task) (shown.releases.one task);
            released = λ task l some.
                ready_stays shape laws core shown.sound v is_view step allowed task l (task_words_stay shape laws core shown.sound v is_view step allowed quiet task)
                (shown.releases.released task l (subst (λ (n : ℕ). 0 < n) (same task) some));
          }

    -- a step that leaves the leaves keeps what is at home, and what this seat has noted of those that it has out
    pub homes_stay : KeepsLeaves step → AreHomes shape fits done core_now slots
    homes_stay keeps = record {
      one_each = shown.homes.one_each;
      each = λ leaf l home.
          let was = shown.homes.each leaf l (sym (outs_are shape laws core shown.sound v is_view step allowed keeps leaf) ∙ home) in
          record {
            block = was.block;
            at = was.at;
            fitting = was.fitting;
            tasks = same_done shape laws core shown.sound v is_view step allowed leaf (λ e. subst KeepsLeaves e keeps) (done was.block) was.tasks;
          };
    }

    pub own_stay : KeepsLeaves step → fetched ≡ v.fetched → hand ≡ v.hand → AreOut shape core_now slots view_now
    own_stay keeps same at_hand = record {
      leaves = ap (map (λ (f : Fetched). f.leaf)) same ∙ (shown.outs v here).leaves ∙ sym (same_out shape v.holds step seen_now keeps);
      tasks = λ f c.
          same_done shape laws core shown.sound v is_view step allowed f.leaf (λ e. subst KeepsLeaves e keeps) f.done
          ((shown.outs v here).tasks f (subst (λ (fs : List Fetched). Contains fs f) same c));
      empty = λ f c n. (shown.outs v here).empty f (subst (λ (fs : List Fetched). Contains fs f) same c) (λ e. n (at_hand ∙ e));
    }

  module _ {P : Type 0} (count : ℕ) where
    abbrev pub Rule : State (Option B) (Bundle P) → Type 0
    Rule = Shows shape fits done count

    -- the seat is one of those of the rule
    pub seat_here : (s : State (Option B) (Bundle P)) (rule : Rule s) (seat : ℕ) (plan : P) (v : SeatView) → get_elem? s.views seat ≡ some (alone plan v) → Contains (seats_in s.views) v
    seat_here s rule seat plan v at = (changes rule.core s.views seat plan v v rule.shown.seats at).here

    -- a step keeps the rule, where the state after it is shown
    module _ (s : State (Option B) (Bundle P)) (rule : Rule s) (seat : ℕ) (plan : P) (v : SeatView) (at : get_elem? s.views seat ≡ some (alone plan v)) (step : Step) (allowed : Allowed shape v.holds step)
        (fetched : List Fetched) (hand : Option ℕ) where
      abbrev pub place_now : ℕ
      place_now = place_of shape step (object_of shape v.holds step)

      abbrev pub found_now : ℕ
      found_now = slice_index s.words place_now

      abbrev pub knows_now : SeatView
      knows_now = knows_with shape v step found_now fetched hand

      abbrev pub seats_now : List SeatView
      seats_now = seats_in (set s.views seat (alone plan knows_now))

      pub change_now : Changes (seats_in s.views) seats_now v (view_now rule.core s.homes (seats_in s.views) rule.shown v (seat_here s rule seat plan v at) step allowed fetched hand)
      change_now =
          subst (λ (ws : List ℕ). Changes (seats_in s.views) seats_now v (knows_with shape v step (slice_index ws place_now) fetched hand)) (sym rule.words)
          (changes rule.core s.views seat plan v knows_now rule.shown.seats at)

      pub step_kept : (slots' : Slots) → IsShown shape fits done (core_now rule.core s.homes (seats_in s.views) rule.shown v (seat_here s rule seat plan v at) step allowed fetched hand) slots' seats_now
          → Rule (record { words = slice_set s.words place_now (exchanged step found_now); homes = slots'; views = set s.views seat (alone plan knows_now) })
      step_kept slots' shown = record {
        laws = laws;
        core = core_now rule.core s.homes (seats_in s.views) rule.shown v (seat_here s rule seat plan v at) step allowed fetched hand;
        words = ap (λ (ws : List ℕ). slice_set ws place_now (exchanged step (slice_index ws place_now))) rule.words;
        seats = length-set rule.core.views v.place (view_after shape v.holds step (slice_index rule.core.words place_now)) ∙ rule.seats;
        shown = shown;
      }

    -- a step on the word of a cell keeps the rule
    module _ (s : State (Option B) (Bundle P)) (rule : Rule s) (seat : ℕ) (plan : P) (v : SeatView) (at : get_elem? s.views seat ≡ some (alone plan v)) (step : Step) (allowed : Allowed shape v.holds step) (cell : IsCellStep step) where
      pub cell_kept : (carried : List (ℕ × Option B)) → Rule (stepped s (place_now s rule seat plan v at step allowed v.fetched v.hand) (exchanged step (found_now s rule seat plan v at step allowed v.fetched v.hand)) seat carried (alone plan (knows_now s rule seat plan v at step allowed v.fetched v.hand)) table.keeps)
      cell_kept carried =
          let here = seat_here s rule seat plan v at in
          let known = seats_now s rule seat plan v at step allowed v.fetched v.hand in
          let change = change_now s rule seat plan v at step allowed v.fetched v.hand in
          step_kept s rule seat plan v at step allowed v.fetched v.hand s.homes (shown_then rule.core s.homes (seats_in s.views) rule.shown v here step allowed v.fetched v.hand known change s.homes
          (homes_stay rule.core s.homes (seats_in s.views) rule.shown v here step allowed v.fetched v.hand (keeps_leaves step cell))
          (λ leaf some other. refl)
          (own_stay rule.core s.homes (seats_in s.views) rule.shown v here step allowed v.fetched v.hand (keeps_leaves step cell) refl refl)
          (claims_stay rule.core s.homes (seats_in s.views) rule.shown v here step allowed v.fetched v.hand known change s.homes (leaves_tasks step cell))
          (releases_stay rule.core s.homes (seats_in s.views) rule.shown v here step allowed v.fetched v.hand known change s.homes (leaves_tasks step cell)))

    -- so a lock may be made
    pub lock_allowed : (slots seat cell : ℕ) (plan : P) (v : SeatView) (me : Me (Option B) (Bundle P)) (shapes : P → Shape) → shapes plan ≡ shape → me.0 ≡ alone plan v → CanLock (shapes plan) v.holds cell
        → Allows Rule slots seat me (cell_place shape cell) (λ n. either (n == 0) 1 n) (Locked shapes (table.step slots (cell_place shape cell) 0 1 none) me)
    lock_allowed slots seat cell plan v me shapes is me_is can s rule wide at small =
        let seen : ℕ = slice_index s.words (cell_place shape cell) in
        let after : SeatView = knows_after shape v (Lock cell) seen in
        let kept = cell_kept s rule seat plan v (at ∙ ap some me_is) (Lock cell) (subst (λ (x : Shape). CanLock x v.holds cell) is can) tt me.1 in (
          alone plan after,
          table.keeps,
          tt,
          subst (λ (n : ℕ). Rule (stepped s (cell_place shape cell) n seat me.1 (alone plan after) table.keeps)) (either_cond (seen == 0) 1 seen) kept,
          λ p w c m e.
              let same = same_alone plan p v w (sym me_is ∙ m) in
              let cells : cell ≡ c = omega arith in
              λ i. (alone (same.0 i) (knows_after ((sym is ∙ ap shapes same.0) i) (same.1 i) (Lock (cells i)) seen), me.1),
        )

    -- and a step on the word of an ancestor, or of the chain's cell
    pub step_allowed : (slots seat place first : ℕ) (plan : P) (v : SeatView) (me : Me (Option B) (Bundle P)) (step : Step) (shapes : P → Shape) → shapes plan ≡ shape → me.0 ≡ alone plan v → Allowed (shapes plan) v.holds step
        → IsCellStep step → place ≡ place_of (shapes plan) step (object_of (shapes plan) v.holds step)
        → Allows Rule slots seat me place (exchanged step) (λ found me'. Moved shapes (table.step slots place first 0 none) me found me' step)
    step_allowed slots seat place first plan v me step shapes is me_is can cell place_is s rule wide at small =
        let after : ℕ → SeatView = λ k. knows_after shape v step (slice_index s.words k) in
        let kept = cell_kept s rule seat plan v (at ∙ ap some me_is) step (subst (λ (x : Shape). Allowed x v.holds step) is can) cell me.1 in
        let same_place : place ≡ place_of shape step (object_of shape v.holds step) = place_is ∙ ap (λ (x : Shape). place_of x step (object_of x v.holds step)) is in (
          alone plan (after place),
          table.keeps,
          tt,
          subst (λ (k : ℕ). Rule (stepped s k (exchanged step (slice_index s.words k)) seat me.1 (alone plan (after k)) table.keeps)) (sym same_place) kept,
          λ p w m.
              let same = same_alone plan p v w (sym me_is ∙ m) in
              λ i. (alone (same.0 i) (knows_after ((sym is ∙ ap shapes same.0) i) (same.1 i) step (slice_index s.words place)), me.1),
        )
