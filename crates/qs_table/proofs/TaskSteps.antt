-- A claim of a task, and a release of a successor, keep the rule.
use Rattle.std.proofs.Common.{◌≡◌, ◌≢◌, ℕ, ◌+◌, ◌<◌, ◌≤◌, ◌⊎◌, ◌==◌, ◌&&◌, cond, eqb, eq-eqb, ne_eqb, Bool, true, false, List, [], length, slice_index, count_by, Contains, Option, refl, sym, ap, ap₂, ◌∙◌, subst, inl, inr, eq-zero-or-pos, arith}
use Rattle.std.proofs.lemmas.Bool.{cases_eq, cond-false}
use mathlib.Core.Option as maybe
use mathlib.Core.Option.{none, some}
use lib.ListN.{get_elem?}
use prog.Atomic.{either}
use Rattle.atomic_table.specs.Table.{State, Me, stepped, Allows}
use Rattle.atomic_table.specs.Table as table
use Rattle.atomic_table.proofs.Lists.{set_here}
use Rattle.lists.proofs.Elements.{Contains-head}
use Rattle.lists.proofs.Sums.{share-le}
use Rattle.qs_core.specs.declared.event.Step.TheVariants.{Claim, Release}
use Rattle.qs_core.specs.Shape.{Shape, IsShape}
use Rattle.qs_core.specs.Core.{Core, View, claimed_word, task_place, view_at}
use Rattle.qs_core.specs.Steps.{CanClaim, CanRelease, exchanged, next_successor}
use Rattle.qs_core.specs.Sound.{IsClaimed, IsView, unreleased}
use Rattle.qs_core.proofs.RunningRelease.{claimed_before_release}
use Rattle.qs_core.proofs.Tasks.{IsReleasing, IsReleasing-from, word-other, word-same}
use Rattle.qs_core.proofs.UnreleasedEdges.{unreleased-few}
use Rattle.qs_table.specs.declared.view.Bundle.{Bundle}
use Rattle.qs_table.specs.declared.view.SeatView.{SeatView}
use Rattle.qs_table.specs.Notes.{claims_of, claims_task, frees_task, frees_of}
use Rattle.qs_table.specs.Rule.{AreClaims, AreFreedOnce, IsShown, Shows}
use Rattle.qs_table.specs.Views.{alone, knows_after, noted, seats_in}
use Rattle.qs_table.specs.inner.Plays.{Asked, HasAsked, IsTaskWord, Released}
use Rattle.qs_table.proofs.Acts.{claims_are, counts_then, effect_is, is_allowed, ready_stays, releases_are, sound_then, still_claimed, view_is}
use Rattle.qs_table.proofs.Bundles.{Changes, in_bundles}
use Rattle.lists.proofs.Words.{elem_within}
use Rattle.qs_table.proofs.Kept.{change_now, core_now, either_cond, homes_stay, own_stay, same_alone, seat_here, seats_now, shown_then, step_kept, view_now}

-- two tests that both hold, or not
both_tests : (a b c d : ℕ) → ((((eqb a b) && (eqb c d)) ≡ false) × (a ≡ b → c ≡ d → ⊥)) ⊎ ((((eqb a b) && (eqb c d)) ≡ true) × (a ≡ b) × (c ≡ d))
both_tests a b c d = elim (cases_eq a b) [
  | inl e ↦ elim (cases_eq c d) [
    | inl f ↦ inr (ap₂ (λ (x y : Bool). x && y) (eq-eqb a b e) (eq-eqb c d f), e, f)
    | inr n ↦ inl (ap₂ (λ (x y : Bool). x && y) (eq-eqb a b e) (ne_eqb c d n), λ p q. n q)
  ]
  | inr n ↦ inl (ap (λ (x : Bool). x && (eqb c d)) (ne_eqb a b n), λ p q. n p)
]

-- a note that counts
counts_one : (b : Bool) → b ≡ true → cond {A = ℕ} b 1 0 ≡ 1
counts_one b e = ap (λ (x : Bool). cond {A = ℕ} x 1 0) e

module _ {B : Type 0} (shape : Shape) (fits : ℕ → B → Type 0) (done : B → List ℕ) (laws : IsShape shape) where
  abbrev Slots : Type 0
  Slots = List (maybe.Option (Option B))

  module _ (core : Core) (slots : Slots) (known : List SeatView) (shown : IsShown shape fits done core slots known) (v : SeatView) (here : Contains known v) where
    abbrev is_view : IsView core v.place v.holds
    is_view = shown.seats.each v here

    -- a claim of a task
    module _ (task : ℕ) (can : CanClaim shape v.holds task) where
      abbrev seen : ℕ
      seen = slice_index core.words (task_place shape task)

      abbrev core_claimed : Core
      core_claimed = core_now shape fits done laws core slots known shown v here (Claim task) can v.fetched v.hand

      abbrev view_claimed : SeatView
      view_claimed = view_now shape fits done laws core slots known shown v here (Claim task) can v.fetched v.hand

      word_claimed : slice_index core_claimed.words (task_place shape task) ≡ exchanged (Claim task) seen
      word_claimed = word-same shape core (exchanged (Claim task) seen) task shown.sound can.is_task

      claimed_then : seen ≡ 0 → IsClaimed shape core_claimed task
      claimed_then z = word_claimed ∙ ap (λ (n : ℕ). exchanged (Claim task) n) z

      word_stays : (t : ℕ) → (task ≡ t → seen ≡ 0 → ⊥) → slice_index core_claimed.words (task_place shape t) ≡ slice_index core.words (task_place shape t)
      word_stays t n = elim (cases_eq task t) [
        | inl e ↦ subst (λ (k : ℕ). slice_index core_claimed.words (task_place shape k) ≡ slice_index core.words (task_place shape k)) e (word_claimed ∙ cond-false (seen == 0) claimed_word seen (ne_eqb seen 0 (n e)))
        | inr a ↦ word-other shape core.words (task_place shape task) (exchanged (Claim task) seen) t (λ q. a (omega arith))
      ]

      none_before : (t : ℕ) → task ≡ t → seen ≡ 0 → claims_of t known ≡ 0
      none_before t e z = elim (eq-zero-or-pos (claims_of t known)) [
        | inl nil ↦ nil
        | inr more ↦
            absurd
            (let c : slice_index core.words (task_place shape t) ≡ claimed_word = (shown.claims.claimed t (subst (λ (n : ℕ). n < length shape.tasks) e can.is_task)).0 more in
            let w : slice_index core.words (task_place shape t) ≡ 0 = subst (λ (n : ℕ). slice_index core.words (task_place shape n) ≡ 0) e z in
            omega arith)
      ]

      module _ (after : List SeatView) (change : Changes known after v view_claimed) where
        more_claims : (t : ℕ) → claims_task t (noted shape v (Claim task) seen) ≡ true → claims_of t after ≡ claims_of t known + 1
        more_claims t e =
            let c = counts_then shape laws core shown.sound v is_view (Claim task) can v.fetched v.hand known after change shown.seats (claims_task t) in
            let one = counts_one (claims_task t (noted shape v (Claim task) seen)) e in
            omega arith

        claims_then : AreClaims shape core_claimed after
        claims_then = record {
          one = λ t. elim (both_tests task t seen 0) [
            | inl p ↦ rw (claims_are shape laws core shown.sound v is_view (Claim task) can v.fetched v.hand known after change shown.seats t p.0) (shown.claims.one t)
            | inr p ↦ let more = more_claims t p.0 in let z = none_before t p.1 p.2 in omega arith
          ];
          claimed = λ t l. elim (both_tests task t seen 0) [
            | inl p ↦
                let same = claims_are shape laws core shown.sound v is_view (Claim task) can v.fetched v.hand known after change shown.seats t p.0 in
                let was = shown.claims.claimed t l in (
                  λ one_more. word_stays t p.1 ∙ was.0 (subst (λ (n : ℕ). 0 < n) same one_more),
                  λ c. subst (λ (n : ℕ). 0 < n) (sym same) (was.1 (sym (word_stays t p.1) ∙ c)),
                )
            | inr p ↦ (
              λ one_more. subst (IsClaimed shape core_claimed) p.1 (claimed_then p.2),
              λ c. let more = more_claims t p.0 in omega arith,
            )
          ];
        }

        releases_then : AreFreedOnce shape core_claimed after
        releases_then =
            let same : (t : ℕ) → frees_of t after ≡ frees_of t known = λ t. releases_are shape laws core shown.sound v is_view (Claim task) can v.fetched v.hand known after change shown.seats t refl in
            record {
              one = λ t. rw (same t) (shown.releases.one t);
              released = λ t l one_more.
                  let was = shown.releases.released t l (subst (λ (n : ℕ). 0 < n) (same t) one_more) in
                  elim (both_tests task t seen 0) [
                    | inl p ↦ ready_stays shape laws core shown.sound v is_view (Claim task) can t l (word_stays t p.1) was
                    | inr p ↦ (sound_then shape laws core shown.sound v is_view (Claim task) can).tasks.claimed_ready t l (subst (IsClaimed shape core_claimed) p.1 (claimed_then p.2))
                  ];
            }

        shown_claimed : IsShown shape fits done core_claimed slots after
        shown_claimed =
            shown_then shape fits done laws core slots known shown v here (Claim task) can v.fetched v.hand after change slots
            (homes_stay shape fits done laws core slots known shown v here (Claim task) can v.fetched v.hand tt) (λ leaf out other. refl)
            (own_stay shape fits done laws core slots known shown v here (Claim task) can v.fetched v.hand tt refl refl) claims_then releases_then

      -- the word that it saw is that of a claimed task, or a count
      task_word : IsTaskWord shape seen
      task_word n =
          let word = shown.sound.tasks.task_words task can.is_task n in
          let few = unreleased-few shape core task laws shown.sound in
          omega arith

    -- a release of the next successor
    module _ (can : CanRelease v.holds) where
      abbrev next : ℕ
      next = next_successor v.holds.running

      abbrev found : ℕ
      found = slice_index core.words (task_place shape next)

      abbrev core_released : Core
      core_released = core_now shape fits done laws core slots known shown v here Release can v.fetched v.hand

      abbrev view_released : SeatView
      view_released = view_now shape fits done laws core slots known shown v here Release can v.fetched v.hand

      below : v.place < length core.views
      below = (is_allowed shape laws core shown.sound v is_view Release can).seat

      there : view_at core.views v.place ≡ v.holds
      there = view_is shape laws core shown.sound v is_view Release can

      can_there : CanRelease (view_at core.views v.place)
      can_there = subst CanRelease (sym there) can

      releasing : IsReleasing shape core (view_at core.views v.place) can_there.running (slice_index can_there.running.successors 0)
      releasing = IsReleasing-from shape core v.place laws shown.sound below can_there

      next_is : slice_index can_there.running.successors 0 ≡ next
      next_is = sym releasing.next ∙ ap (λ (w : View). next_successor w.running) there

      is_task : next < length shape.tasks
      is_task = subst (λ (n : ℕ). n < length shape.tasks) next_is releasing.is_task

      some_left : 1 ≤ unreleased shape core next
      some_left = subst (λ (n : ℕ). 1 ≤ unreleased shape core n) next_is releasing.unreleased

      none_yet : (t : ℕ) → next ≡ t → frees_of t known ≡ 0
      none_yet t e = elim (eq-zero-or-pos (frees_of t known)) [
        | inl z ↦ z
        | inr more ↦
            absurd
            (let c = shown.releases.released t (subst (λ (n : ℕ). n < length shape.tasks) e is_task) more in
            let w : 1 ≤ unreleased shape core t = subst (λ (n : ℕ). 1 ≤ unreleased shape core n) e some_left in
            omega arith)
      ]

      zero_word : found ≡ 1 → slice_index core_released.words (task_place shape next) ≡ 0
      zero_word o = word-same shape core (exchanged Release found) next shown.sound is_task ∙ ap (λ (n : ℕ). exchanged Release n) o

      module _ (after : List SeatView) (change : Changes known after v view_released) where
        claims_still : AreClaims shape core_released after
        claims_still =
            let same : (t : ℕ) → claims_of t after ≡ claims_of t known = λ t. claims_are shape laws core shown.sound v is_view Release can v.fetched v.hand known after change shown.seats t refl in
            record {
              one = λ t. rw (same t) (shown.claims.one t);
              claimed = λ t l.
                  let was = shown.claims.claimed t l in (
                    λ one_more. still_claimed shape laws core shown.sound v is_view Release can t l (was.0 (subst (λ (n : ℕ). 0 < n) (same t) one_more)),
                    λ c. subst (λ (n : ℕ). 0 < n) (sym (same t))
                        (was.1 (claimed_before_release shape core v.place t laws shown.sound below can_there (subst (λ (k : Core). IsClaimed shape k t) (effect_is shape laws core shown.sound v is_view Release can) c))),
                  );
            }

        releases_more : AreFreedOnce shape core_released after
        releases_more = record {
          one = λ t. elim (both_tests next t found 1) [
            | inl p ↦ rw (releases_are shape laws core shown.sound v is_view Release can v.fetched v.hand known after change shown.seats t p.0) (shown.releases.one t)
            | inr p ↦
                let c = counts_then shape laws core shown.sound v is_view Release can v.fetched v.hand known after change shown.seats (frees_task t) in
                let one = counts_one (frees_task t (noted shape v Release found)) p.0 in
                let z = none_yet t p.1 in
                omega arith
          ];
          released = λ t l one_more. elim (both_tests next t found 1) [
            | inl p ↦
                let was = shown.releases.released t l (subst (λ (n : ℕ). 0 < n) (releases_are shape laws core shown.sound v is_view Release can v.fetched v.hand known after change shown.seats t p.0) one_more) in
                let apart : t ≢ next = λ q. absurd (let w : 1 ≤ unreleased shape core t = subst (λ (n : ℕ). 1 ≤ unreleased shape core n) (sym q) some_left in omega arith) in
                ready_stays shape laws core shown.sound v is_view Release can t l (word-other shape core.words (task_place shape next) (exchanged Release found) t (λ q. apart (omega arith))) was
            | inr p ↦
                subst (λ (x : ℕ). unreleased shape core_released x ≡ 0) p.1
                (let z = zero_word p.2 in
                sym ((sound_then shape laws core shown.sound v is_view Release can).tasks.task_words next is_task (λ c. absurd (let d : slice_index core_released.words (task_place shape next) ≡ claimed_word = c in omega arith))) ∙ z)
          ];
        }

        shown_released : IsShown shape fits done core_released slots after
        shown_released =
            shown_then shape fits done laws core slots known shown v here Release can v.fetched v.hand after change slots
            (homes_stay shape fits done laws core slots known shown v here Release can v.fetched v.hand tt) (λ leaf out other. refl)
            (own_stay shape fits done laws core slots known shown v here Release can v.fetched v.hand tt refl refl) claims_still releases_more

module _ {B P : Type 0} (shapes : P → Shape) (fits_of : P → ℕ → B → Type 0) (done : B → List ℕ) (plan : P) (laws : IsShape (shapes plan)) (count : ℕ) where
  abbrev shape : Shape
  shape = shapes plan

  abbrev fits : ℕ → B → Type 0
  fits = fits_of plan

  abbrev Rule : State (Option B) (Bundle P) → Type 0
  Rule = Shows shape fits done count

  -- a seat of the rule claims and releases each task once
  own_notes : (s : State (Option B) (Bundle P)) (rule : Rule s) (seat : ℕ) (w : SeatView) → get_elem? s.views seat ≡ some (alone plan w) → (t : ℕ) → (count_by (claims_task t) w.notes ≤ 1) × (count_by (frees_task t) w.notes ≤ 1)
  own_notes s rule seat w at t =
      let there = in_bundles s.views seat (alone plan w) w at (Contains-head w []) in
      let a = share-le (λ (u : SeatView). count_by (claims_task t) u.notes) (seats_in s.views) w there in
      let b = share-le (λ (u : SeatView). count_by (frees_task t) u.notes) (seats_in s.views) w there in
      let one = rule.shown.claims.one t in
      let one' = rule.shown.releases.one t in
      (omega arith, omega arith)

  module _ (slots seat place : ℕ) (v : SeatView) (me : Me (Option B) (Bundle P)) (me_is : me.0 ≡ alone plan v) where
    pub claim_allowed : (task : ℕ) → place ≡ task_place shape task → CanClaim shape v.holds task
        → Allows Rule slots seat me place (λ n. either (n == 0) claimed_word n) (λ found me'. Asked shapes (table.step slots place 0 claimed_word none) me found me')
    claim_allowed task place_is can s rule wide at small =
        let at' = at ∙ ap some me_is in
        let here = seat_here shape fits done laws count s rule seat plan v at' in
        let after : ℕ → Bundle P = λ k. alone plan (knows_after shape v (Claim task) (slice_index s.words k)) in
        let kept = step_kept shape fits done laws count s rule seat plan v at' (Claim task) can v.fetched v.hand s.homes
        (shown_claimed shape fits done laws rule.core s.homes (seats_in s.views) rule.shown v here task can (seats_now shape fits done laws count s rule seat plan v at' (Claim task) can v.fetched v.hand)
        (change_now shape fits done laws count s rule seat plan v at' (Claim task) can v.fetched v.hand)) in
        let moved = subst (λ (k : ℕ). Rule (stepped s k (exchanged (Claim task) (slice_index s.words k)) seat me.1 (after k) table.keeps)) (sym place_is) kept in
        let word : IsTaskWord shape (slice_index s.words place) =
        subst (λ (x : List ℕ × ℕ). IsTaskWord shape (slice_index x.0 x.1)) (λ i. (rule.words i, sym place_is i)) (task_word shape fits done laws rule.core s.homes (seats_in s.views) rule.shown v here task can) in (
          after place,
          table.keeps,
          tt,
          subst (λ (n : ℕ). Rule (stepped s place n seat me.1 (after place) table.keeps)) (either_cond (slice_index s.words place == 0) claimed_word (slice_index s.words place)) moved,
          λ p w t m e.
              let same = same_alone plan p v w (sym me_is ∙ m) in
              let tasks : task ≡ t =
              (let parents : length shape.parents ≡ length (shapes p).parents = ap (λ (x : P). length (shapes x).parents) same.0 in let leaves : shape.leaves ≡ (shapes p).leaves = ap (λ (x : P). (shapes x).leaves) same.0 in omega (arith, place_is, e, parents, leaves)) in
              subst (λ (x : P × SeatView × ℕ). HasAsked shapes x.0 x.1 x.2 me.1 (slice_index s.words place) (after place, me.1)) (λ i. (same.0 i, same.1 i, tasks i))
              (record {
                is = refl;
                word = word;
                once = λ k. (own_notes _ moved seat (knows_after shape v (Claim task) (slice_index s.words place)) (set_here s.views seat (after place) (elem_within s.views seat me.0 at)) k).0;
              }),
        )

    pub release_allowed : CanRelease v.holds → place ≡ task_place shape (next_successor v.holds.running) → Allows Rule slots seat me place (exchanged Release) (λ found me'. Released shapes (table.step slots place 1 0 none) me found me')
    release_allowed can place_is s rule wide at small =
        let at' = at ∙ ap some me_is in
        let here = seat_here shape fits done laws count s rule seat plan v at' in
        let after : ℕ → Bundle P = λ k. alone plan (knows_after shape v Release (slice_index s.words k)) in
        let kept = step_kept shape fits done laws count s rule seat plan v at' Release can v.fetched v.hand s.homes
        (shown_released shape fits done laws rule.core s.homes (seats_in s.views) rule.shown v here can (seats_now shape fits done laws count s rule seat plan v at' Release can v.fetched v.hand)
        (change_now shape fits done laws count s rule seat plan v at' Release can v.fetched v.hand)) in
        let moved = subst (λ (k : ℕ). Rule (stepped s k (exchanged Release (slice_index s.words k)) seat me.1 (after k) table.keeps)) (sym place_is) kept in (
          after place,
          table.keeps,
          tt,
          moved,
          λ p w m.
              let same = same_alone plan p v w (sym me_is ∙ m) in (
                λ i. (alone (same.0 i) (knows_after (shapes (same.0 i)) (same.1 i) Release (slice_index s.words place)), me.1),
                λ k.
                    subst (λ (x : P × SeatView). count_by (frees_task k) (knows_after (shapes x.0) x.1 Release (slice_index s.words place)).notes ≤ 1) (λ i. (same.0 i, same.1 i))
                    (own_notes _ moved seat (knows_after shape v Release (slice_index s.words place)) (set_here s.views seat (after place) (elem_within s.views seat me.0 at)) k).1,
              ),
        )
