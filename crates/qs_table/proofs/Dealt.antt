-- Cutting a bundle of seats in two, making one of two, and looking at two, keep the rule.
use Rattle.std.proofs.Common.{◌≡◌, ℕ, ◌<◌, List, [], ◌∷◌, slice_get, slice_index, count_by, Option, refl, sym, ap, ◌∙◌, subst}
use Rattle.std.proofs.lemmas.Option.{same_Some}
use mathlib.Core.Option as maybe
use mathlib.Core.Option.{none, some}
use lib.ListN.{get_elem?}
use Rattle.atomic_table.specs.Table.{State, Me, stepped, Allows, Splits, Joins}
use Rattle.atomic_table.specs.Table as table
use Rattle.atomic_table.proofs.Lists.{set_again}
use Rattle.lists.proofs.Elements.{Contains-head, Contains-later}
use Rattle.qs_core.specs.Shape.{Shape}
use Rattle.qs_core.specs.Core.{Core}
use Rattle.qs_core.proofs.Exclusive.{owned_apart, sound_is_exclusive}
use Rattle.qs_table.specs.declared.view.Bundle.{Bundle}
use Rattle.qs_table.specs.declared.view.SeatView.{SeatView}
use Rattle.qs_table.specs.Notes.{claims_of, claims_task, frees_task, frees_of}
use Rattle.qs_table.specs.Rule.{AreClaims, AreFreedOnce, IsShown, Shows}
use Rattle.qs_table.specs.Laws.{IsAlwaysApart}
use Rattle.qs_table.specs.Seats.{OwnApart}
use Rattle.qs_table.specs.Views.{no_seats, seats_in}
use Rattle.qs_table.specs.inner.Plays.{Met, first_alone, pair, together, without_first}
use Rattle.qs_table.proofs.Bundles.{AreSame, in_bundles, pair_apart, same_joined, same_length, same_split}
use Rattle.lists.proofs.Words.{same_word}

-- the seats of one pair are those of the other, where the bundles are one
same_pair : {P : Type 0} (plan p : P) (v w a b : SeatView) → pair plan v w ≡ pair p a b → (plan ≡ p) × (v ≡ a) × (w ≡ b)
same_pair plan p v w a b e = (
  same_Some plan p (ap (λ (x : Bundle _). x.plan) e),
  same_Some v a (ap (λ (x : Bundle _). slice_get x.seats 0) e),
  same_Some w b (ap (λ (x : Bundle _). slice_get x.seats 1) e),
)

-- where as many notes claim and release, the claims and releases are right as before
pub same_claims : (shape : Shape) (core : Core) (known after : List SeatView) → ((task : ℕ) → claims_of task after ≡ claims_of task known) → AreClaims shape core known → AreClaims shape core after
same_claims shape core known after same claims = record {
  one = λ task. rw (same task) (claims.one task);
  claimed = λ task l.
      let was = claims.claimed task l in (
        λ some. was.0 (subst (λ (n : ℕ). 0 < n) (same task) some),
        λ c. subst (λ (n : ℕ). 0 < n) (sym (same task)) (was.1 c),
      );
}

pub same_releases : (shape : Shape) (core : Core) (known after : List SeatView) → ((task : ℕ) → frees_of task after ≡ frees_of task known) → AreFreedOnce shape core known → AreFreedOnce shape core after
same_releases shape core known after same releases = record {
  one = λ task. rw (same task) (releases.one task);
  released = λ task l some. releases.released task l (subst (λ (n : ℕ). 0 < n) (same task) some);
}

module _ {B : Type 0} (shape : Shape) (fits : ℕ → B → Type 0) (done : B → List ℕ) where
  -- the same seats show the same state
  same_shown : (core : Core) (slots : List (maybe.Option (Option B))) (known after : List SeatView) → AreSame known after → IsShown shape fits done core slots known → IsShown shape fits done core slots after
  same_shown core slots known after same shown = record {
    sound = shown.sound;
    seats = record {
      each = λ v c. shown.seats.each v (same.back v c);
      once = λ place l. same.sums _ ∙ shown.seats.once place l;
      all = same_length known after same ∙ shown.seats.all;
    };
    homes = shown.homes;
    outs = λ v c. shown.outs v (same.back v c);
    claims = same_claims shape core known after (λ task. same.sums (λ (v : SeatView). count_by (claims_task task) v.notes)) shown.claims;
    releases = same_releases shape core known after (λ task. same.sums (λ (v : SeatView). count_by (frees_task task) v.notes)) shown.releases;
  }

  module _ {P : Type 0} (count : ℕ) where
    abbrev Rule : State (Option B) (Bundle P) → Type 0
    Rule = Shows shape fits done count

    same_rule : (s : State (Option B) (Bundle P)) (bs : List (Bundle P)) → AreSame (seats_in s.views) (seats_in bs) → Rule s → Rule (record { words = s.words; homes = s.homes; views = bs })
    same_rule s bs same rule = record {
      laws = rule.laws;
      core = rule.core;
      words = rule.words;
      seats = rule.seats;
      shown = same_shown rule.core s.homes (seats_in s.views) (seats_in bs) same rule.shown;
    }

    pub splits : (seat : ℕ) (b : Bundle P) → Splits Rule seat b (first_alone b) (without_first b)
    splits seat b s rule at = same_rule s _ (same_split s.views seat b at) rule

    pub joins : (seat other : ℕ) (b c : Bundle P) → Joins Rule seat b other c (together b c) no_seats
    joins seat other b c s rule at apart at' = same_rule s _ (same_joined s.views seat other b c apart at at') rule

    -- no two seats own cells of which one contains the other
    pub always_apart : IsAlwaysApart P shape fits done count
    always_apart s rule = (
      sound_is_exclusive shape rule.core rule.laws rule.shown.sound,
      λ v w first second differ cell other o o'.
          owned_apart shape rule.core rule.shown.sound.locks.cells v.place w.place v.holds w.holds cell other (rule.shown.seats.each v first) (rule.shown.seats.each w second) differ o o',
    )

    -- a look changes nothing, and shows it of two seats
    apart_now : (s : State (Option B) (Bundle P)) → Rule s → (seat : ℕ) (plan : P) (v w : SeatView) → get_elem? s.views seat ≡ some (pair plan v w) → OwnApart shape v.holds w.holds
    apart_now s rule seat plan v w at =
        let first = in_bundles s.views seat (pair plan v w) v at (Contains-head v (w ∷ [])) in
        let second = in_bundles s.views seat (pair plan v w) w at (Contains-later v (w ∷ []) w (Contains-head w [])) in
        (always_apart s rule).1 v w first second (pair_apart rule.core s.views seat plan v w rule.shown.seats at)

    pub meet_allowed : (slots seat : ℕ) (plan : P) (v w : SeatView) (me : Me (Option B) (Bundle P)) (shapes : P → Shape) → shapes plan ≡ shape → me.0 ≡ pair plan v w
        → Allows Rule slots seat me 0 (λ n. n) (Met shapes (table.step slots 0 0 0 none) me)
    meet_allowed slots seat plan v w me shapes is me_is s rule wide at small =
        let same : s ≡ stepped s 0 (slice_index s.words 0) seat me.1 me.0 table.keeps = λ i. record {
          words = sym (same_word s.words 0) i;
          homes = s.homes;
          views = sym (set_again s.views seat me.0 at) i;
        } in (
          me.0,
          table.keeps,
          tt,
          subst Rule same rule,
          record {
            same = refl;
            apart = λ p a b e.
                let pairs = same_pair plan p v w a b (sym me_is ∙ e) in
                subst (λ (x : Shape × SeatView × SeatView). OwnApart x.0 x.1.holds x.2.holds) (λ i. ((sym is ∙ ap shapes pairs.0) i, pairs.1 i, pairs.2 i))
                (apart_now s rule seat plan v w (at ∙ ap some me_is));
          },
        )
