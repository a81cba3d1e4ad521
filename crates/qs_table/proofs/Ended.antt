-- What a table shows at its end to the seat that has gathered all seats, where they hold nothing.
use Rattle.std.proofs.Common.{◌≡◌, ℕ, ◌<◌, ◌↔◌, ◌==◌, List, [], ◌∷◌, length, set, All, sum_by, count_by, Contains, Option, Some, refl, sym, ap, ◌∙◌, subst, inl, inr, arith}
use Rattle.std.proofs.lemmas.Bool.{cases_eq, cases_lt}
use Rattle.std.proofs.lemmas.List.{get_or_past}
use Rattle.std.proofs.lemmas.List.Elements.{All-contains}
use Rattle.std.proofs.lemmas.Option.{none-some, same_Some, slice_get_within}
use mathlib.Core.Option.{some, some-injective}
use lib.ListN.{get_elem?}
use Rattle.atomic_table.specs.Table.{State}
use Rattle.atomic_table.specs.Table as table
use Rattle.atomic_table.proofs.Lists.{set_else}
use Rattle.lists.proofs.Counts.{one_if, one_if-other}
use Rattle.lists.proofs.Elements.{Contains-nil}
use Rattle.lists.proofs.Places.{Contains-from_slice_get, get_from_Contains}
use Rattle.lists.proofs.Sums.{share-le, some_share, sum_by-none}
use Rattle.qs_core.specs.Shape.{IsShape, Shape, Touches}
use Rattle.qs_core.specs.Core.{View, empty_view, task_place}
use Rattle.qs_core.specs.Sound.{IsDone, IsView, left_in, outs_of, unreleased}
use Rattle.qs_table.specs.declared.view.Bundle.{Bundle}
use Rattle.qs_table.specs.declared.view.SeatView.{SeatView}
use Rattle.qs_table.specs.Blocks.{AreReturned, IsTaken, open_edges}
use Rattle.qs_table.specs.Notes.{claims_of, claims_task}
use Rattle.qs_table.specs.Rule.{Shows}
use Rattle.qs_table.specs.Views.{no_seats, seats_in}
use Rattle.qs_table.specs.inner.Slots.{IsClosed, blocks_in}
use Rattle.qs_table.specs.inner.Tokens.{HoldsNone}
use Rattle.qs_table.proofs.Bundles.{bundle_of, sum_in}
use Rattle.qs_table.proofs.Drained.{returned_blocks}
use Rattle.lists.proofs.Words.{get_from_elem, length_is_sum, sum_set}

none_long : {X : Type 0} (xs : List X) → length xs ≡ 0 → xs ≡ []
none_long [] e = refl
none_long (x ∷ xs) e = absurd (omega arith)

module _ {B P : Type 0} (shape : Shape) (fits : ℕ → B → Type 0) (done : B → List ℕ) (count : ℕ) where
  module _ (s : State (Option B) (Bundle P)) (rule : Shows shape fits done count s) (seat : ℕ) (b : Bundle P) (at : get_elem? s.views seat ≡ some b)
      (all : length b.seats ≡ count) (idle : (v : SeatView) → Contains b.seats v → v.holds ≡ empty_view) where
    abbrev others : List (Bundle P)
    others = set s.views seat no_seats

    -- the other bundles have no seat
    others_spent : (c : Bundle P) → Contains others c → c.seats ≡ []
    others_spent c there =
        let few = share-le (λ (x : Bundle P). sum_by (λ (v : SeatView). 1) x.seats) others c there in
        let total = sum_set (λ (x : Bundle P). sum_by (λ (v : SeatView). 1) x.seats) s.views seat b no_seats at in
        let known = sum_in (λ (v : SeatView). 1) s.views in
        let many = length_is_sum (seats_in s.views) in
        let mine = length_is_sum b.seats in
        let theirs = length_is_sum c.seats in
        let seats = rule.shown.seats.all in
        let as_many = rule.seats in
        none_long c.seats (omega arith)

    -- so all seats are in this one
    here : (v : SeatView) → Contains (seats_in s.views) v → Contains b.seats v
    here v c =
        let m = bundle_of s.views v c in
        elim (cases_eq m.0 seat) [
          | inl e ↦ subst (λ (x : Bundle P). Contains x.seats v) (some-injective m.1 b (sym m.2 ∙ ap (get_elem? s.views) e ∙ at)) m.3
          | inr n ↦
              let there : Contains others m.1 = Contains-from_slice_get others m.0 m.1 (get_from_elem others m.0 m.1 (set_else s.views seat m.0 no_seats n ∙ m.2)) in
              absurd (Contains-nil v (subst (λ (vs : List SeatView). Contains vs v) (others_spent m.1 there) m.3))
        ]

    -- and their notes are all notes
    claims_here : (task : ℕ) → claims_of task (seats_in s.views) ≡ claims_of task b.seats
    claims_here task =
        let f : SeatView → ℕ = λ v. count_by (claims_task task) v.notes in
        let g : Bundle P → ℕ = λ (x : Bundle P). sum_by f x.seats in
        let total = sum_set g s.views seat b no_seats at in
        let known = sum_in f s.views in
        let none = sum_by-none g others (λ c there. ap (sum_by f) (others_spent c there)) in
        omega arith

    -- no seat of the machine holds anything
    view_empty : (place : ℕ) (view : View) → IsView rule.core place view → view ≡ empty_view
    view_empty place view is =
        let once = rule.shown.seats.once place (slice_get_within rule.core.views place view is.is) in
        let m = some_share (λ (v : SeatView). one_if v.place place) (seats_in s.views) (omega arith) in
        let same : m.0.place ≡ place = elim (cases_eq m.0.place place) [ inl e ↦ e | inr n ↦ absurd (let z = one_if-other m.0.place place n in let p = m.2 in omega arith) ] in
        let theirs : IsView rule.core place m.0.holds = subst (λ (k : ℕ). IsView rule.core k m.0.holds) same (rule.shown.seats.each m.0 m.1) in
        same_Some view m.0.holds (sym is.is ∙ theirs.is) ∙ idle m.0 (here m.0 m.1)

    each_empty : (view : View) → Contains rule.core.views view → view ≡ empty_view
    each_empty view c = let m = get_from_Contains rule.core.views view c in view_empty m.0 view (record { is = m.1 })

    none_out : (leaf : ℕ) → outs_of leaf rule.core.views ≡ 0
    none_out leaf = sum_by-none (λ (x : View). count_by (λ l. l == leaf) x.out) rule.core.views (λ x c. ap (λ (w : View). count_by (λ l. l == leaf) w.out) (each_empty x c))

    none_left : (task : ℕ) → unreleased shape rule.core task ≡ open_edges shape rule.core.words task
    none_left task =
        let none = sum_by-none (λ (x : View). left_in x.running task) rule.core.views (λ x c. ap (λ (w : View). left_in w.running task) (each_empty x c)) in
        omega (arith, none)

    done_when : (task leaf : ℕ) → IsDone shape rule.core task leaf ↔ (IsTaken shape rule.core.words task × Touches shape task leaf)
    done_when task leaf = (
      λ d. (d.claimed, d.touches),
      λ p. record {
        touches = p.1;
        claimed = p.0;
        none_left = λ place view running x r c. none-some running (ap (λ (w : View). w.running) (sym (view_empty place view x)) ∙ r.is);
      },
    )

    closed : (slots : List (Option B)) → length s.homes ≡ length slots → ((k : ℕ) (y : Option B) → get_elem? s.homes k ≡ some (some y) → get_elem? slots k ≡ some y) → IsClosed shape fits done b.seats rule.core.words slots
    closed slots long values = record {
      one_each = sym long ∙ rule.shown.homes.one_each;
      each = λ leaf l.
          let was = rule.shown.homes.each leaf l (none_out leaf) in
          record {
            block = was.block;
            at = values leaf (Some was.block) was.at;
            good = record {
              fitting = was.fitting;
              tasks = λ task. (
                λ c. (done_when task leaf).0 ((was.tasks task).0 c),
                λ p. (was.tasks task).1 ((done_when task leaf).1 p),
              );
            };
          };
      within = λ task t. elim (cases_lt task (length shape.tasks)) [
        | inl l ↦ l
        | inr past ↦
            let words = rule.shown.sound.locks.words in
            let none = get_or_past rule.core.words (task_place shape task) 0 (omega arith) in
            absurd (omega arith)
      ];
      in_order = λ before after l l' edge c. (rule.shown.sound.tasks.in_order before after 0 l l' edge c).0;
      released = λ task l n. rule.shown.sound.tasks.task_words task l n ∙ none_left task;
      claims = λ task l. (
        λ c. subst (λ (n : ℕ). 0 < n) (claims_here task) ((rule.shown.claims.claimed task l).1 c),
        λ some. (rule.shown.claims.claimed task l).0 (subst (λ (n : ℕ). 0 < n) (sym (claims_here task)) some),
      );
    }

  pub closes : (words : List ℕ) (slots : List (Option B)) (seat : ℕ) (b : Bundle P) → length b.seats ≡ count → ((v : SeatView) → Contains b.seats v → v.holds ≡ empty_view)
      → table.Final (table.Seen (Shows shape fits done count) seat b) words slots → IsClosed shape fits done b.seats words slots
  closes words slots seat b all idle final =
      subst (λ (ws : List ℕ). IsClosed shape fits done b.seats ws slots) (final.1.0.words ∙ final.2)
      (closed final.0 final.1.0 seat b final.1.1 all idle slots final.3 final.4)

  -- where no seat holds anything, the blocks are returned, and just those tasks are claimed that a seat claimed
  pub closes_returned : (words copied : List ℕ) (slots : List (Option B)) (blocks : List B) (seat : ℕ) (b : Bundle P) → IsShape shape → length b.seats ≡ count → All HoldsNone b.seats
      → table.Final (table.Seen (Shows shape fits done count) seat b) words slots → copied ≡ words → blocks ≡ blocks_in slots
      → AreReturned shape fits done copied blocks × ((task : ℕ) → task < length shape.tasks → (IsTaken shape copied task ↔ (0 < claims_of task b.seats)))
  closes_returned words copied slots blocks seat b laws all empty final copied_is blocks_are =
      let ended = closes words slots seat b all (λ v c. All-contains HoldsNone b.seats v empty c) final in (
        subst (AreReturned shape fits done copied) (sym blocks_are) (subst (λ (ws : List ℕ). AreReturned shape fits done ws (blocks_in slots)) (sym copied_is) (returned_blocks shape fits done b.seats words slots laws ended)),
        λ task l. subst (λ (ws : List ℕ). IsTaken shape ws task ↔ (0 < claims_of task b.seats)) (sym copied_is) (ended.claims task l),
      )
