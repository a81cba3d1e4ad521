-- A table at its start keeps the rule.
use Rattle.std.proofs.Common.{◌≡◌, ℕ, ◌+◌, ◌<◌, ◌==◌, cond, List, [], ◌∷◌, length, map, replicate, sum_by, count_by, Contains, Option, Some, refl, sym, ap, ◌∙◌, subst, append-nil, arith}
use Rattle.std.specs.List.{range_with_len}
use Rattle.std.proofs.lemmas.List.{get_or-replicate, length-map, length-replicate}
use Rattle.std.proofs.lemmas.List.FromFn.{length-map-range_with_len}
use Rattle.std.proofs.lemmas.List.Sums.{sum_by-cons}
use Rattle.std.proofs.lemmas.Option.{slice_get-get_or}
use mathlib.Core.Option.{some}
use Rattle.atomic_table.specs.Table.{State}
use Rattle.atomic_table.specs.Table as table
use Rattle.atomic_table.proofs.Lists.{at_map}
use Rattle.lists.proofs.Counts.{count-pos}
use Rattle.lists.proofs.Elements.{Contains-nil}
use Rattle.lists.proofs.Places.{get_from_Contains, slice_get-map_cases}
use Rattle.lists.proofs.Ranges.{Contains-numbers, below_from_numbers, count-range}
use Rattle.lists.proofs.Places.{Contains-from_slice_get}
use Rattle.lists.proofs.Sums.{sum_by-none}
use Rattle.atomic_table.specs.Seated.{TableId}
use Rattle.qs_core.specs.Shape.{Shape, IsShape, ancestors}
use Rattle.qs_core.specs.Core.{empty_view, opening, task_place, word_count}
use Rattle.qs_core.specs.Sound.{IsClaimed}
use Rattle.qs_core.proofs.Opening.{none_claimed, opening_is_sound}
use Rattle.qs_table.specs.declared.view.SeatView.{SeatView}
use Rattle.qs_table.specs.Notes.{claims_task, frees_task}
use Rattle.qs_table.specs.Rule.{AreOut, AreSeats, IsShown, Shows}
use Rattle.qs_table.specs.Views.{all_seats, fresh_seat}
use Rattle.qs_table.specs.inner.Slots.{AreFreshSlots}
use Rattle.qs_table.specs.inner.Tokens.{IsLaidOut}
use Rattle.qs_table.proofs.Acts.{claimed_is_task}

sum_map : {X Y : Type 0} (g : Y → ℕ) (f : X → Y) (xs : List X) → sum_by g (map f xs) ≡ sum_by (λ (x : X). g (f x)) xs
sum_map g f [] = refl
sum_map g f (x ∷ xs) = sum_by-cons g (f x) (map f xs) ∙ ap (λ (n : ℕ). g (f x) + n) (sum_map g f xs) ∙ sym (sum_by-cons (λ x. g (f x)) x xs)

module _ (count : ℕ) where
  abbrev fresh : List SeatView
  fresh = map fresh_seat (range_with_len 0 count)

  -- each has a place below the count
  fresh_is : (v : SeatView) → Contains fresh v → (v ≡ fresh_seat v.place) × (v.place < count)
  fresh_is v c =
      let at = get_from_Contains fresh v c in
      let m = slice_get-map_cases fresh_seat (range_with_len 0 count) at.0 v at.1 in
      let place : v.place ≡ m.0 = ap (λ (u : SeatView). u.place) m.2 in (
        m.2 ∙ ap fresh_seat (sym place),
        (let l = below_from_numbers count m.0 (Contains-from_slice_get (range_with_len 0 count) at.0 m.0 m.1) in omega arith),
      )

  seats_fresh : (shape : Shape) → AreSeats (opening shape count) fresh
  seats_fresh shape = record {
    each = λ v c.
        let f = fresh_is v c in
        let l = f.1 in
        record { is = slice_get-get_or (replicate count empty_view) v.place empty_view (rw (length-replicate count empty_view) l) ∙ ap Some (get_or-replicate count v.place empty_view empty_view l ∙ ap (λ (u : SeatView). u.holds) (sym f.0)) };
    once = λ place l.
        let m = sum_map (λ (v : SeatView). cond (v.place == place) 1 0) fresh_seat (range_with_len 0 count) in
        let few = count-range 0 count place in
        let some = count-pos (range_with_len 0 count) place (Contains-numbers count place (let e = length-replicate count empty_view in omega arith)) in
        omega arith;
    all = length-map-range_with_len fresh_seat 0 count ∙ sym (length-replicate count empty_view);
  }

  -- none of them has a note
  none_noted : (p : _ → _) → sum_by (λ (v : SeatView). count_by p v.notes) fresh ≡ 0
  none_noted p = sum_by-none (λ (v : SeatView). count_by p v.notes) fresh (λ v c. ap (λ (u : SeatView). count_by p u.notes) (fresh_is v c).0)

  module _ {B P : Type 0} (shape : Shape) (fits : ℕ → B → Type 0) (done : B → List ℕ) (laws : IsShape shape) where
    pub opens : (words : List ℕ) (slots : List (Option B)) (plan : P) → words ≡ (opening shape 0).words → AreFreshSlots shape fits done slots → Shows shape fits done count (table.opening words slots (all_seats plan count))
    opens words slots plan is start =
        let none : (task : ℕ) → IsClaimed shape (opening shape count) task → ⊥ = λ task c.
        none_claimed shape count task laws (claimed_is_task shape (opening shape count) task (opening_is_sound shape count laws) c) c in
        record {
          laws = laws;
          core = opening shape count;
          words = sym is;
          seats = length-replicate count empty_view;
          shown = subst (IsShown shape fits done (opening shape count) (map some slots)) (sym (append-nil fresh)) (record {
            sound = opening_is_sound shape count laws;
            seats = seats_fresh shape;
            homes = record {
              one_each = length-map slots some ∙ start.one_each;
              each = λ leaf l home.
                  let h = start.each leaf l in
                  record {
                    block = h.block;
                    at = at_map some slots leaf (Some h.block) h.at;
                    fitting = h.good.fitting;
                    tasks = λ task. (λ c. absurd (Contains-nil task (subst (λ (ts : List ℕ). Contains ts task) h.good.none_done c)), λ d. absurd (none task d.claimed));
                  };
            };
            outs = λ v c. subst (AreOut shape (opening shape count) (map some slots)) (sym (fresh_is v c).0) (record { leaves = refl; tasks = λ f d. absurd (Contains-nil f d); empty = λ f d n. absurd (Contains-nil f d) });
            claims = record {
              one = λ task. let z = none_noted (claims_task task) in omega arith;
              claimed = λ task l. (λ some. absurd (let z = none_noted (claims_task task) in omega arith), λ c. absurd (none task c));
            };
            releases = record {
              one = λ task. let z = none_noted (frees_task task) in omega arith;
              released = λ task l some. absurd (let z = none_noted (frees_task task) in omega arith);
            };
          });
        }

-- what a table keeps is laid out, where its lines and words are those of the work
pub laid_out : (shape shape' : Shape) (id : TableId) (lines : List (List ℕ)) (words : List ℕ) → shape' ≡ shape → IsShape shape → lines ≡ map (ancestors shape) (range_with_len 0 (length shape.parents)) → words ≡ (opening shape 0).words
    → id.words ≡ length words → id.slots ≡ shape.leaves → IsLaidOut shape' id lines words
laid_out shape shape' id lines words same laws lines_are words_are many slots_are =
    let room : length words ≡ word_count shape = ap length words_are ∙ (opening_is_sound shape 0 laws).locks.words in
    subst (λ (s : Shape). IsLaidOut s id lines words) (sym same) (record {
      laws = laws;
      words_are = many ∙ room;
      slots_are = slots_are;
      lines_are = lines_are;
      room = room;
    })

-- there are as many lines as cells
pub cells_of_lines : (shape : Shape) (id : TableId) (lines : List (List ℕ)) (words : List ℕ) → IsLaidOut shape id lines words → length lines ≡ length shape.parents
cells_of_lines shape id lines words laid = ap length laid.lines_are ∙ length-map-range_with_len (ancestors shape) 0 (length shape.parents)

-- the word of its first task
pub first_task_at : (shape shape' : Shape) (id : TableId) (lines : List (List ℕ)) (words : List ℕ) (cells slots : ℕ) → shape ≡ shape' → IsLaidOut shape id lines words → cells ≡ length lines → slots ≡ id.slots → 1 + cells + slots ≡ task_place shape' 0
first_task_at shape shape' id lines words cells slots same laid cells_are slots_are =
    let all = cells_of_lines shape id lines words laid in
    let leaves = laid.slots_are in
    subst (λ (s : Shape). 1 + cells + slots ≡ task_place s 0) same (omega (arith, all, leaves))
