-- A task whose successors are released, one after the other.
use Rattle.std.proofs.Common.{◌≡◌, ◌≢◌, ℕ, suc, ◌+◌, ◌<◌, List, [], ◌∷◌, ◌++◌, length, take, drop, get_or, slice_index, Option, Some, None, refl, sym, ap, ◌∙◌, append_assoc, append-nil, drop-cons, drop_of_length-le, take_all, take-suc, arith}
use Rattle.std.specs.List.{filter_map}
use Rattle.std.specs.Option.{option_to_list}
use Rattle.std.proofs.lemmas.List.Elements.{All-append, All-cons, All-nil, filter_map-append}
use mathlib.Core.List.{map-append}
use Rattle.qs_core.specs.declared.event.Note.{Note}
use Rattle.qs_core.specs.declared.event.Step.TheVariants.{Release}
use Rattle.qs_core.specs.declared.event.StepKind.TheVariants as Kind
use Rattle.qs_core.specs.Shape.{Shape}
use Rattle.qs_core.specs.Core.{Running, View}
use Rattle.qs_core.specs.Steps.{CanRelease, after_release, next_successor, rest, unless_over}
use Rattle.qs_table.specs.declared.view.SeatView.{SeatView}
use Rattle.qs_table.specs.Claims.{AreReleasesOf, IsOver, freed_if, freed_in, freed_of}
use Rattle.qs_table.specs.Views.{knows_after, noted}

pub some_long : (xs : List ℕ) → xs ≢ [] → 0 < length xs
some_long [] n = absurd (n refl)
some_long (x ∷ xs) n = omega arith

-- with successors left a task isn't over
pub unless_some : (task : ℕ) (successors : List ℕ) → successors ≢ [] → unless_over task [] successors ≡ Some (record { task = task; leaves = []; successors = successors })
unless_some task [] n = absurd (n refl)
unless_some task (s ∷ ss) n = refl

abbrev pub with_running : View → Option Running → View
with_running view running = record view { running = running }

-- so many successors are released, and those that were freed stand behind the list
pub record Releasing (successors : List ℕ) (k : ℕ) (first now : SeatView) (ready ready' : List ℕ) : Type 0 where
  pub task : ℕ
  pub place : now.place ≡ first.place
  pub holds : now.holds ≡ with_running first.holds (unless_over task [] (drop k successors))
  pub fetched : now.fetched ≡ first.fetched
  pub hand : now.hand ≡ first.hand
  pub further : List Note
  pub notes : now.notes ≡ first.notes ++ further
  pub releases : AreReleasesOf further (take k successors)
  pub freed : ready' ≡ ready ++ freed_in further

-- none is, at first
pub releasing_none : (first : SeatView) (task : ℕ) (successors ready : List ℕ) → first.holds.running ≡ Some (record { task = task; leaves = []; successors = successors }) → successors ≢ [] → Releasing successors 0 first first ready ready
releasing_none first task successors ready runs some_left = record {
  task = task;
  place = refl;
  holds = ap (with_running first.holds) (runs ∙ sym (unless_some task successors some_left));
  fetched = refl;
  hand = refl;
  further = [];
  notes = sym (append-nil first.notes);
  releases = (All-nil (λ (n : Note). n.kind ≡ Kind.Release), refl);
  freed = sym (append-nil ready);
}

-- what one note frees
freed_one : (task seen : ℕ) (o : Option ℕ) → freed_if task seen ≡ o → (number : ℕ) → freed_in (record { number = number; kind = Kind.Release; cell = task; seen = seen } ∷ []) ≡ option_to_list o
freed_one task seen None e number = ap (λ (x : Option ℕ). filter_map (λ (n : Note). x) (record { number = number; kind = Kind.Release; cell = task; seen = seen } ∷ [])) e
freed_one task seen (Some t) e number = ap (λ (x : Option ℕ). filter_map (λ (n : Note). x) (record { number = number; kind = Kind.Release; cell = task; seen = seen } ∷ [])) e

module _ (successors : List ℕ) (k : ℕ) (first now : SeatView) (ready ready' : List ℕ) (r : Releasing successors k first now ready ready') (more : k < length successors) where
  abbrev pub next : ℕ
  next = get_or successors k 0

  abbrev left : List ℕ
  left = drop k successors

  left_is : left ≡ next ∷ drop (k + 1) successors
  left_is = let one : suc k ≡ k + 1 = omega arith in drop-cons successors k 0 more ∙ ap (λ (n : ℕ). next ∷ drop n successors) one

  runs : now.holds.running ≡ Some (record { task = r.task; leaves = []; successors = left })
  runs = ap (λ (w : View). w.running) r.holds ∙ unless_some r.task left (λ e. absurd (let n : 0 ≡ suc (length (drop (k + 1) successors)) = ap length (sym e ∙ left_is) in omega arith))

  -- the next one may be released
  pub may_release : CanRelease now.holds
  may_release = record {
    running = record { task = r.task; leaves = []; successors = left };
    runs = runs;
    returned = refl;
    left = λ e. absurd (let n : 0 ≡ suc (length (drop (k + 1) successors)) = ap length (sym e ∙ left_is) in omega arith);
  }

  pub releases_next : next ≡ next_successor now.holds.running
  releases_next = sym (ap next_successor runs ∙ ap (λ (xs : List ℕ). slice_index xs 0) left_is)

  -- and is
  module _ (shape : Shape) (after : SeatView) (seen : ℕ) (made : after ≡ knows_after shape now Release seen) (ready'' : List ℕ) (pushed : ready'' ≡ ready' ++ option_to_list (freed_if next seen)) where
    abbrev note : Note
    note = noted shape now Release seen

    frees : freed_in (note ∷ []) ≡ option_to_list (freed_if next seen)
    frees = ap (λ (c : ℕ). freed_in (record { number = note.number; kind = Kind.Release; cell = c; seen = seen } ∷ [])) (sym releases_next) ∙ freed_one next seen (freed_if next seen) refl note.number

    pub releasing_more : Releasing successors (k + 1) first after ready ready''
    releasing_more = record {
      task = r.task;
      place = ap (λ (v : SeatView). v.place) made ∙ r.place;
      holds =
          ap (λ (v : SeatView). v.holds) made
          ∙ ap (λ (w : View). with_running w (after_release w.running)) r.holds
          ∙ ap (λ (o : Option Running). with_running first.holds (after_release o)) (sym (ap (λ (w : View). w.running) r.holds) ∙ runs)
          ∙ ap (λ (xs : List ℕ). with_running first.holds (unless_over r.task [] (rest xs))) left_is;
      fetched = ap (λ (v : SeatView). v.fetched) made ∙ r.fetched;
      hand = ap (λ (v : SeatView). v.hand) made ∙ r.hand;
      further = r.further ++ note ∷ [];
      notes = ap (λ (v : SeatView). v.notes) made ∙ ap (λ (ns : List Note). ns ++ note ∷ []) r.notes ∙ append_assoc first.notes r.further (note ∷ []);
      releases = (
        All-append (λ (n : Note). n.kind ≡ Kind.Release) r.further (note ∷ []) r.releases.0 (All-cons (λ (n : Note). n.kind ≡ Kind.Release) note [] refl (All-nil (λ (n : Note). n.kind ≡ Kind.Release))),
        map-append (λ (n : Note). n.cell) r.further (note ∷ [])
            ∙ ap (λ (xs : List ℕ). xs ++ note.cell ∷ []) r.releases.1
            ∙ ap (λ (x : ℕ). take k successors ++ x ∷ []) (sym releases_next)
            ∙ (let one : k + 1 ≡ suc k = omega arith in sym (ap (λ (n : ℕ). take n successors) one ∙ take-suc successors k 0 more)),
      );
      freed =
          pushed
          ∙ ap (λ (xs : List ℕ). xs ++ option_to_list (freed_if next seen)) r.freed
          ∙ append_assoc ready (freed_in r.further) (option_to_list (freed_if next seen))
          ∙ ap (λ (xs : List ℕ). ready ++ xs) (ap (λ (xs : List ℕ). freed_in r.further ++ xs) (sym frees) ∙ sym (filter_map-append (λ (n : Note). freed_of n.kind n.cell n.seen) r.further (note ∷ [])));
    }

-- all are: the task is over
pub releasing_all : (successors : List ℕ) (k : ℕ) (first now : SeatView) (ready ready' : List ℕ) → Releasing successors k first now ready ready' → k ≡ length successors → IsOver successors first now ready ready'
releasing_all successors k first now ready ready' r all = record {
  place = r.place;
  holds = r.holds ∙ ap (λ (xs : List ℕ). with_running first.holds (unless_over r.task [] xs)) (drop_of_length-le successors (let e = all in omega arith));
  fetched = r.fetched;
  hand = r.hand;
  further = r.further;
  notes = r.notes;
  releases = (r.releases.0, r.releases.1 ∙ take_all k successors (let e = all in omega arith));
  freed = r.freed;
}
