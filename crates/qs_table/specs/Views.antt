-- What a seat knows: what it holds, the notes of all its steps, and what was done on the blocks that it has out.
use Rattle.std.specs.Prelude.{◌==◌, ℕ, ◌-◌, List, [], ◌∷◌, ◌++◌, filter, length, map, not, slice_get, Option, Some, None}
use Rattle.std.specs.List.{flat_map, range_with_len}
use Rattle.qs_core.specs.declared.event.Note.{Note}
use Rattle.qs_core.specs.declared.event.Step.{Step}
use Rattle.qs_core.specs.declared.event.Step.TheVariants.{Fetch, Return}
use Rattle.qs_core.specs.Shape.{Shape}
use Rattle.qs_core.specs.Core.{empty_view}
use Rattle.qs_core.specs.Steps.{view_after}
use Rattle.qs_core.specs.Machine.{note_after}
use Rattle.qs_table.specs.declared.view.Bundle.{Bundle}
use Rattle.qs_table.specs.declared.view.Fetched.{Fetched}
use Rattle.qs_table.specs.declared.view.SeatView.{SeatView}

-- a seat that has made no step
abbrev pub fresh_seat : ℕ → SeatView
fresh_seat place = record { place = place; holds = empty_view; notes = []; fetched = []; hand = None }

-- the note of a step that saw this
abbrev pub noted : Shape → SeatView → Step → ℕ → Note
noted shape v step seen = note_after shape v.holds (slice_get v.notes (length v.notes - 1)) step seen

-- what the seat knows after it, where these leaves are out then and this slot is at hand
abbrev pub knows_with : Shape → SeatView → Step → ℕ → List Fetched → Option ℕ → SeatView
knows_with shape v step seen fetched hand = record {
  place = v.place;
  holds = view_after shape v.holds step seen;
  notes = v.notes ++ noted shape v step seen ∷ [];
  fetched = fetched;
  hand = hand;
}

-- the same for a step that leaves the leaves where they are
abbrev pub knows_after : Shape → SeatView → Step → ℕ → SeatView
knows_after shape v step seen = knows_with shape v step seen v.fetched v.hand

-- a slot comes to hand, or goes back
abbrev pub with_hand : SeatView → Option ℕ → SeatView
with_hand v hand = record v { hand = hand }

-- a leaf is fetched with these tasks done on its block, and one is returned
abbrev pub fetched_with : List Fetched → ℕ → List ℕ → List Fetched
fetched_with fetched leaf done = record { leaf = leaf; done = done } ∷ fetched

abbrev pub fetched_without : List Fetched → ℕ → List Fetched
fetched_without fetched leaf = filter (λ (f : Fetched). not (f.leaf == leaf)) fetched

-- what the seat knows after its fetch of a leaf that was home, and after its return of one that was out
abbrev pub knows_fetched : Shape → SeatView → ℕ → List ℕ → Option ℕ → SeatView
knows_fetched shape v leaf done hand = knows_with shape v (Fetch leaf) 0 (fetched_with v.fetched leaf done) hand

abbrev pub knows_returned : Shape → SeatView → ℕ → SeatView
knows_returned shape v leaf = knows_with shape v (Return leaf) 1 (fetched_without v.fetched leaf) None

-- one seat alone, and all seats of a table at its start
abbrev pub alone : {P : Type 0} → P → SeatView → Bundle P
alone plan v = record { plan = Some plan; seats = v ∷ [] }

abbrev pub all_seats : {P : Type 0} → P → ℕ → Bundle P
all_seats plan count = record { plan = Some plan; seats = map fresh_seat (range_with_len 0 count) }

-- no seat, as is left of a bundle that went into another
abbrev pub no_seats : {P : Type 0} → Bundle P
no_seats = record { plan = None; seats = [] }

-- the seats of all bundles
abbrev pub seats_in : {P : Type 0} → List (Bundle P) → List SeatView
seats_in {P} bundles = flat_map (λ (b : Bundle P). b.seats) bundles
