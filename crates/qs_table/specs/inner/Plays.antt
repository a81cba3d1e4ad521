-- What each step tells its seat, and how bundles of seats are cut in two and made one.
use Rattle.std.specs.Prelude.{◌≡◌, ◌≢◌, ◌≤◌, ℕ, List, [], ◌∷◌, ◌++◌, length, take, drop, count_by, Option, Some, None, unwrap_or, slice_get}
use Rattle.atomic_table.specs.Table.{Me}
use Rattle.atomic_table.specs.Table as table
use Rattle.qs_core.specs.declared.event.Step.{Step}
use Rattle.qs_core.specs.declared.event.Step.TheVariants.{Claim, Lock, Release}
use Rattle.qs_core.specs.Shape.{Shape}
use Rattle.qs_core.specs.Core.{cell_place, claimed_word, leaf_place, task_place}
use Rattle.qs_table.specs.declared.view.Bundle.{Bundle}
use Rattle.qs_table.specs.declared.view.SeatView.{SeatView}
use Rattle.qs_table.specs.Leaves.{IsFetched}
use Rattle.qs_table.specs.Notes.{claims_task, frees_task}
use Rattle.qs_table.specs.Seats.{OwnApart}
use Rattle.qs_table.specs.Views.{alone, fresh_seat, knows_after, knows_fetched, knows_returned, with_hand}

-- the first seat of a bundle
abbrev pub first_of : List SeatView → SeatView
first_of seats = unwrap_or (slice_get seats 0) (fresh_seat 0)

abbrev pub seat_in : {P : Type 0} → Bundle P → SeatView
seat_in b = first_of b.seats

-- the first seat of a bundle and the others, and two bundles as one
abbrev pub first_alone : {P : Type 0} → Bundle P → Bundle P
first_alone b = record { plan = b.plan; seats = take 1 b.seats }

abbrev pub without_first : {P : Type 0} → Bundle P → Bundle P
without_first b = record { plan = b.plan; seats = drop 1 b.seats }

abbrev pub together : {P : Type 0} → Bundle P → Bundle P → Bundle P
together a b = record { plan = a.plan; seats = a.seats ++ b.seats }

-- two seats in one bundle
abbrev pub pair : {P : Type 0} → P → SeatView → SeatView → Bundle P
pair plan v w = record { plan = Some plan; seats = v ∷ w ∷ [] }

module _ {S P : Type 0} (shape : P → Shape) (st : table.Step S) (me : Me S (Bundle P)) (found : ℕ) (me' : Me S (Bundle P)) where
  -- what a lock tells
  abbrev pub Locked : Type 0
  Locked = (plan : P) (v : SeatView) (cell : ℕ) → me.0 ≡ alone plan v → st.word ≡ cell_place (shape plan) cell → me' ≡ (alone plan (knows_after (shape plan) v (Lock cell) found), me.1)

  -- a raise, a lower and an unlock
  abbrev pub Moved : Step → Type 0
  Moved step = (plan : P) (v : SeatView) → me.0 ≡ alone plan v → me' ≡ (alone plan (knows_after (shape plan) v step found), me.1)

  -- and a look at two seats
  pub record Met : Type 0 where
    pub same : me' ≡ me
    pub apart : (plan : P) (v w : SeatView) → me.0 ≡ pair plan v w → OwnApart (shape plan) v.holds w.holds

-- the block of a leaf comes to hand
pub record TookBlock {B P : Type 0} (shape : P → Shape) (fits : P → ℕ → B → Type 0) (done : B → List ℕ) (plan : P) (v : SeatView) (leaf : ℕ) (slots : List (ℕ × Option B)) (me' : Me (Option B) (Bundle P)) : Type 0 where
  pub block : B
  pub is : me' ≡ (alone plan (knows_fetched (shape plan) v leaf (done block) (Some leaf)), (leaf, Some block) ∷ slots)
  pub fetched : IsFetched (shape plan) (fits plan) done v leaf block

module _ {B P : Type 0} (shape : P → Shape) (st : table.Step (Option B)) (me : Me (Option B) (Bundle P)) (found : ℕ) (me' : Me (Option B) (Bundle P)) where
  -- what a fetch tells
  abbrev pub Took : (P → ℕ → B → Type 0) → (B → List ℕ) → Type 0
  Took fits done = (plan : P) (v : SeatView) (leaf : ℕ) → me.0 ≡ alone plan v → st.word ≡ leaf_place (shape plan) leaf → TookBlock shape fits done plan v leaf me.1 me'

  -- a look at which the slot at hand goes back, and one at which an emptied slot comes to hand
  abbrev pub LaidDown : Type 0
  LaidDown = (plan : P) (v : SeatView) → me.0 ≡ alone plan v → me' ≡ (alone plan (with_hand v None), table.rest me.1)

  abbrev pub TakenUp : Type 0
  TakenUp = (plan : P) (v : SeatView) (leaf : ℕ) → me.0 ≡ alone plan v → st.word ≡ leaf_place (shape plan) leaf → me' ≡ (alone plan (with_hand v (Some leaf)), (leaf, None) ∷ me.1)

  -- and a return
  abbrev pub Brought : Type 0
  Brought = (plan : P) (v : SeatView) (leaf : ℕ) → me.0 ≡ alone plan v → st.word ≡ leaf_place (shape plan) leaf → me' ≡ (alone plan (knows_returned (shape plan) v leaf), table.rest me.1)

-- a word of a task: that of a claimed one, or a count of edges
abbrev pub IsTaskWord : Shape → ℕ → Type 0
IsTaskWord shape word = word ≢ claimed_word → word ≤ length shape.tasks

-- a task was asked for; the seat claimed none twice
pub record HasAsked {S P : Type 0} (shape : P → Shape) (plan : P) (v : SeatView) (task : ℕ) (slots : List (ℕ × S)) (found : ℕ) (me' : Me S (Bundle P)) : Type 0 where
  pub is : me' ≡ (alone plan (knows_after (shape plan) v (Claim task) found), slots)
  pub word : IsTaskWord (shape plan) found
  pub once : (t : ℕ) → count_by (claims_task t) (knows_after (shape plan) v (Claim task) found).notes ≤ 1

module _ {S P : Type 0} (shape : P → Shape) (st : table.Step S) (me : Me S (Bundle P)) (found : ℕ) (me' : Me S (Bundle P)) where
  -- what a claim tells
  abbrev pub Asked : Type 0
  Asked = (plan : P) (v : SeatView) (task : ℕ) → me.0 ≡ alone plan v → st.word ≡ task_place (shape plan) task → HasAsked shape plan v task me.1 found me'

  -- and a release; the seat released none twice
  abbrev pub Released : Type 0
  Released =
      (plan : P) (v : SeatView) → me.0 ≡ alone plan v
      → (me' ≡ (alone plan (knows_after (shape plan) v Release found), me.1)) × ((t : ℕ) → count_by (frees_task t) (knows_after (shape plan) v Release found).notes ≤ 1)
