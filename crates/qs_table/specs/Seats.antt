-- A table and the tokens of its seats, as callers see them.
use Rattle.std.specs.Prelude.{◌≡◌, ◌≢◌, ℕ, List, [], Option, Some, None, map}
use Rattle.atomic_table.specs.Seated.{TableId}
use Rattle.qs_core.specs.Shape.{Shape, AreApart}
use Rattle.qs_core.specs.Core.{Owns, View}
use Rattle.qs_core.specs.Steps.{HasReturned}
use Rattle.qs_table.specs.declared.view.SeatView.{SeatView}
use Rattle.qs_table.specs.Views.{fresh_seat}

-- a table: what names it, the plan of its work, and for how many seats it was made
pub record TableView (P : Type 0) : Type 0 where
  pub id : TableId
  pub plan : P
  pub seats : ℕ

-- a token: the table's name and plan, and what the seat knows
pub record TokenView (P : Type 0) : Type 0 where
  pub id : TableId
  pub plan : Option P
  pub view : SeatView

-- the token is of a seat of the table
pub record IsSeatOf {P : Type 0} (table : TableView P) (seat : TokenView P) : Type 0 where
  pub same : seat.id ≡ table.id
  pub plan_is : seat.plan ≡ Some table.plan

-- which has made no step
pub record IsNewSeat {P : Type 0} (table : TableView P) (seat : TokenView P) : Type 0 where
  pub of_table : IsSeatOf table seat
  pub fresh : seat.view ≡ fresh_seat seat.view.place

-- which owns nothing and runs nothing
pub record IsIdle (view : View) : Type 0 where
  pub owns_none : view.chains ≡ []
  pub runs_none : view.running ≡ None

pub record IsIdleSeat {P : Type 0} (table : TableView P) (seat : TokenView P) : Type 0 where
  pub of_table : IsSeatOf table seat
  pub idle : IsIdle seat.view.holds

-- the seat may give a cell back: it has one, no leaf out, and no task running that isn't returned on all its leaves
pub record CanGive (view : View) : Type 0 where
  pub some : view.chains ≢ []
  pub none_out : view.out ≡ []
  pub returned : HasReturned view.running

-- no cell that the one owns contains, or is contained in, one that the other owns
abbrev pub OwnApart : Shape → View → View → Type 0
OwnApart shape a b = (cell other : ℕ) → Owns shape a cell → Owns shape b other → AreApart shape cell other

-- what the seats of tokens know
abbrev pub views_of : {P : Type 0} → List (TokenView P) → List SeatView
views_of {P} tokens = map (λ (t : TokenView P). t.view) tokens
