-- Seats that hold nothing: what they may do, and what tries and gives leave of them.
use Rattle.std.proofs.Common.{◌≡◌, ℕ, ◌<◌, List, All, length, refl, ap, sym, subst, ◌∙◌, arith}
use Rattle.lists.proofs.Elements.{Contains-nil}
use Rattle.qs_core.specs.Shape.{Shape}
use Rattle.qs_core.specs.Core.{View, empty_view}
use Rattle.qs_core.specs.Steps.{CanLock}
use Rattle.qs_table.specs.declared.answers.Try.TheVariants.{Got, Busy}
use Rattle.qs_table.specs.declared.view.SeatView.{SeatView}
use Rattle.qs_table.specs.Seats.{CanGive, IsIdleSeat, IsNewSeat, TableView, TokenView}
use Rattle.qs_table.specs.inner.Tokens.{IsEmptySeat}
use Rattle.qs_table.specs.Tries.{Gave, Tried, with_cell, without_newest}

module _ {P : Type 0} where
  pub new_is_empty : (table : TableView P) (seat : TokenView P) → IsNewSeat table seat → IsEmptySeat table seat
  new_is_empty table seat new = record { of_table = new.of_table; empty = ap (λ (v : SeatView). v.holds) new.fresh }

  pub empty_is_idle : (table : TableView P) (seat : TokenView P) → IsEmptySeat table seat → IsIdleSeat table seat
  empty_is_idle table seat e = record {
    of_table = e.of_table;
    idle = record { owns_none = ap (λ (v : View). v.chains) e.empty; runs_none = ap (λ (v : View). v.running) e.empty };
  }

  pub all_empty : (table : TableView P) (seats : List (TokenView P)) → All (IsNewSeat table) seats → All (IsEmptySeat table) seats
  all_empty table seats all k d l = new_is_empty table _ (all k d l)

  pub all_idle : (table : TableView P) (seats : List (TokenView P)) → All (IsEmptySeat table) seats → All (IsIdleSeat table) seats
  all_idle table seats all k d l = empty_is_idle table _ (all k d l)

-- one may try each cell
pub empty_can_lock : (shape : Shape) (view : View) (cell : ℕ) → view ≡ empty_view → cell < length shape.parents → CanLock shape view cell
empty_can_lock shape view cell e l = subst (λ (v : View). CanLock shape v cell) (sym e) (record {
  is_cell = l;
  room = record {
    few = omega arith;
    complete = λ chain c. absurd (Contains-nil chain c);
    apart = λ owned o. absurd (Contains-nil o.chain o.stands);
  };
  free = record { none_out = refl; none_runs = refl };
})

module _ (shape : Shape) (cell : ℕ) (before after : SeatView) (e : before.holds ≡ empty_view) where
  -- the cell that it got can be given back
  pub got_can_give : Tried shape cell before Got after → CanGive after.holds
  got_can_give got = subst CanGive (sym (got.holds ∙ ap (λ (v : View). with_cell shape v cell) e)) (record {
    some = λ none. absurd (let n : 1 ≡ 0 = ap length none in omega arith);
    none_out = refl;
    returned = tt;
  })

  -- and then it holds nothing again
  pub gave_empty : (end : SeatView) → Tried shape cell before Got after → Gave after end → end.holds ≡ empty_view
  gave_empty end got gave = gave.steps.holds ∙ ap without_newest got.holds ∙ e

  pub busy_empty : (at seen : ℕ) → Tried shape cell before (Busy at seen) after → after.holds ≡ empty_view
  busy_empty at seen busy = busy.0.holds ∙ e
