use Rattle.std.proofs.Common.{◌≡◌, ◌+◌, ℕ, All, length, sum_by}
use Rattle.qs_table.specs.declared.view.SeatView.{SeatView}
use Rattle.qs_table.specs.inner.Tokens.{HoldsNone}
use Rattle.qs_table.specs.Seats.{IsIdleSeat, views_of}
use Rattle.qs_table.proofs.table.ResTable.gather.Given as goal

abbrev pub invariant-loop-seat : goal.invariant-loop-seat
invariant-loop-seat g l =
    (l.whole.table_id ≡ l.fn.self.id)
    × ((f : SeatView → ℕ) → sum_by f l.whole.me.0.seats + sum_by f (views_of l.seats.items) ≡ sum_by f (views_of l.fn.seats.items))
    × All HoldsNone l.whole.me.0.seats
    × All (λ s. IsIdleSeat l.fn.self s) l.seats.items

abbrev pub decreases-loop-seat : goal.decreases-loop-seat
decreases-loop-seat g l = length l.seats.items
