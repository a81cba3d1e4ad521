use Rattle.std.proofs.Common.{ap, arith}
use Rattle.qs_table.specs.declared.view.SeatView.{SeatView}
use Rattle.qs_table.proofs.EmptySeats.{empty_can_lock, got_can_give}
use Rattle.qs_worker.proofs.tests.beside.turned_beside.Goals as goal

pub try_cell-requires-clause-can : goal.try_cell-requires-clause-can
try_cell-requires-clause-can c = empty_can_lock _ _ _ (ap (λ (v : SeatView). v.holds) c.requires.other.fresh) (omega arith)

pub give_cell-requires-clause-can : goal.give_cell-requires-clause-can
give_cell-requires-clause-can c = got_can_give _ _ _ _ (ap (λ (v : SeatView). v.holds) c.requires.other.fresh) c.in-Got.ensures.tried
