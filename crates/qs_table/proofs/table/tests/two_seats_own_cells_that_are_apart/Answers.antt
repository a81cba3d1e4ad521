use Rattle.std.proofs.Common.{arith}
use Rattle.qs_table.proofs.EmptySeats.{empty_can_lock}
use Rattle.qs_table.proofs.table.tests.two_seats_own_cells_that_are_apart.Goals as goal

pub try_cell-requires-clause-can : goal.try_cell-requires-clause-can
try_cell-requires-clause-can g c = empty_can_lock _ _ _ c.in_ok-table.ensures.seats.0.empty (omega arith)

pub try_cell-requires-2-clause-can : goal.try_cell-requires-2-clause-can
try_cell-requires-2-clause-can g c = empty_can_lock _ _ _ c.in_ok-table.ensures.seats.1.empty (omega arith)
