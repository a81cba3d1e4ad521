use Rattle.qs_table.proofs.EmptySeats.{empty_can_lock, got_can_give}
use Rattle.qs_table.proofs.table.tests.while_held.Goals as goal

pub try_cell-first-requires-clause-can : goal.try_cell-first-requires-clause-can
try_cell-first-requires-clause-can c = empty_can_lock _ _ _ c.requires.seats.0.empty c.requires.cells.0

pub give_cell-requires-clause-can : goal.give_cell-requires-clause-can
give_cell-requires-clause-can c = got_can_give _ _ _ _ c.requires.seats.0.empty c.in-Got.ensures.tried
