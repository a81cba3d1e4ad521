use Rattle.qs_table.proofs.EmptySeats.{empty_can_lock, got_can_give}
use Rattle.qs_table.proofs.table.tests.tries.Goals as goal

pub try_cell-answer-requires-clause-can : goal.try_cell-answer-requires-clause-can
try_cell-answer-requires-clause-can c = empty_can_lock _ _ _ c.requires.seat.empty c.requires.cell

pub give_cell-requires-clause-can : goal.give_cell-requires-clause-can
give_cell-requires-clause-can c = got_can_give _ _ _ _ c.requires.seat.empty c.in-Got.ensures.tried
