use Rattle.std.proofs.Common.{arith}
use Rattle.qs_table.proofs.EmptySeats.{empty_can_lock, empty_is_idle}
use Rattle.qs_table.proofs.table.tests.a_task_takes_both_its_cells_or_none.Goals as goal

pub try_cell-requires-clause-can : goal.try_cell-requires-clause-can
try_cell-requires-clause-can g c = empty_can_lock _ _ _ c.in_ok-table.ensures.seats.0.empty (omega arith)

pub try_task-requires-clause-seat : goal.try_task-requires-clause-seat
try_task-requires-clause-seat g c = c.in_ok-table.ensures.seats.1.of_table

pub try_task-requires-clause-idle : goal.try_task-requires-clause-idle
try_task-requires-clause-idle g c = (empty_is_idle _ _ c.in_ok-table.ensures.seats.1).idle

pub try_task-requires-2-clause-seat : goal.try_task-requires-2-clause-seat
try_task-requires-2-clause-seat g c = c.in_ok-fresh.ensures.seats.0.of_table

pub try_task-requires-2-clause-idle : goal.try_task-requires-2-clause-idle
try_task-requires-2-clause-idle g c = (empty_is_idle _ _ c.in_ok-fresh.ensures.seats.0).idle
