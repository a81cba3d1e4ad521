use Rattle.qs_worker.proofs.Quiet.{quiet_cells, quiet_twice}
use Rattle.qs_worker.proofs.claimed.give_cells.Goals as goal

pub returns-then-is_some-clause-notes : goal.returns-then-is_some-clause-notes
returns-then-is_some-clause-notes g c = quiet_twice _ _ _ (quiet_cells _ _ c.give_cell.ensures.gave.steps.notes) (quiet_cells _ _ c.give_cell-then-is_some.ensures.gave.steps.notes)

pub returns-else-is_some-clause-notes : goal.returns-else-is_some-clause-notes
returns-else-is_some-clause-notes g c = quiet_cells _ _ c.give_cell.ensures.gave.steps.notes
