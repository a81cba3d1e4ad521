use Rattle.qs_run.proofs.FreeShape.{free_tasks_are}
use Rattle.qs_run.proofs.tests.free.FreeTasksWork.cells.Goals as goal

pub returns-clause-laws : goal.returns-clause-laws
returns-clause-laws c = free_tasks_are
