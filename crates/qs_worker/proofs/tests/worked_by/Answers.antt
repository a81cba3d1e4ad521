use Rattle.std.proofs.Common.{sym, ◌∙◌}
use Rattle.qs_worker.proofs.Crews.{length-new_crew, new_crew_is_on}
use Rattle.qs_worker.proofs.Seated.{are_at_rest, are_planned, as_many_back, back_are_idle}
use Rattle.qs_worker.proofs.ThreeTasks.{shape_is, tasks_are, three}
use Rattle.qs_worker.proofs.tests.worked_by.Goals as goal

pub make-requires-clause-plan : goal.make-requires-clause-plan
make-requires-clause-plan g c = are_planned c.in_ok-table.table three _ (sym c.in_ok-table.ensures.table.0) c.in_ok-table.ensures.seats.1

pub make-requires-clause-rest : goal.make-requires-clause-rest
make-requires-clause-rest g c = are_at_rest c.in_ok-table.table _ c.in_ok-table.ensures.seats.1

pub work-requires-clause-workers : goal.work-requires-clause-workers
work-requires-clause-workers g c κs within =
    new_crew_is_on c.in_ok-table.table c.in_ok-queues.queues _ _ _ _ c.in-Ok.ensures.made c.in_ok-table.ensures.seats.1 c.in_ok-queues.ensures.seats.1 (c.in_ok-table.ensures.seats.0 ∙ sym c.in_ok-queues.ensures.queues.0)

pub work-requires-clause-tasks : goal.work-requires-clause-tasks
work-requires-clause-tasks g c κs within = tasks_are c.in_ok-table.table.plan c.in_ok-table.ensures.table.0 _ c.in_ok-queues.ensures.queues.2

pub close-requires-clause-each : goal.close-requires-clause-each
close-requires-clause-each g c = back_are_idle c.in_ok-table.table c.in_ok-queues.queues c.work.new.self _ c.work.ensures.workers c.into_seats.ensures.seats c.into_seats.ensures.rest

pub close-requires-clause-all : goal.close-requires-clause-all
close-requires-clause-all g c =
    as_many_back c.work.new.self _ c.into_seats.ensures.seats ∙ c.work.ensures.as_many ∙ length-new_crew _ _ _ _ c.in-Ok.ensures.made ∙ c.in_ok-table.ensures.seats.0 ∙ sym c.in_ok-table.ensures.table.1

pub returns : goal.returns
returns g c = shape_is c.in_ok-table.table.plan _ c.in_ok-table.ensures.table.0 c.close.ensures.shape
