use Rattle.std.proofs.Common.{Some, ap, ◌∙◌}
use Rattle.qs_table.specs.declared.view.SeatView.{SeatView}
use Rattle.qs_worker.proofs.Seated.{made_is_on}
use Rattle.qs_worker.proofs.Trying.{idle_from_empty}
use Rattle.qs_worker.proofs.tests.beside.second_on.Goals as goal

pub make-requires-clause-plan : goal.make-requires-clause-plan
make-requires-clause-plan c = c.requires.seat.of_table.plan_is ∙ ap Some c.requires.plan

pub make-requires-clause-idle : goal.make-requires-clause-idle
make-requires-clause-idle c = idle_from_empty _ (ap (λ (v : SeatView). v.holds) c.requires.seat.fresh)

pub returns : goal.returns
returns c = made_is_on c.args.table.now c.args.queues.now 1 c.args.seat c.args.queue_seat c.in-Ok.worker c.requires.seat c.requires.queue_seat c.requires.queues c.in-Ok.ensures.made
