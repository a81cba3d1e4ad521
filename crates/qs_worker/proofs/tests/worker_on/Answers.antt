use Rattle.std.proofs.Common.{Some, ap, ◌∙◌}
use Rattle.qs_table.specs.declared.view.SeatView.{SeatView}
use Rattle.qs_worker.proofs.Seated.{one_is_on}
use Rattle.qs_worker.proofs.ThreeTasks.{may_start, starts_empty}
use Rattle.qs_worker.proofs.Trying.{idle_from_empty}
use Rattle.qs_worker.proofs.tests.worker_on.Goals as goal

pub make-requires-clause-plan : goal.make-requires-clause-plan
make-requires-clause-plan c = c.requires.seat.of_table.plan_is ∙ ap Some c.requires.plan

pub make-requires-clause-idle : goal.make-requires-clause-idle
make-requires-clause-idle c = idle_from_empty _ (ap (λ (v : SeatView). v.holds) c.requires.seat.fresh)

pub add_ready-requires-clause-first : goal.add_ready-requires-clause-first
add_ready-requires-clause-first c = may_start c.args.table.now c.args.seat c.args.queue_seat c.in-Ok.worker c.in-Ok.ensures.made c.requires.seat c.requires.plan

pub add_ready-requires-clause-new : goal.add_ready-requires-clause-new
add_ready-requires-clause-new c = starts_empty c.args.table.now c.args.seat c.args.queue_seat c.in-Ok.worker c.in-Ok.ensures.made

pub returns : goal.returns
returns c = one_is_on c.args.table.now c.args.queues.now c.args.seat c.args.queue_seat c.in-Ok.worker _ c.requires.seat c.requires.queue_seat c.requires.queues c.in-Ok.ensures.made c.add_ready.ensures
