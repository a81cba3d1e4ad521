use Rattle.std.proofs.Common.{sym, subst}
use Rattle.qs_table.specs.Seats.{IsSeatOf, TokenView}
use Rattle.qs_queues.specs.Seats as queue
use Rattle.qs_worker.proofs.Seated.{one_is_idle}
use Rattle.qs_worker.proofs.ThreeTasks.{shape_is}
use Rattle.qs_worker.proofs.tests.left_by.Goals as goal

pub close-requires-clause-each : goal.close-requires-clause-each
close-requires-clause-each c =
    one_is_idle c.args.table _ c.into_seats-seat.result.0 c.in_ok-seats.ensures.items
    (subst (λ (p : TokenView _ × queue.QueueTokenView). IsSeatOf c.args.table p.0) (sym c.into_seats-seat.ensures.seats) c.requires.seat) c.into_seats-seat.ensures.rests

pub returns : goal.returns
returns c = shape_is c.args.table.plan _ c.requires.plan c.close.ensures.shape
