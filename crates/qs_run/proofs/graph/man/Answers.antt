use Rattle.std.proofs.Common.{arith}
use Rattle.qs_worker.proofs.Crews.{new_crew_is_on}
use Rattle.qs_run.proofs.graph.man.Goals as goal

pub returns-clause-on : goal.returns-clause-on
returns-clause-on g c =
    new_crew_is_on c.args.table.now c.in-Ok.queues (g.W.Work.shape (g.W.Work.plan c.args.work.now)) c.args.seats.items c.in-Ok.queue_seats.items c.in_ok-crew.crew c.in_ok-crew.ensures.made c.requires.seats
    c.in-Ok.ensures.seats.1 (omega (arith, c.in-Ok.ensures.queues.0, c.len-count.ensures, c.requires.few.1))
