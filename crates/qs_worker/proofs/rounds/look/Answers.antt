use Rattle.std.proofs.Common.{rules, ◌∙◌}
use Rattle.qs_worker.proofs.Turning.{has_looked}
use Rattle.qs_worker.proofs.rounds.look.Goals as goal

pub returns-clause-looked : goal.returns-clause-looked
returns-clause-looked g c =
    let n = c.new-trial.ensures in
    let l = c.look_with-found.ensures in
    let i = c.into_seat-lent.ensures in
    has_looked g.W.Work.shape c.args.table.now c.args.queues.now.queues c.args.own c.look_with-found.new.trial c.args.seat.now.view _ c.args.queue_seat.now.view c.look_with-found.new.queue_seat.view c.look_with-found.result i.tried
    (l.start.0 ∙ n.start.0) (search rules) (l.start.1 ∙ n.of.0) l.taken l.found
