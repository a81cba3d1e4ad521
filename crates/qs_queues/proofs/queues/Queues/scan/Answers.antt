use Rattle.std.proofs.Common.{◌≡◌, ◌∙◌, ap, subst}
use Rattle.qs_queues.specs.declared.view.QueueView.{QueueView}
use Rattle.qs_queues.specs.Calls.{Noted, SaysScan, SaysTries}
use Rattle.qs_queues.specs.Seats.{QueueTokenView}
use Rattle.qs_queues.proofs.Holding.{holds, still_right, still_seated}
use Rattle.qs_queues.proofs.Said.{scanned, tried}
use Rattle.qs_queues.proofs.queues.Queues.scan.Goals as goal

pub bring_home-requires-clause-right : goal.bring_home-requires-clause-right
bring_home-requires-clause-right g c =
    let taken = c.in-Ok.ensures.taken in
    still_right c.args.queue c.seat.inside.seat.me c.take.new.seat.me c.in-Ok.heap c.look-answer.new.heap taken (c.look-answer.ensures.right _ _ taken.right)

pub invariant_of-seat-2 : goal.invariant_of-seat-2
invariant_of-seat-2 g c =
    let h = holds c.args.queue c.seat.inside.seat.me c.take.new.seat.me c.bring_home.new.seat.me c.in-Ok.heap c.look-answer.new.heap c.in-Ok.ensures.taken c.seat.invariant.0 c.bring_home.ensures.made in
    (h.none_held, h.no_slot)

pub returns-clause-scanned : goal.returns-clause-scanned
returns-clause-scanned g c =
    let h = holds c.args.queue c.seat.inside.seat.me c.take.new.seat.me c.bring_home.new.seat.me c.in-Ok.heap c.look-answer.new.heap c.in-Ok.ensures.taken c.seat.invariant.0 c.bring_home.ensures.made in
    let view : c.seat.inside.seat.me.0 ≡ c.args.seat.now.view = ap (λ (s : QueueTokenView). s.view) c.seat.view_is in
    let trial = c.look-answer.new.trial in
    subst (λ (v : QueueView). Noted (SaysScan (g.T.Trial.refused trial) (g.T.Trial.taken trial) c.args.queue c.look-answer.result) v c.bring_home.new.seat.me.0) view
    (scanned (g.T.Trial.refused trial) (g.T.Trial.taken trial) c.args.queue c.look-answer.result c.seat.inside.seat.me c.bring_home.new.seat.me c.in-Ok.heap.entries c.look-answer.new.heap.entries h c.look-answer.ensures.looked)

pub returns-clause-tried : goal.returns-clause-tried
returns-clause-tried g c =
    let h = holds c.args.queue c.seat.inside.seat.me c.take.new.seat.me c.bring_home.new.seat.me c.in-Ok.heap c.look-answer.new.heap c.in-Ok.ensures.taken c.seat.invariant.0 c.bring_home.ensures.made in
    let view : c.seat.inside.seat.me.0 ≡ c.args.seat.now.view = ap (λ (s : QueueTokenView). s.view) c.seat.view_is in
    let trial = c.look-answer.new.trial in
    let e = c.look-answer.ensures in
    subst (λ (v : QueueView). Noted (SaysTries (g.T.Trial.refused trial) c.args.queue c.look-answer.result (g.T.Trial.tries c.args.trial.now) (g.T.Trial.tries trial)) v c.bring_home.new.seat.me.0) view
    (tried (g.T.Trial.refused trial) (g.T.Trial.taken trial) c.args.queue (g.T.Trial.tries c.args.trial.now) (g.T.Trial.tries trial) c.look-answer.result c.seat.inside.seat.me c.bring_home.new.seat.me c.in-Ok.heap.entries c.look-answer.new.heap.entries h e.looked e.tried)

pub returns-clause-seat : goal.returns-clause-seat
returns-clause-seat g c =
    let said = returns-clause-scanned g c in
    still_seated c.args.self.now c.args.seat.now _ _ said.further c.requires.seat (c.bring_home.ensures.same ∙ c.take.ensures.same ∙ ap (λ (s : QueueTokenView). s.id) c.seat.view_is) said.is
