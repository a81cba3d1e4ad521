use Rattle.std.proofs.Common.{◌≡◌, ◌∙◌, ◌<◌, ℕ, ap, subst, arith}
use Rattle.qs_heap.specs.Entries.{entry_of}
use Rattle.qs_queues.specs.declared.view.QueueView.{QueueView}
use Rattle.qs_queues.specs.Calls.{Noted, SaysPush}
use Rattle.qs_queues.specs.Seats.{QueueTokenView}
use Rattle.qs_queues.proofs.Holding.{holds, still_right, still_seated}
use Rattle.qs_queues.proofs.Said.{pushed}
use Rattle.qs_queues.proofs.queues.Queues.push.Goals as goal

pub bring_home-requires-clause-right : goal.bring_home-requires-clause-right
bring_home-requires-clause-right c =
    let taken = c.in-Ok.ensures.taken in
    let view : c.seat.inside.seat.me.0 ≡ c.args.seat.now.view = ap (λ (s : QueueTokenView). s.view) c.seat.view_is in
    let below : c.args.task < c.seat.inside.seat.me.0.tasks = omega (arith, ap (λ (v : QueueView). v.tasks) view, c.requires.seat.tasks_are, c.requires.task) in
    still_right c.args.queue c.seat.inside.seat.me c.take.new.seat.me c.in-Ok.heap c.put-answer.new.heap taken (c.put-answer.ensures.right _ _ below taken.right)

pub invariant_of-seat-2 : goal.invariant_of-seat-2
invariant_of-seat-2 c =
    let h = holds c.args.queue c.seat.inside.seat.me c.take.new.seat.me c.bring_home.new.seat.me c.in-Ok.heap c.put-answer.new.heap c.in-Ok.ensures.taken c.seat.invariant.0 c.bring_home.ensures.made in
    (h.none_held, h.no_slot)

pub returns-clause-pushed : goal.returns-clause-pushed
returns-clause-pushed c =
    let entry = entry_of c.args.weight c.args.task in
    let taken = c.in-Ok.ensures.taken in
    let h = holds c.args.queue c.seat.inside.seat.me c.take.new.seat.me c.bring_home.new.seat.me c.in-Ok.heap c.put-answer.new.heap taken c.seat.invariant.0 c.bring_home.ensures.made in
    let view : c.seat.inside.seat.me.0 ≡ c.args.seat.now.view = ap (λ (s : QueueTokenView). s.view) c.seat.view_is in
    let room : c.in-Ok.heap.room ≡ c.args.self.now.room = taken.right.room_is ∙ ap (λ (v : QueueView). v.room) view ∙ c.requires.seat.room_is in
    subst (λ (v : QueueView). Noted (SaysPush c.args.self.now.room c.args.queue entry c.put-answer.result) v c.bring_home.new.seat.me.0) view
    (subst (λ (n : ℕ). Noted (SaysPush n c.args.queue entry c.put-answer.result) c.seat.inside.seat.me.0 c.bring_home.new.seat.me.0) room
    (pushed c.in-Ok.heap.room c.args.queue entry c.put-answer.result c.seat.inside.seat.me c.bring_home.new.seat.me c.in-Ok.heap.entries c.put-answer.new.heap.entries h c.put-answer.ensures.put))

pub returns-clause-seat : goal.returns-clause-seat
returns-clause-seat c =
    let said = returns-clause-pushed c in
    still_seated c.args.self.now c.args.seat.now _ _ said.further c.requires.seat (c.bring_home.ensures.same ∙ c.take.ensures.same ∙ ap (λ (s : QueueTokenView). s.id) c.seat.view_is) said.is
