use Rattle.std.proofs.Common.{◌∙◌, ◌<◌, ℕ, true, subst}
use Rattle.std.proofs.lemmas.List.Elements.{All-pop}
use Rattle.qs_heap.specs.Entries.{entry_of}
use Rattle.qs_worker.specs.Turns.{entry_in}
use Rattle.qs_worker.specs.inner.Pushing.{Offered}
use Rattle.qs_worker.proofs.Emptied.{one_left}
use Rattle.qs_worker.proofs.offers.push_ready.Goals as goal

pub loop-task-preserved : goal.loop-task-preserved
loop-task-preserved g c =
    let v = c.loop-task.invariant in
    let o = c.if-not-offer.ensures in
    let q = c.args.queues.now in (
      o.seat,
      (All-pop (λ (task : ℕ). task < q.tasks) c.loop-task.ready.items c.pop.new.self.items c.pop.result c.pop.ensures.items v.1).0,
      c.pop.ensures.capacity ∙ v.2,
      one_left q.room q.queues c.args.own (entry_in (g.W.Work.shape (g.W.Work.plan c.args.work.now))) c.args.ready.now.items c.loop-task.ready.items c.pop.new.self.items c.in-Some.task c.args.seat.now.view c.loop-task.seat.view
          c.offer.new.seat.view v.3 c.in-Some.ensures.items
          (subst (λ (n : ℕ). Offered q.room q.queues c.args.own (entry_of n c.in-Some.task) true c.loop-task.seat.view c.offer.new.seat.view) c.weight.ensures o.offered),
    )
