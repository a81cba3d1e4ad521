use Rattle.std.proofs.Common.{◌+◌, ◌%◌, ℕ, ap, inl, inr, arith}
use Rattle.qs_heap.specs.Entries.{entry_of}
use Rattle.qs_worker.specs.Offers.{is_in}
use Rattle.qs_worker.proofs.Offered.{one_refusal, took}
use Rattle.qs_worker.proofs.offers.offer.Goals as goal

pub loop-k-preserved : goal.loop-k-preserved
loop-k-preserved c =
    let v = c.loop-k.invariant in
    let same = c.queues-count.ensures.value in
    let test = c.loop-k-test.true in (
      c.push.ensures.seat,
      omega (arith, test, same),
      one_refusal c.args.queues.now.room c.args.queues.now.queues c.args.own (entry_of c.args.weight c.args.task) c.loop-k.k _ c.push.result c.args.seat.now.view c.loop-k.seat.view c.push.new.seat.view v.2
          (ap (λ (n : ℕ). (c.args.own + c.loop-k.k) % n) same) c.push.ensures.pushed (elim c.in-Held.is [ inl h ↦ ap is_in h.1 | inr h ↦ ap is_in h ]),
    )

pub returns-in-In-clause-offered : goal.returns-in-In-clause-offered
returns-in-In-clause-offered c =
    took c.args.queues.now.room c.args.queues.now.queues c.args.own (entry_of c.args.weight c.args.task) c.loop-k.k _ c.args.seat.now.view c.loop-k.seat.view c.push.new.seat.view c.loop-k.invariant.2
    (ap (λ (n : ℕ). (c.args.own + c.loop-k.k) % n) c.queues-count.ensures.value) c.in-In.ensures.pushed
