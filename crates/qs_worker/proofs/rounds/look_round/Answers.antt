use Rattle.std.proofs.Common.{◌<◌, ◌+◌, ◌∙◌, ◌%◌, ℕ, inl, inr, ap, subst, arith}
use Rattle.qs_queues.specs.declared.answers.Scan.{Scan}
use Rattle.qs_worker.proofs.Looked.{got, is_got, not_got, one_miss}
use Rattle.qs_worker.proofs.rounds.look_round.Goals as goal

pub loop-k-preserved : goal.loop-k-preserved
loop-k-preserved g c =
    let v = c.loop-k.invariant in
    let e = c.scan.ensures in
    let new = g.T.Trial.refused c.scan.new.trial in
    let same = c.queues-count.ensures.value in
    let test = c.loop-k-test.true in
    let other : is_got c.scan.result → ⊥ = (λ t. elim c.in-Held.is [ inl h ↦ subst (λ (s : Scan). is_got s) h.1 t | inr h ↦ elim h [ inl q ↦ subst (λ (s : Scan). is_got s) q t | inr q ↦ subst (λ (s : Scan). is_got s) q t ] ]) in
    let n = not_got new (g.T.Trial.taken c.scan.new.trial) _ c.scan.result c.loop-k.seat.view c.scan.new.seat.view other e.scanned in (
      e.seat,
      omega (arith, test, same),
      n.0,
      e.limit ∙ v.3,
      e.origin ∙ v.4,
      (λ t r. e.kept t (v.5 t r)),
      one_miss c.args.queues.now.queues c.args.own (g.T.Trial.refused c.loop-k.trial) new e.kept c.loop-k.k _ c.scan.result c.args.seat.now.view c.loop-k.seat.view c.scan.new.seat.view v.6
          (ap (λ (n : ℕ). (c.args.own + c.loop-k.k) % n) same) n.1,
    )

pub returns-in-Got-clause-found : goal.returns-in-Got-clause-found
returns-in-Got-clause-found g c =
    let e = c.in-Got.ensures in
    let t = c.scan.new.trial in
    let same = c.queues-count.ensures.value in
    let few : c.loop-k.k < c.args.queues.now.queues = (let l = c.loop-k-test.true in omega (arith, l, same)) in
    got c.args.queues.now.queues c.args.own (g.T.Trial.refused c.loop-k.trial) (g.T.Trial.refused t) (g.T.Trial.taken t) e.kept c.loop-k.k _ c.in-Got.task c.args.seat.now.view c.loop-k.seat.view c.scan.new.seat.view c.loop-k.invariant.6 few
    (ap (λ (n : ℕ). (c.args.own + c.loop-k.k) % n) same) e.scanned
