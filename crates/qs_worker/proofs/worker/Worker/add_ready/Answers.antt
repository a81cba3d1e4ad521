use Rattle.std.proofs.Common.{Contains, sym, ap, ◌∙◌, subst, arith}
use Rattle.qs_worker.specs.Turns.{WorkerView}
use Rattle.qs_worker.proofs.Equipped.{with_ready}
use Rattle.qs_worker.proofs.Freed.{few_ready}
use Rattle.qs_worker.proofs.worker.Worker.add_ready.Goals as goal

pub push_reserved-requires : goal.push_reserved-requires
push_reserved-requires g c =
    let i = c.self.invariant in
    let first = c.requires.first i.plan (ap (λ (v : WorkerView _). v.lock_seat.plan) (sym c.self.view_is) ∙ i.plan_is) in
    let few = few_ready _ _ _ i.listed in
    let fit = i.tasks_fit in
    let some = first.is_task in
    omega (arith, few, fit, some)

pub invariant_of-self : goal.invariant_of-self
invariant_of-self g c =
    let i = c.self.invariant in
    let first = c.requires.first i.plan (ap (λ (v : WorkerView _). v.lock_seat.plan) (sym c.self.view_is) ∙ i.plan_is) in
    with_ready g.W.Work.shape _ _ _ _ _ _ _ i c.args.task first (subst (λ (v : WorkerView _). Contains v.ready c.args.task → ⊥) (sym c.self.view_is) c.requires.new) _ _ c.push_reserved.ensures.items c.push_reserved.ensures.capacity
