use Rattle.std.proofs.Common.{rules, ◌≡◌, ◌+◌, sym, subst, ap, ◌∙◌, refl, length, arith}
use Rattle.std.proofs.lemmas.List.{length_push}
use Rattle.qs_core.specs.Steps.{CanReturn}
use Rattle.qs_table.specs.Leaves.{IsBrought}
use Rattle.qs_table.specs.Views.{knows_returned}
use Rattle.qs_table.proofs.Gathered.{popped}
use Rattle.qs_worker.proofs.Putting.{brought, can_return, can_still_put, none_put, one_put}
use Rattle.qs_worker.proofs.leaves.put_leaves.Given.{Over}
use Rattle.qs_worker.proofs.leaves.put_leaves.Goals.{After-len}
use Rattle.qs_worker.proofs.leaves.put_leaves.Goals as goal

at : (g : Over) (c : After-len g) → c.len.result ≡ length c.pop.new.self.items
at g c = search rules

pub loop-block-init : goal.loop-block-init
loop-block-init g c = (c.requires.seat, none_put _ _ _ (omega arith), (λ task others successors can. can), omega arith, refl)

pub put_back-requires-clause-can : goal.put_back-requires-clause-can
put_back-requires-clause-can g c =
    let v = c.loop-block.invariant in
    let can = c.requires.can in
    let few = c.requires.few.0 in
    let less = v.3 in
    subst (λ n. CanReturn (g.W.Work.shape c.args.table.now.plan) c.loop-block.seat.view.holds (c.args.from + n)) (sym (at g (goal.at.put_back-requires-clause-can g c).After-len))
    (can_return (g.W.Work.shape c.args.table.now.plan) _ _ _ _ _ _ _ (popped _ _ _ _ c.pop.ensures.items c.in-Some.is) _ _ _ (v.2 can.0 can.1 can.2 can.3) (omega (arith, few, less)))

pub put_back-requires-clause-brought : goal.put_back-requires-clause-brought
put_back-requires-clause-brought g c =
    let v = c.loop-block.invariant in
    let can = c.requires.can in
    subst (λ n. IsBrought (g.W.Work.fits c.args.table.now.plan) g.W.Work.done c.loop-block.seat.view (c.args.from + n) c.in-Some.block) (sym (at g (goal.at.put_back-requires-clause-brought g c).After-len))
    (brought (g.W.Work.shape c.args.table.now.plan) _ _ _ _ _ _ _ (popped _ _ _ _ c.pop.ensures.items c.in-Some.is) _ _ _ (v.2 can.0 can.1 can.2 can.3))

pub loop-block-preserved : goal.loop-block-preserved
loop-block-preserved g c =
    let v = c.loop-block.invariant in
    let shape = g.W.Work.shape c.args.table.now.plan in
    let is = popped _ _ _ _ c.pop.ensures.items c.in-Some.is in
    let long = ap length is ∙ length_push _ _ in
    let less = v.3 in
    let back = c.put_back.ensures.view ∙ ap (λ n. knows_returned shape c.loop-block.seat.view (c.args.from + n)) (at g (goal.at.loop-block-preserved g c).After-len) in (
      c.put_back.ensures.seat,
      one_put shape (g.W.Work.fits c.args.table.now.plan) g.W.Work.done _ _ _ _ _ is _ _ _ (omega (arith, long, less)) v.1 back,
      (λ task others successors can. can_still_put shape _ _ _ _ _ _ _ is task others successors (v.2 task others successors can) _ back),
      omega (arith, long, less),
      c.pop.ensures.capacity ∙ v.4,
    )
