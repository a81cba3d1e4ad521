use Rattle.std.proofs.Common.{ap, ◌∙◌}
use Rattle.qs_table.specs.Seats.{TokenView}
use Rattle.qs_table.specs.inner.Plays.{together}
use Rattle.qs_table.proofs.Sitting.{alone_as}
use Rattle.qs_table.proofs.table.ResTable.own_apart.Goals as goal

pub returns-clause-apart : goal.returns-clause-apart
returns-clause-apart g c =
    let plan = c.args.self.now.plan in
    let one = alone_as g.W.Work.shape _ _ _ plan c.args.first.view c.first.invariant (ap (λ (t : TokenView _). t.plan) c.first.view_is ∙ c.requires.first.plan_is) (ap (λ (t : TokenView _). t.view) c.first.view_is) in
    let two = alone_as g.W.Work.shape _ _ _ plan c.args.second.view c.second.invariant (ap (λ (t : TokenView _). t.plan) c.second.view_is ∙ c.requires.second.plan_is) (ap (λ (t : TokenView _). t.view) c.second.view_is) in
    c.meet.ensures.apart c.args.first.view c.args.second.view (ap (λ m. m.0) c.join.ensures.1 ∙ λ i. together (one i) (two i))
