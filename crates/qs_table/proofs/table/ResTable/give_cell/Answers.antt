use Rattle.std.proofs.Common.{sym, ap, ◌∙◌, subst}
use Rattle.qs_table.specs.Seats.{CanGive, TokenView}
use Rattle.qs_table.proofs.Sitting.{same_plan, token_gave}
use Rattle.qs_table.proofs.table.ResTable.give_cell.Goals as goal

pub invariant_of-seat : goal.invariant_of-seat
invariant_of-seat g c =
    let plan = same_plan g.W.Work.shape _ _ _ c.args.self.now.plan c.seat.invariant (ap (λ (t : TokenView _). t.plan) c.seat.view_is ∙ c.requires.seat.plan_is) in
    token_gave g.W.Work.shape _ _ _ _ _ _ c.seat.invariant plan c.give.ensures.sits.alone_is c.give.ensures.slots
    (subst CanGive (sym (ap (λ (t : TokenView _). t.view.holds) c.seat.view_is)) c.requires.can) c.give.ensures.gave c.without_newest-seat-inside.ensures
