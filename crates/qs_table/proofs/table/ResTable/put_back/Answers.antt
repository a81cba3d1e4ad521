use Rattle.std.proofs.Common.{◌∙◌, Some, sym, ap, subst}
use Rattle.atomic_table.specs.Table.{rest}
use Rattle.qs_table.specs.declared.view.SeatView.{SeatView}
use Rattle.qs_table.specs.Leaves.{IsBrought}
use Rattle.qs_table.specs.Seats.{TokenView}
use Rattle.qs_table.specs.Views.{knows_returned}
use Rattle.qs_table.proofs.LeafSteps.{brought_at_hand}
use Rattle.qs_table.proofs.Sitting.{front_and_rest, same_plan, token_returned}
use Rattle.qs_table.proofs.table.ResTable.put_back.Goals as goal

pub bring-requires-clause-brought : goal.bring-requires-clause-brought
bring-requires-clause-brought g c =
    let was = subst (λ (t : TokenView _). IsBrought (g.W.Work.fits c.args.self.now.plan) g.W.Work.done t.view c.args.leaf c.args.block) (sym c.seat.view_is) c.requires.brought in
    subst (λ (v : SeatView). IsBrought (g.W.Work.fits c.args.self.now.plan) g.W.Work.done v c.args.leaf c.args.block) (sym c.take_up.ensures.knows) (brought_at_hand _ _ _ _ _ (Some c.args.leaf) was)

pub bring-requires-clause-slot : goal.bring-requires-clause-slot
bring-requires-clause-slot g c = front_and_rest _ _ _ _ c.take_up.ensures.slots

pub invariant_of-seat : goal.invariant_of-seat
invariant_of-seat g c =
    let plan = same_plan g.W.Work.shape _ _ _ c.args.self.now.plan c.seat.invariant (ap (λ (t : TokenView _). t.plan) c.seat.view_is ∙ c.requires.seat.plan_is) in
    token_returned g.W.Work.shape _ _ _ _ _ c.args.leaf c.seat.invariant plan c.bring.ensures.sits.alone_is (c.bring.ensures.slots ∙ ap rest c.take_up.ensures.slots ∙ c.seat.invariant.slots)
    (c.bring.ensures.knows ∙ ap (λ (v : SeatView). knows_returned (g.W.Work.shape c.args.self.now.plan) v c.args.leaf) c.take_up.ensures.knows)
