use Rattle.std.proofs.Common.{◌∙◌, Contains, None, sym, ap, subst}
use Rattle.atomic_table.specs.Table.{rest}
use Rattle.lists.proofs.Elements.{Contains-head}
use Rattle.qs_core.specs.Steps.{CanFetch}
use Rattle.qs_table.specs.declared.view.SeatView.{SeatView}
use Rattle.qs_table.specs.Seats.{TokenView}
use Rattle.qs_table.specs.Views.{with_hand}
use Rattle.qs_table.proofs.Sitting.{front_and_rest, same_plan, token_fetched}
use Rattle.qs_table.proofs.table.ResTable.fetch.Goals as goal

pub lay_down-requires-clause-hand : goal.lay_down-requires-clause-hand
lay_down-requires-clause-hand g c = ap (λ (v : SeatView). v.hand) c.take_out-block.ensures.knows

pub lay_down-requires-clause-out : goal.lay_down-requires-clause-out
lay_down-requires-clause-out g c = subst (λ (v : SeatView). Contains v.holds.out c.args.leaf) (sym c.take_out-block.ensures.knows) (Contains-head c.args.leaf _)

pub lay_down-requires-clause-slot : goal.lay_down-requires-clause-slot
lay_down-requires-clause-slot g c = front_and_rest _ _ _ _ c.take_out-block.ensures.slots

pub invariant_of-seat : goal.invariant_of-seat
invariant_of-seat g c =
    let plan = same_plan g.W.Work.shape _ _ _ c.args.self.now.plan c.seat.invariant (ap (λ (t : TokenView _). t.plan) c.seat.view_is ∙ c.requires.seat.plan_is) in
    let can = subst (λ (t : TokenView _). CanFetch (g.W.Work.shape c.args.self.now.plan) t.view.holds c.args.leaf) (sym c.seat.view_is) c.requires.can in
    token_fetched g.W.Work.shape _ _ _ _ _ c.args.leaf _ c.seat.invariant plan c.lay_down.ensures.sits.alone_is (c.lay_down.ensures.slots ∙ ap rest c.take_out-block.ensures.slots ∙ c.seat.invariant.slots) can
    (c.lay_down.ensures.knows ∙ ap (λ (v : SeatView). with_hand v None) c.take_out-block.ensures.knows)
