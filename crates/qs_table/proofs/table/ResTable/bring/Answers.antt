use Rattle.std.proofs.Common.{◌≡◌, ◌∙◌, None, sym, ap, subst, arith}
use Rattle.atomic_table.specs.Table.{rest}
use Rattle.qs_core.specs.Core.{leaf_place}
use Rattle.qs_core.specs.Steps.{CanReturn}
use Rattle.qs_table.specs.Leaves.{IsBrought}
use Rattle.qs_table.specs.Seats.{TableView}
use Rattle.qs_table.specs.Views.{alone, knows_returned}
use Rattle.qs_table.specs.inner.Plays.{seat_in}
use Rattle.qs_table.proofs.LeafSteps.{return_allowed}
use Rattle.qs_table.proofs.Sitting.{knows_is, sits_after}
use Rattle.qs_table.proofs.table.ResTable.bring.Given.{Over}
use Rattle.qs_table.proofs.table.ResTable.bring.Goals.{After-swap}
use Rattle.qs_table.proofs.table.ResTable.bring.Goals as goal

pub exchange-empty-requires : goal.exchange-empty-requires
exchange-empty-requires g c = (c.requires.sits.same ∙ sym (ap (λ (t : TableView _). t.id) c.self.view_is), (None, c.requires.slot))

pub swap-requires : goal.swap-requires
swap-requires g c =
    let W = g.W.Work in
    let laid = c.self.invariant.0 in
    let v = seat_in c.args.seat.now.me.0 in
    let plan = ap (λ (t : TableView _). t.plan) c.self.view_is in
    let word = c.leaf_word-word.ensures ∙ ap (λ p. leaf_place (W.shape p) c.args.leaf) (sym plan) in
    let can = subst (λ p. CanReturn (W.shape p) v.holds c.args.leaf) (sym plan) c.requires.can in
    let brought = subst (λ p. IsBrought (W.fits p) W.done v c.args.leaf c.args.block) (sym plan) c.requires.brought in (
      c.exchange-empty.ensures.0 ∙ c.requires.sits.same ∙ sym (ap (λ (t : TableView _). t.id) c.self.view_is),
      (let many = laid.words_are in let within = can.is_leaf in omega (arith, many, within, word)),
      return_allowed W.shape W.fits W.done _ laid.laws _ _ _ _ c.args.leaf v _ (ap (λ m. m.0) c.exchange-empty.ensures.3 ∙ c.requires.sits.alone_is ∙ ap (λ p. alone p v) (sym plan)) word c.args.block (rest c.args.seat.now.me.1) c.requires.hand can brought
          (ap (λ m. m.1) c.exchange-empty.ensures.3),
    )

made : (g : Over) (c : After-swap g) → c.swap.new.seat.me ≡ (alone c.args.self.now.plan (knows_returned (g.W.Work.shape c.args.self.now.plan) (seat_in c.args.seat.now.me.0) c.args.leaf), rest c.args.seat.now.me.1)
made g c =
    c.swap.ensures.2 c.args.self.now.plan (seat_in c.args.seat.now.me.0) c.args.leaf (ap (λ m. m.0) c.exchange-empty.ensures.3 ∙ c.requires.sits.alone_is) c.leaf_word-word.ensures
    ∙ ap (λ m. (alone c.args.self.now.plan (knows_returned (g.W.Work.shape c.args.self.now.plan) (seat_in c.args.seat.now.me.0) c.args.leaf), rest m.1)) c.exchange-empty.ensures.3

pub returns-clause-sits : goal.returns-clause-sits
returns-clause-sits g c = sits_after _ _ _ _ _ c.requires.sits (c.swap.ensures.0 ∙ c.exchange-empty.ensures.0) (made g (goal.at.returns-clause-sits g c).After-swap)

pub returns-clause-knows : goal.returns-clause-knows
returns-clause-knows g c = knows_is _ _ _ _ (made g (goal.at.returns-clause-knows g c).After-swap)

pub returns-clause-slots : goal.returns-clause-slots
returns-clause-slots g c = ap (λ m. m.1) (made g (goal.at.returns-clause-slots g c).After-swap)
