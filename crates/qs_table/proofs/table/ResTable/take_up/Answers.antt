use Rattle.std.proofs.Common.{◌∙◌, sym, ap, subst, arith}
use Rattle.qs_core.specs.Core.{leaf_place}
use Rattle.qs_core.specs.Steps.{CanReturn}
use Rattle.qs_table.specs.Seats.{TableView}
use Rattle.qs_table.specs.Views.{alone}
use Rattle.qs_table.specs.inner.Plays.{seat_in}
use Rattle.qs_table.proofs.LeafSteps.{take_up_allowed}
use Rattle.qs_table.proofs.Sitting.{knows_is, sits_after}
use Rattle.qs_table.proofs.table.ResTable.take_up.Goals as goal

pub load-requires : goal.load-requires
load-requires g c =
    let W = g.W.Work in
    let laid = c.self.invariant.0 in
    let plan = ap (λ (t : TableView _). t.plan) c.self.view_is in
    let word = c.leaf_word-word.ensures ∙ ap (λ p. leaf_place (W.shape p) c.args.leaf) (sym plan) in
    let can = subst (λ p. CanReturn (W.shape p) (seat_in c.args.seat.now.me.0).holds c.args.leaf) (sym plan) c.requires.can in (
      c.requires.sits.same ∙ sym (ap (λ (t : TableView _). t.id) c.self.view_is),
      (let many = laid.words_are in let within = can.is_leaf in omega (arith, many, within, word)),
      take_up_allowed W.shape W.fits W.done _ laid.laws _ _ _ _ c.args.leaf (seat_in c.args.seat.now.me.0) _ (c.requires.sits.alone_is ∙ ap (λ p. alone p (seat_in c.args.seat.now.me.0)) (sym plan)) word c.requires.hand can.out,
    )

pub returns-clause-sits : goal.returns-clause-sits
returns-clause-sits g c = sits_after _ _ _ _ _ c.requires.sits c.load.ensures.0 (c.load.ensures.2 _ _ c.args.leaf c.requires.sits.alone_is c.leaf_word-word.ensures)

pub returns-clause-knows : goal.returns-clause-knows
returns-clause-knows g c = knows_is _ _ _ _ (c.load.ensures.2 _ _ c.args.leaf c.requires.sits.alone_is c.leaf_word-word.ensures)

pub returns-clause-slots : goal.returns-clause-slots
returns-clause-slots g c = ap (λ m. m.1) (c.load.ensures.2 _ _ c.args.leaf c.requires.sits.alone_is c.leaf_word-word.ensures)
