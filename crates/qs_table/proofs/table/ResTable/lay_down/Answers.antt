use Rattle.std.proofs.Common.{◌<◌, ◌∙◌, sym, ap, subst, arith}
use Rattle.atomic_table.specs.Table.{rest}
use Rattle.qs_core.specs.Core.{leaf_place}
use Rattle.qs_table.specs.Seats.{TableView}
use Rattle.qs_table.specs.Views.{alone}
use Rattle.qs_table.specs.inner.Plays.{seat_in}
use Rattle.qs_table.proofs.LeafSteps.{lay_down_allowed}
use Rattle.qs_table.proofs.Sitting.{knows_is, sits_after}
use Rattle.qs_table.proofs.table.ResTable.lay_down.Goals as goal

pub load-requires : goal.load-requires
load-requires g c =
    let W = g.W.Work in
    let laid = c.self.invariant.0 in
    let plan = ap (λ (t : TableView _). t.plan) c.self.view_is in
    let word = c.leaf_word-word.ensures ∙ ap (λ p. leaf_place (W.shape p) c.args.leaf) (sym plan) in
    let within = subst (λ p. c.args.leaf < (W.shape p).leaves) (sym plan) c.requires.leaf in (
      c.requires.sits.same ∙ sym (ap (λ (t : TableView _). t.id) c.self.view_is),
      (let many = laid.words_are in omega (arith, many, within, word)),
      lay_down_allowed W.shape W.fits W.done _ laid.laws _ _ _ _ c.args.leaf (seat_in c.args.seat.now.me.0) _ (c.requires.sits.alone_is ∙ ap (λ p. alone p (seat_in c.args.seat.now.me.0)) (sym plan)) word (rest c.args.seat.now.me.1) c.requires.hand within
          c.requires.out c.requires.slot,
    )

pub returns-clause-sits : goal.returns-clause-sits
returns-clause-sits g c = sits_after _ _ _ _ _ c.requires.sits c.load.ensures.0 (c.load.ensures.2 _ _ c.requires.sits.alone_is)

pub returns-clause-knows : goal.returns-clause-knows
returns-clause-knows g c = knows_is _ _ _ _ (c.load.ensures.2 _ _ c.requires.sits.alone_is)

pub returns-clause-slots : goal.returns-clause-slots
returns-clause-slots g c = ap (λ m. m.1) (c.load.ensures.2 _ _ c.requires.sits.alone_is)
