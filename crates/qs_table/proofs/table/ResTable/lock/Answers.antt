use Rattle.std.proofs.Common.{◌∙◌, length, refl, sym, ap, arith}
use Rattle.qs_core.specs.Shape.{Shape}
use Rattle.qs_table.specs.Seats.{TableView}
use Rattle.qs_table.proofs.Kept.{lock_allowed}
use Rattle.qs_table.proofs.Sitting.{knows_is, sits_after}
use Rattle.qs_table.proofs.table.ResTable.lock.Goals as goal

pub compare_exchange-requires : goal.compare_exchange-requires
compare_exchange-requires g c =
    let laid = c.self.invariant.0 in
    let id = ap (λ (t : TableView _). t.id) c.self.view_is in
    let plan = ap (λ (t : TableView _). g.W.Work.shape t.plan) c.self.view_is in (
      c.requires.sits.same ∙ sym id,
      (let many = laid.words_are in let cell = c.requires.can.is_cell in let same = ap (λ (s : Shape). length s.parents) plan in omega arith),
      lock_allowed _ _ _ laid.laws _ _ _ c.args.cell c.args.self.now.plan _ _ g.W.Work.shape (sym plan) c.requires.sits.alone_is c.requires.can,
    )

pub returns-clause-sits : goal.returns-clause-sits
returns-clause-sits g c = sits_after _ _ _ _ _ c.requires.sits c.compare_exchange.ensures.0 (c.compare_exchange.ensures.2 _ _ c.args.cell c.requires.sits.alone_is refl)

pub returns-clause-knows : goal.returns-clause-knows
returns-clause-knows g c = knows_is _ _ _ _ (c.compare_exchange.ensures.2 _ _ c.args.cell c.requires.sits.alone_is refl)

pub returns-clause-slots : goal.returns-clause-slots
returns-clause-slots g c = ap (λ m. m.1) (c.compare_exchange.ensures.2 _ _ c.args.cell c.requires.sits.alone_is refl)
