use Rattle.std.proofs.Common.{◌+◌, ◌∙◌, ℕ, length, sym, ap, arith}
use Rattle.qs_core.specs.declared.event.Step.TheVariants.{Raise}
use Rattle.qs_core.specs.Shape.{Shape}
use Rattle.qs_table.specs.Seats.{TableView}
use Rattle.qs_table.proofs.Kept.{step_allowed}
use Rattle.qs_table.proofs.Sitting.{knows_is, sits_after}
use Rattle.qs_table.proofs.table.ResTable.raise.Goals as goal

pub fetch_add-requires : goal.fetch_add-requires
fetch_add-requires g c =
    let laid = c.self.invariant.0 in
    let id = ap (λ (t : TableView _). t.id) c.self.view_is in
    let plan = ap (λ (t : TableView _). g.W.Work.shape t.plan) c.self.view_is in (
      c.requires.sits.same ∙ sym id,
      (let many = laid.words_are in let within = c.requires.within in let same = ap (λ (s : Shape). length s.parents) plan in omega arith),
      step_allowed _ _ _ laid.laws _ _ _ _ 2 c.args.self.now.plan _ _ Raise g.W.Work.shape (sym plan) c.requires.sits.alone_is c.requires.can tt (ap (λ (n : ℕ). 1 + n) c.requires.object),
    )

pub returns-clause-sits : goal.returns-clause-sits
returns-clause-sits g c = sits_after _ _ _ _ _ c.requires.sits c.fetch_add.ensures.0 (c.fetch_add.ensures.2 _ _ c.requires.sits.alone_is)

pub returns-clause-knows : goal.returns-clause-knows
returns-clause-knows g c = knows_is _ _ _ _ (c.fetch_add.ensures.2 _ _ c.requires.sits.alone_is)

pub returns-clause-slots : goal.returns-clause-slots
returns-clause-slots g c = ap (λ m. m.1) (c.fetch_add.ensures.2 _ _ c.requires.sits.alone_is)
