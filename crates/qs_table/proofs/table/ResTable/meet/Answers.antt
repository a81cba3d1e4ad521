use Rattle.std.proofs.Common.{◌∙◌, sym, ap, arith}
use Rattle.qs_table.specs.Seats.{TableView}
use Rattle.qs_table.proofs.Dealt.{meet_allowed}
use Rattle.qs_table.proofs.table.ResTable.meet.Goals as goal

pub load-requires : goal.load-requires
load-requires g c =
    let laid = c.self.invariant.0 in
    let plan = ap (λ (t : TableView _). g.W.Work.shape t.plan) c.self.view_is in (
      c.requires.same ∙ sym (ap (λ (t : TableView _). t.id) c.self.view_is),
      (let many = laid.words_are in omega arith),
      meet_allowed _ _ _ _ _ _ c.args.self.now.plan c.requires.two.0 c.requires.two.1 _ g.W.Work.shape (sym plan) c.requires.two.2,
    )

pub returns-clause-apart : goal.returns-clause-apart
returns-clause-apart g c v w e = c.load.ensures.2.apart c.args.self.now.plan v w e

pub returns-clause-same : goal.returns-clause-same
returns-clause-same g c = (c.load.ensures.0 ∙ c.requires.same, c.load.ensures.2.same)
