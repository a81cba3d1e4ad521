use Rattle.std.proofs.Common.{◌<◌, None, subst}
use Rattle.qs_play.proofs.Copied.{copied_more}
use Rattle.qs_play.proofs.layout.parents_of.Goals as goal

pub loop-cell-preserved : goal.loop-cell-preserved
loop-cell-preserved g c =
    copied_more None (g.W.Work.shape (g.W.Work.plan c.args.work.now)).parents c.loop-cell.parents.items c.push.new.self.items c.loop-cell.cell c.parent.result
    (subst (λ n. c.loop-cell.cell < n) c.cells-cell-end.ensures.value c.loop-cell-test.true) c.parent.ensures c.in_ok-push.ensures.items c.loop-cell.invariant
