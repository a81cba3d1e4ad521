use Rattle.std.proofs.Common.{◌<◌, subst, sym, ◌∙◌}
use Rattle.qs_play.proofs.Copied.{copied_more}
use Rattle.qs_play.proofs.layout.cell_ranges.Goals as goal

pub loop-cell-preserved : goal.loop-cell-preserved
loop-cell-preserved g c =
    copied_more (0, 0) (g.W.Work.shape (g.W.Work.plan c.args.work.now)).ranges c.loop-cell.ranges.items c.push.new.self.items c.loop-cell.cell c.leaf_range.result
    (subst (λ n. c.loop-cell.cell < n) (c.cells-cell-end.ensures.value ∙ sym c.cells-cell-end.ensures.laws.one_range_each) c.loop-cell-test.true) c.leaf_range.ensures
    c.in_ok-push.ensures.items c.loop-cell.invariant
