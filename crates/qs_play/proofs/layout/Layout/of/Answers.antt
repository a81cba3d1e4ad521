use Rattle.qs_play.proofs.Copied.{listed_is}
use Rattle.qs_play.proofs.layout.Layout.of.Goals as goal

pub invariant_of-result : goal.invariant_of-result
invariant_of-result g c =
    listed_is (g.W.Work.shape (g.W.Work.plan c.args.work.now)) c.in_ok-parents_of.field-0.items c.in_ok-cell_ranges.field-0.items c.leaves.result c.in_ok-tasks_of.field-0.items
    c.in_ok-parents_of.ensures c.in_ok-cell_ranges.ensures c.leaves.ensures c.in_ok-tasks_of.ensures c.cells-cells.ensures.laws
