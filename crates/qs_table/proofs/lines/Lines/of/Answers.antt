use Rattle.qs_table.proofs.Upward.{lines_more, parent_listed}
use Rattle.qs_table.proofs.lines.Lines.of.Goals as goal

pub push-requires : goal.push-requires
push-requires g c = parent_listed _ c.cells-cell-end.ensures.laws c.loop-cell.cell _ _ c.parent.ensures c.loop-cell.invariant

pub loop-cell-preserved : goal.loop-cell-preserved
loop-cell-preserved g c = lines_more _ c.cells-cell-end.ensures.laws c.loop-cell.cell _ _ _ c.parent.ensures c.loop-cell.invariant c.in_ok-push.ensures
