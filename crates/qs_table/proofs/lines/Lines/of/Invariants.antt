use Rattle.std.proofs.Common.{◌≡◌, map}
use Rattle.std.specs.List.{range_with_len}
use Rattle.qs_core.specs.Shape.{ancestors}
use Rattle.qs_table.proofs.lines.Lines.of.Given as goal

abbrev pub invariant-loop-cell : goal.invariant-loop-cell
invariant-loop-cell g l = l.lines ≡ map (ancestors (g.W.Work.shape (g.W.Work.plan l.fn.work))) (range_with_len 0 l.cell)
