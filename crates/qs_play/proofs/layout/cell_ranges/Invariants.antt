use Rattle.std.proofs.Common.{◌≡◌, take}
use Rattle.qs_play.proofs.layout.cell_ranges.Given as goal

abbrev pub invariant-loop-cell : goal.invariant-loop-cell
invariant-loop-cell g l = l.ranges.items ≡ take l.cell (g.W.Work.shape (g.W.Work.plan l.work)).ranges
