use Rattle.std.proofs.Common.{take}
use Rattle.cell_block.specs.inner.Beginning.{AreGiven}
use Rattle.cell_block.proofs.beginning.each.Given as goal

abbrev pub invariant-loop-i : goal.invariant-loop-i
invariant-loop-i g l = AreGiven (goal.F-post g l.of) (take l.i-index l.members) l.each.items
