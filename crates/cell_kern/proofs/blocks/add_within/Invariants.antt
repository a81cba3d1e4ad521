use Rattle.std.proofs.Common.{take, flat_map}
use Rattle.cell_kern.specs.inner.Taking.{rows_in}
use Rattle.cell_kern.proofs.Range.{AreTaken}
use Rattle.cell_kern.proofs.blocks.add_within.Given as goal

abbrev pub invariant-loop-i : goal.invariant-loop-i
invariant-loop-i g l = AreTaken g.S.BlockSums.sums (flat_map rows_in l.fn.blocks) (flat_map rows_in (take l.i l.fn.blocks)) l.i l.fn.blocks l.blocks
