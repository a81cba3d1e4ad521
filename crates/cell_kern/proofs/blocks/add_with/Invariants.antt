use Rattle.std.proofs.Common.{[], take, flat_map}
use Rattle.cell_kern.specs.inner.Taking.{IsGiven, rows_in}
use Rattle.cell_kern.proofs.Range.{AreTaken}
use Rattle.cell_kern.proofs.blocks.add_with.Given as goal

abbrev pub invariant-loop-i : goal.invariant-loop-i
invariant-loop-i g l = record {
  one : IsGiven g.S.BlockSums.sums l.fn.one (flat_map rows_in (take l.i l.fn.others)) l.one;
  others : AreTaken g.S.BlockSums.sums (rows_in l.fn.one) [] l.i l.fn.others l.others;
}
