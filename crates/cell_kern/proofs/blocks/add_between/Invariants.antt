use Rattle.std.proofs.Common.{[], take, flat_map}
use Rattle.cell_kern.specs.inner.Taking.{rows_in}
use Rattle.cell_kern.proofs.Range.{AreTaken}
use Rattle.cell_kern.proofs.blocks.add_between.Given as goal

abbrev pub invariant-loop-one : goal.invariant-loop-one
invariant-loop-one g l = record {
  first : AreTaken g.S.BlockSums.sums (flat_map rows_in l.fn.second) [] l.one-index l.fn.first l.first;
  second : AreTaken g.S.BlockSums.sums (flat_map rows_in l.fn.first) (flat_map rows_in (take l.one-index l.fn.first)) 0 l.fn.second l.second;
}
