use Rattle.std.proofs.Common.{[], take}
use Rattle.cell_kern.specs.inner.Gathered.{list_of}
use Rattle.cell_kern.proofs.Gathers.{AreGiven}
use Rattle.cell_kern.proofs.pairs.between.Given as goal

abbrev pub invariant-loop-i : goal.invariant-loop-i
invariant-loop-i g l = record {
  first : AreGiven g.P.Pairing.given (list_of l.first) (list_of l.second) [] l.i l.fn.first_sums l.first_sums;
  second : AreGiven g.P.Pairing.given (list_of l.second) (list_of l.first) (take l.i (list_of l.first)) 0 l.fn.second_sums l.second_sums;
}
