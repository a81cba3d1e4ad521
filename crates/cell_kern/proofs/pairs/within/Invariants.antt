use Rattle.std.proofs.Common.{take}
use Rattle.cell_kern.specs.inner.Gathered.{list_of}
use Rattle.cell_kern.proofs.Gathers.{AreGiven}
use Rattle.cell_kern.proofs.pairs.within.Given as goal

abbrev pub invariant-loop-i : goal.invariant-loop-i
invariant-loop-i g l = AreGiven g.P.Pairing.given (list_of l.members) (list_of l.members) (take l.i (list_of l.members)) l.i l.fn.sums l.sums
