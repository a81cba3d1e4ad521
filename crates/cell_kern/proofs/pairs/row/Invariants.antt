use Rattle.std.proofs.Common.{◌≡◌, fold}
use Rattle.std.specs.List.{between}
use Rattle.cell_kern.specs.inner.Gathered.{IsPassed, list_of}
use Rattle.cell_kern.proofs.pairs.row.Given as goal

abbrev pub invariant-loop-j : goal.invariant-loop-j
invariant-loop-j g l = record {
  own : l.sum ≡ fold (g.P.Pairing.given l.one) l.initial.sum (between l.from l.j (list_of l.others));
  others : IsPassed (g.P.Pairing.given) l.one (list_of l.others) l.from l.j l.fn.sums l.sums;
}
