-- The sum so far is that of the bodies that were taken, each of which adds less than 2^46.
use Rattle.std.proofs.Common.{◌≡◌, ◌*◌, ◌-◌, ◌^◌, ◌≤◌, take, sum_by}
use Rattle.sph_plain.specs.inner.Bodies.{density_from}
use Rattle.sph_plain.proofs.sums.density.Given as goal

abbrev pub invariant-loop-j : goal.invariant-loop-j
invariant-loop-j l = record {
  so_far : l.total ≡ sum_by (density_from l.i) (take l.j l.bodies);
  small : l.total ≤ l.j * (2 ^ 46 - 1);
}
