use Rattle.std.proofs.Common.{◌≡◌, take}
use Rattle.sph_plain.specs.inner.Bodies.{force_on}
use Rattle.sph_plain.proofs.sums.force.Given as goal

abbrev pub invariant-loop-j : goal.invariant-loop-j
invariant-loop-j l = l.total ≡ force_on l.i (take l.j l.bodies)
