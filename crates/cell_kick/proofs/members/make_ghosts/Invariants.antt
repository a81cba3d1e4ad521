use Rattle.cell_kick.specs.inner.Written.{ghosts_at}
use Rattle.cell_kick.proofs.Loops.{AreEachTo}
use Rattle.cell_kick.proofs.members.make_ghosts.Given as goal

abbrev pub invariant-loop-k : goal.invariant-loop-k
invariant-loop-k l = AreEachTo (ghosts_at l.sound l.due l.rhos) l.k l.fn.pulls l.pulls
