use Rattle.cell_kick.specs.inner.Written.{kick_at}
use Rattle.cell_kick.proofs.Loops.{AreEachTo}
use Rattle.cell_kick.proofs.members.kick_members.Given as goal

abbrev pub invariant-loop-k : goal.invariant-loop-k
invariant-loop-k l = AreEachTo (kick_at l.scene l.summed) l.k l.fn.moving l.moving
