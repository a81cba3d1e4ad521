use Rattle.cell_kick.specs.inner.Written.{spots_at}
use Rattle.cell_kick.proofs.Loops.{AreEachTo}
use Rattle.cell_kick.proofs.members.place_members.Given as goal

abbrev pub invariant-loop-k : goal.invariant-loop-k
invariant-loop-k l = AreEachTo (spots_at l.scene l.members) l.k l.fn.spots l.spots
