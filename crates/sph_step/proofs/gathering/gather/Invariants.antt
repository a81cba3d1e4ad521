use Rattle.sph_step.proofs.Gathered.{AreNext}
use Rattle.sph_step.proofs.gathering.gather.Given as goal

abbrev pub invariant-loop-leaf : goal.invariant-loop-leaf
invariant-loop-leaf l = AreNext l.stage.scene l.leaf l.particles
