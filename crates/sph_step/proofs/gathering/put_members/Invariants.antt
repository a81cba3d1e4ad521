use Rattle.sph_step.specs.inner.Put.{ArePut}
use Rattle.sph_step.proofs.gathering.put_members.Given as goal

abbrev pub invariant-loop-k : goal.invariant-loop-k
invariant-loop-k l = ArePut l.block l.k l.fn.particles l.particles
