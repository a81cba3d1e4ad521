use Rattle.sph_step.specs.inner.Fresh.{AreFreshIn}
use Rattle.sph_step.proofs.blocks.some_blocks.Given as goal

abbrev pub invariant-loop-leaf : goal.invariant-loop-leaf
invariant-loop-leaf l = AreFreshIn l.scene l.from l.leaf l.blocks.items
