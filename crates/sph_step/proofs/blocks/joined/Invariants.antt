use Rattle.std.proofs.Common.{length}
use Rattle.sph_step.specs.inner.Fresh.{AreFreshIn, start_of}
use Rattle.sph_step.proofs.blocks.joined.Given as goal

abbrev pub invariant-loop-part : goal.invariant-loop-part
invariant-loop-part l = AreFreshIn l.scene 0 (start_of (length l.scene.leaves) (length l.fn.parts.items) (length l.yielded)) l.blocks.items
