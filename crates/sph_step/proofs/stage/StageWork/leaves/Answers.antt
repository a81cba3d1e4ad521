use Rattle.std.proofs.Common.{arith}
use Rattle.sph_step.proofs.stage.StageWork.leaves.Goals as goal

pub overflow_cast-result : goal.overflow_cast-result
overflow_cast-result c = omega (arith, c.self.invariant.shape.few_leaves)
