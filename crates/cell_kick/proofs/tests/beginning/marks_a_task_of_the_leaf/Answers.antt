use Rattle.std.proofs.Common.{refl, arith}
use Rattle.cell_kick.proofs.tests.beginning.marks_a_task_of_the_leaf.Goals as goal

pub mark-requires : goal.mark-requires
mark-requires g c = rw (c.deref_mut.ensures.value, c.in_ok-block.ensures.tasks) (1, omega arith, refl)
