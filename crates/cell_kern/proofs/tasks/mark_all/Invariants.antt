use Rattle.cell_kern.proofs.Marking.{AreMarkedTo}
use Rattle.cell_kern.proofs.tasks.mark_all.Given as goal

abbrev pub invariant-loop-block : goal.invariant-loop-block
invariant-loop-block l = AreMarkedTo l.task l.block-index l.fn.blocks l.blocks
