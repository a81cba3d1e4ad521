use Rattle.std.proofs.Common.{length, ap, arith}
use Rattle.cell_kick.proofs.InOrder.{none_first}
use Rattle.cell_block.proofs.RowsHeld.{IsWhole-from_agrees}
use Rattle.cell_kick.proofs.Turns.{on_one_leaf}
use Rattle.cell_kick.proofs.tests.finished.Goals as goal

pub loop-task-init : goal.loop-task-init
loop-task-init c = none_first c.args.scene.now 0 c.in_ok-block.block c.in_ok-block.ensures.0 c.in_ok-block.ensures.1

pub do_task-requires-clause-line : goal.do_task-requires-clause-line
do_task-requires-clause-line c = rw c.as_slice-line-items.ensures (on_one_leaf c.args.scene.now c.loop-task.task c.requires.tasks (omega (arith, ap length c.as_slice-line-items.ensures)))

pub returns : goal.returns
returns c = IsWhole-from_agrees c.args.scene.now 0 c.loop-task.block c.loop-task.invariant.agrees
