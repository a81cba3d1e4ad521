use Rattle.std.proofs.Common.{◌+◌, sym, subst, arith}
use Rattle.std.proofs.lemmas.Bool.{iff_false}
use Rattle.qs_run.specs.inner.Steps.{CanDo}
use Rattle.qs_run.proofs.Progress.{HasPassed, can_do_next, passed_all, passed_done, passed_none, passed_over}
use Rattle.qs_run.proofs.ordered.finish_rest.Goals.{then-not-claimed, else-not-claimed}
use Rattle.qs_run.proofs.ordered.finish_rest.Goals as goal

pub loop-task-init : goal.loop-task-init
loop-task-init g c = passed_none _ _ _ _ c.requires.shape c.requires.claimed_done

pub do_task-requires-clause-ready : goal.do_task-requires-clause-ready
do_task-requires-clause-ready g c κs within =
    subst (CanDo _ c.loop-task.task _ _) (sym c.blocks_mut.ensures.value)
    (can_do_next _ _ _ _ _ _ c.loop-task.invariant c.cells-cells.ensures.laws (iff_false c.claimed.ensures c.if-not-claimed.true) (omega arith))

pub loop-task-preserved : goal.loop-task-preserved
loop-task-preserved g c = elim c.if-not-claimed.branch [
  | then-not-claimed w ↦
      subst (HasPassed _ _ _ c.args.closed.words (c.loop-task.task + 1)) (sym w.closed-is)
      (passed_done _ _ _ _ _ _ c.loop-task.invariant _ _ w.blocks_mut.ensures.value (omega arith) w.do_task.ensures)
  | else-not-claimed w ↦
      subst (HasPassed _ _ _ c.args.closed.words (c.loop-task.task + 1)) (sym w.closed-is) (passed_over _ _ _ _ _ _ c.loop-task.invariant (c.claimed.ensures.0 w.if-not-claimed.false))
]

pub returns : goal.returns
returns g c = record { all_done = passed_all _ _ _ _ c.loop-task.task _ _ (omega arith) c.into_blocks.ensures c.loop-task.invariant }
