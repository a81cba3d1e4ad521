use Rattle.std.proofs.Common.{rules, sym, ◌∙◌}
use Rattle.qs_worker.proofs.Sharing.{first_of, has_not, keeps_plan, none_shared, one_shared, waits_shared}
use Rattle.qs_worker.proofs.shares.share_out.Goals.{else-waits-eq0, then-waits-eq0}
use Rattle.qs_worker.proofs.shares.share_out.Goals as goal

pub loop-task-init : goal.loop-task-init
loop-task-init g c = none_shared _ _ c.requires.none

pub add_ready-requires-clause-first : goal.add_ready-requires-clause-first
add_ready-requires-clause-first g c = first_of g.W.Work.shape c.loop-task.task (g.W.Work.plan c.args.work.now) _ (keeps_plan _ c.loop-task.task c.args.workers.now c.loop-task.workers c.loop-task.invariant c.index-workers-place.result c.requires.some _ c.requires.plan) (record { is_task = search rules; no_edge = sym c.waits.ensures ∙ c.if-waits-eq0.true })

pub add_ready-requires-clause-new : goal.add_ready-requires-clause-new
add_ready-requires-clause-new g c = has_not _ c.loop-task.task c.args.workers.now c.loop-task.workers c.loop-task.invariant c.index-workers-place.result c.requires.some

pub loop-task-preserved : goal.loop-task-preserved
loop-task-preserved g c =
    elim c.if-waits-eq0.branch [
      | then-waits-eq0 w ↦
          one_shared _ c.loop-task.task c.args.workers.now c.loop-task.workers c.loop-task.invariant w.index-workers-place.result c.requires.some c.waits.result c.waits.ensures w.if-waits-eq0.true w.add_ready.new.self c.if-waits-eq0.workers w.add_ready.ensures w.workers-is
      | else-waits-eq0 w ↦
          rw w.workers-is (waits_shared _ c.loop-task.task c.args.workers.now c.loop-task.workers c.loop-task.invariant c.waits.result c.waits.ensures w.if-waits-eq0.false)
    ]
