use Rattle.std.proofs.Common.{◌≡◌, ◌∙◌, ap, sym, get_or, List}
use Rattle.lists.proofs.Ranges.{filter_range_no, filter_range_yes}
use Rattle.sph_num.specs.declared.kind.Kind.TheVariants.{Drift}
use Rattle.std.specs.Prelude.{None}
use Rattle.cell_block.specs.declared.scene.TaskLine.{TaskLine}
use Rattle.cell_block.specs.Scene.{line_at, touches}
use Rattle.cell_block.proofs.beginning.tasks_at.Goals as goal
use Rattle.cell_block.proofs.beginning.tasks_at.Goals.{then-touches+in_ok-push, else-touches}

pub loop-task-preserved : goal.loop-task-preserved
loop-task-preserved c =
    let scene = c.args.scene.now in
    let leaf = c.args.leaf in
    let task = c.loop-task.task in
    let line = λ (lines : List TaskLine). get_or lines task (record { kind = Drift; first = (0, 0); second = None }) in
    let tells : c.touches.result ≡ touches (line_at scene task) leaf = c.touches.ensures ∙ ap (λ lines. touches (line lines) leaf) c.as_slice-line-items.ensures in
    elim c.if-touches.branch [
      | then-touches+in_ok-push w ↦
          rw (filter_range_yes (λ t. touches (line_at scene t) leaf) task (sym tells ∙ w.if-touches.true), ← c.loop-task.invariant)
          (rw w.tasks-is w.in_ok-push.ensures.items)
      | else-touches w ↦
          rw (filter_range_no (λ t. touches (line_at scene t) leaf) task (sym tells ∙ w.if-touches.false))
          (rw w.tasks-is c.loop-task.invariant)
    ]
