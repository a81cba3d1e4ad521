use Rattle.std.proofs.Common.{◌≡◌, ◌∙◌, false, refl, ap, sym, get_or, length, arith}
use Rattle.std.proofs.lemmas.List.{with_items_is}
use Rattle.cell_block.specs.declared.rows.Mark.{Mark}
use Rattle.cell_block.proofs.DoneMarks.{all_marked, left_here, mark_step, set_here, with_done-more}
use Rattle.cell_block.proofs.rows.BlockRows.mark.Goals as goal
use Rattle.cell_block.proofs.rows.BlockRows.mark.Goals.{then-mark-task, else-mark-task}

pub loop-mark-preserved : goal.loop-mark-preserved
loop-mark-preserved c =
    let marks = c.deref_mut-mark-items.result.now in
    let items = c.loop-mark.mark-items in
    let i = c.loop-mark.mark-index in
    let d : Mark = record { task = 0; done = false } in
    elim c.if-mark-task.branch [
      | then-mark-task w ↦
          w.mark-items-is ∙ mark_step marks items i c.args.task d _ c.loop-mark-test.true c.loop-mark.invariant c.loop-mark.auto.mark-items (sym (set_here c.args.task (get_or items i d) w.if-mark-task.true))
      | else-mark-task w ↦
          w.mark-items-is ∙ mark_step marks items i c.args.task d _ c.loop-mark-test.true c.loop-mark.invariant c.loop-mark.auto.mark-items (sym (left_here c.args.task (get_or items i d) w.if-mark-task.false))
    ]

pub returns : goal.returns
returns c =
    let marks = c.args.self.now.marks in
    let items = c.loop-mark.mark-items in
    let old : c.deref_mut-mark-items.result.now ≡ marks.items = c.deref_mut-mark-items.ensures.value in
    let long : length items ≡ marks.len = c.loop-mark.auto.mark-items ∙ ap length old ∙ sym marks.ok.0 in
    let new = all_marked marks.items c.deref_mut-mark-items.result.now items _ c.loop-mark.mark-index c.args.task (with_items_is marks items long) old (omega (arith, c.loop-mark-test.false)) c.loop-mark.invariant in
    record { marks = new; unchanged = refl {a = c.args.self.now}; done = rw new (with_done-more marks.items c.args.task c.requires) }
