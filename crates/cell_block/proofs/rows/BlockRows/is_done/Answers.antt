use Rattle.cell_block.proofs.DoneMarks.{is_done-tells}
use Rattle.cell_block.proofs.rows.BlockRows.is_done.Goals as goal

pub returns : goal.returns
returns c = is_done-tells c.args.self.now.marks.items c.deref.result.now c.args.task c.is_marked.result c.deref.ensures.value c.is_marked.ensures
