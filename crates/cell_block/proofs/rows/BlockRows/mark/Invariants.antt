use Rattle.std.proofs.Common.{◌≡◌, ◌++◌, drop, map, take}
use Rattle.cell_block.specs.Reading.{with_done}
use Rattle.cell_block.proofs.rows.BlockRows.mark.Given as goal

abbrev pub invariant-loop-mark : goal.invariant-loop-mark
invariant-loop-mark l = l.mark-items ≡ map (with_done l.task) (take l.mark-index l.initial.mark-items) ++ drop l.mark-index l.initial.mark-items
