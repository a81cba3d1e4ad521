use Rattle.std.proofs.Common.{◌≡◌, filter}
use Rattle.std.specs.List.{range_with_len}
use Rattle.cell_block.specs.Scene.{line_at, touches}
use Rattle.cell_block.proofs.beginning.tasks_at.Given as goal

abbrev pub invariant-loop-task : goal.invariant-loop-task
invariant-loop-task l = l.tasks.items ≡ filter (λ task. touches (line_at l.scene task) l.leaf) (range_with_len 0 l.task)
