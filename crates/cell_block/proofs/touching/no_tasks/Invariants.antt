use Rattle.std.proofs.Common.{◌≡◌, [], replicate}
use Rattle.cell_block.proofs.touching.no_tasks.Given as goal

abbrev pub invariant-loop-leaf : goal.invariant-loop-leaf
invariant-loop-leaf l = l.lists.items ≡ replicate l._leaf []
