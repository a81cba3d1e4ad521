use Rattle.std.proofs.Common.{◌≡◌, ◌-◌, filter}
use Rattle.std.specs.List.{range_with_len}
use Rattle.task_graph.specs.inner.LeafLists.{counts_more}
use Rattle.task_graph.proofs.leaves.leaves_due.Given as goal

abbrev pub invariant-loop-leaf : goal.invariant-loop-leaf
invariant-loop-leaf l = l.leaves.items ≡ filter (counts_more l.due_before) (range_with_len 0 (l.leaf - 1))
