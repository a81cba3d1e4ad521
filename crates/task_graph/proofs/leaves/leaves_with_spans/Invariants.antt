use Rattle.std.proofs.Common.{◌≡◌, filter}
use Rattle.std.specs.List.{range_with_len}
use Rattle.task_graph.specs.inner.LeafLists.{has_span}
use Rattle.task_graph.proofs.leaves.leaves_with_spans.Given as goal

abbrev pub invariant-loop-leaf : goal.invariant-loop-leaf
invariant-loop-leaf l = l.leaves.items ≡ filter (has_span l.above) (range_with_len 0 l.leaf)
