use Rattle.std.proofs.Common.{◌≡◌, [], replicate}
use Rattle.task_graph.proofs.leaves.no_spans.Given as goal

abbrev pub invariant-loop-leaf : goal.invariant-loop-leaf
invariant-loop-leaf l = l.above.items ≡ replicate l._leaf []
