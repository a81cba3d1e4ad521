use Rattle.std.proofs.Common.{ℕ, List}
use Rattle.task_graph.specs.inner.LeafLists.{AreCountsOf}
use Rattle.task_graph.proofs.SpanLists.{AreListsTo}
use Rattle.task_graph.proofs.leaves.spans_above_leaves.Given as goal

abbrev pub invariant-loop-number : goal.invariant-loop-number
invariant-loop-number l = (cells : List ℕ) → AreCountsOf l.tree cells l.before → AreListsTo l.tree cells l.spans l.number l.above.items
