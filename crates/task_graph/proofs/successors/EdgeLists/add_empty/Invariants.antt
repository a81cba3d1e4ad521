use Rattle.std.proofs.Common.{[], replicate}
use Rattle.task_graph.specs.inner.Parts.{AddsLists}
use Rattle.task_graph.proofs.successors.EdgeLists.add_empty.Given as goal

abbrev pub invariant-loop-list : goal.invariant-loop-list
invariant-loop-list l = AddsLists l.initial.self.starts.items l.initial.self.ends.items l.self.starts.items l.self.ends.items (replicate l._list [])
