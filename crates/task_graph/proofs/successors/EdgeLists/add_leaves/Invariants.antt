use Rattle.std.proofs.Common.{◌≡◌, ◌+◌, length, map, take}
use Rattle.task_graph.specs.inner.Joined.{counted_from}
use Rattle.task_graph.specs.inner.Parts.{AddsLists}
use Rattle.task_graph.proofs.successors.EdgeLists.add_leaves.Given as goal

abbrev pub invariant-loop-spans : goal.invariant-loop-spans
invariant-loop-spans l = record {
  count : length l.self.starts.items ≡ length l.initial.self.starts.items + l.spans-index;
  lists : AddsLists l.initial.self.starts.items l.initial.self.ends.items l.self.starts.items l.self.ends.items (map (counted_from l.first) (take l.spans-index l.above));
}
