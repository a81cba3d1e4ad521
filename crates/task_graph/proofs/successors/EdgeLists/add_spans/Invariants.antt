use Rattle.std.proofs.Common.{◌≡◌, ◌+◌, Bool, List, length, map, take}
use Rattle.cell_tree.specs.Due.{AreDueBefore}
use Rattle.task_graph.specs.inner.Joined.{dues_below}
use Rattle.task_graph.specs.inner.Parts.{AddsLists}
use Rattle.task_graph.proofs.successors.EdgeLists.add_spans.Given as goal

abbrev pub invariant-loop-span : goal.invariant-loop-span
invariant-loop-span l = record {
  count : length l.self.starts.items ≡ length l.initial.self.starts.items + l.span-index;
  lists : (due : List Bool) → AreDueBefore l.tree due l.due_before
      → AddsLists l.initial.self.starts.items l.initial.self.ends.items l.self.starts.items l.self.ends.items (map (dues_below l.tree due l.first) (take l.span-index l.spans));
}
