use Rattle.std.proofs.Common.{slice_index}
use Rattle.task_graph.specs.inner.LeafLists.{AddsWithin}
use Rattle.task_graph.proofs.leaves.add_below.Given as goal

abbrev pub invariant-loop-place : goal.invariant-loop-place
invariant-loop-place l = AddsWithin (slice_index l.before l.from) l.place l.number l.fn.above l.above
