use Rattle.std.proofs.Common.{◌≡◌, ◌+◌, ◌++◌, map, take}
use Rattle.task_graph.proofs.successors.push_spans.Given as goal

abbrev pub invariant-loop-span : goal.invariant-loop-span
invariant-loop-span l = l.ends.items ≡ l.initial.ends.items ++ map (λ span. l.first + span) (take l.span-index l.spans)
