use Rattle.std.proofs.Common.{◌≡◌, ◌++◌, map, take}
use Rattle.task_graph.specs.Tasks.{span_task}
use Rattle.task_graph.proofs.task.push_span_tasks.Given as goal

abbrev pub invariant-loop-span : goal.invariant-loop-span
invariant-loop-span l = l.tasks.items ≡ l.fn.tasks.items ++ map (span_task l.kind) (take l.span-index l.spans)
