use Rattle.std.proofs.Common.{◌≡◌, ℕ, ◌<◌, get_or, length, take}
use Rattle.task_graph.specs.Graph.{edges_into}
use Rattle.task_graph.proofs.waits.waits_of.Given as goal

abbrev pub invariant-loop-task : goal.invariant-loop-task
invariant-loop-task l = record {
  one_each : length l.waits.items ≡ length l.edges;
  counted : (k : ℕ) → k < length l.edges → get_or l.waits.items k 0 ≡ edges_into (take l.task l.edges) k;
}
