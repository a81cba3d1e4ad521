use Rattle.std.proofs.Common.{◌≡◌, ◌≤◌, ◌^◌, map, take}
use Rattle.std.specs.List.{All}
use Rattle.task_graph.specs.Tasks.{cost_of}
use Rattle.task_graph.proofs.costs.costs_of.Given as goal

abbrev pub invariant-loop-task : goal.invariant-loop-task
invariant-loop-task l = record {
  are : l.costs.items ≡ map (cost_of l.tree) (take l.task-index l.tasks);
  small : All (λ cost. cost ≤ 2 ^ 30) l.costs.items;
}
