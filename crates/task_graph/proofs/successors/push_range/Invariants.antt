use Rattle.std.proofs.Common.{◌≡◌, ◌-◌, ◌≤◌, ◌++◌, max}
use Rattle.std.specs.List.{range_with_len}
use Rattle.task_graph.proofs.successors.push_range.Given as goal

abbrev pub invariant-loop-number : goal.invariant-loop-number
invariant-loop-number l = record {
  most : l.number ≤ max l.from l.to;
  items : l.ends.items ≡ l.initial.ends.items ++ range_with_len l.from (l.number - l.from);
}
