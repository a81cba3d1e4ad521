use Rattle.std.proofs.Common.{◌≡◌, take}
use Rattle.std.specs.Prelude.{count_by}
use Rattle.sph_num.specs.Kinds.{same_kind}
use Rattle.task_graph.specs.declared.task.Task.{Task}
use Rattle.sph_report.proofs.tree.tasks_of_kind.Given as goal

abbrev pub invariant-loop-task : goal.invariant-loop-task
invariant-loop-task l = l.count ≡ count_by (λ (task : Task). same_kind l.kind task.kind) (take l.task l.graph.tasks)
