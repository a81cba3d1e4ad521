use Rattle.std.proofs.Common.{◌≡◌, ℕ, ◌+◌, ◌<◌, get_or, length, take, eqb, count_by}
use Rattle.task_graph.proofs.waits.count.Given as goal

abbrev pub invariant-loop-task : goal.invariant-loop-task
invariant-loop-task l = (k : ℕ) → k < length l.waits → get_or l.waits k 0 ≡ get_or l.fn.waits k 0 + count_by (λ task. eqb task k) (take l.task-index l.tasks)
