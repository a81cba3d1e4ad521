use Rattle.std.proofs.Common.{◌≡◌, ◌+◌, length, refl, ap, ◌∙◌, arith}
use Rattle.std.proofs.lemmas.List.{get_or_default, take_all}
use Rattle.lists.proofs.Ranges.{by_numbers}
use Rattle.task_weight.proofs.GreatestPaths.{after_below}
use Rattle.task_graph.specs.Graph.{edges_into}
use Rattle.task_graph.proofs.EdgeCounts.{edges_into-le}
use Rattle.task_graph.proofs.waits.waits_of.Goals as goal

pub count-requires-clause-within : goal.count-requires-clause-within
count-requires-clause-within c =
    let waits = c.loop-task.waits.items in
    let one_each = c.loop-task.invariant.one_each in
    rw (c.after.ensures, c.deref_mut.ensures.value) (after_below waits c.args.edges.now waits c.loop-task.task one_each c.requires.forward refl (omega arith))

pub count-requires-clause-room : goal.count-requires-clause-room
count-requires-clause-room c =
    let edges = c.args.edges.now in
    let waits = c.loop-task.waits.items in
    let one_each = c.loop-task.invariant.one_each in
    rw c.deref_mut.ensures.value (λ k d below.
    omega (arith, get_or_default waits k d 0 below, c.loop-task.invariant.counted k (omega arith), edges_into-le edges c.requires.rising c.loop-task.task k (omega arith), c.tasks-task-end.ensures, c.tasks-task-end.type_inv))

pub returns : goal.returns
returns c =
    let edges = c.args.edges.now in
    let waits = c.loop-task.waits.items in
    by_numbers (edges_into edges) 0 waits 0 (length edges) c.loop-task.invariant.one_each (λ k below.
    let here : k ≡ 0 + k = omega arith in
    c.loop-task.invariant.counted k below ∙ ap (λ lists. edges_into lists k) (take_all c.loop-task.task edges (omega arith)) ∙ ap (edges_into edges) here)
