use Rattle.std.proofs.Common.{◌<◌, length, get_or, arith}
use Rattle.task_graph.proofs.EdgeCounts.{none_before}
use Rattle.task_graph.proofs.waits.count.Goals as goal

pub overflow_add-waits : goal.overflow_add-waits
overflow_add-waits c =
    let tasks = c.args.tasks.now in
    let i = c.loop-task.task-index in
    let below : i < length tasks = omega arith in
    let within = c.requires.within i 0 below in
    let same = c.loop-task.auto.waits in
    record { fits = omega (arith, c.loop-task.invariant (get_or tasks i 0) (omega arith), none_before tasks c.requires.rising i below, c.requires.room (get_or tasks i 0) 0 within) }
