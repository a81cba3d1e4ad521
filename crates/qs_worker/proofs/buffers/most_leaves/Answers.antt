use Rattle.std.proofs.Common.{rules}
use Rattle.qs_worker.proofs.TaskRooms.{more_room}
use Rattle.qs_worker.proofs.buffers.most_leaves.Goals as goal

pub loop-task-preserved : goal.loop-task-preserved
loop-task-preserved g c = more_room _ _ _ _ _ _ _ _ _ _ c.ranges_of.ensures.ranges c.loop-task.invariant (search rules) (search rules) (search rules) (search rules)
