use Rattle.std.proofs.Common.{sym}
use Rattle.qs_worker.proofs.Seated.{still_on}
use Rattle.qs_worker.proofs.ThreeTasks.{tasks_are}
use Rattle.qs_worker.proofs.tests.turned.Goals as goal

pub turn-requires-clause-work : goal.turn-requires-clause-work
turn-requires-clause-work c κs = sym c.requires.plan

pub turn-requires-clause-tasks : goal.turn-requires-clause-tasks
turn-requires-clause-tasks c κs = tasks_are c.args.table.now.plan c.requires.plan c.args.queues.now.tasks c.requires.tasks

pub returns : goal.returns
returns c = still_on c.args.table.now c.args.queues.now c.args.worker.now c.turn.new.self c.requires.on c.turn.ensures.turned.number c.turn.ensures.seat c.turn.ensures.queue_seat
