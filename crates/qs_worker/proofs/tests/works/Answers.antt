use Rattle.std.proofs.Common.{sym}
use Rattle.qs_worker.proofs.Seated.{still_on}
use Rattle.qs_worker.proofs.ThreeTasks.{tasks_are}
use Rattle.qs_worker.proofs.tests.works.Goals as goal

pub work-requires-clause-work : goal.work-requires-clause-work
work-requires-clause-work c κs = sym c.requires.plan

pub work-requires-clause-tasks : goal.work-requires-clause-tasks
work-requires-clause-tasks c κs = tasks_are c.args.table.now.plan c.requires.plan c.args.queues.now.tasks c.requires.tasks

pub returns : goal.returns
returns c = still_on c.args.table.now c.args.queues.now c.args.worker.now c.work.new.self c.requires.on c.work.ensures.number c.work.ensures.seat c.work.ensures.queue_seat
