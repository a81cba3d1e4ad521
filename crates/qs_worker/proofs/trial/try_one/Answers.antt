use Rattle.qs_worker.proofs.Trying.{busy_tried, can_claim, claimed_tried, got_is, idle_from_empty, is_lost, lost_chains, lost_none_out, lost_returned, lost_tried}
use Rattle.qs_worker.proofs.trial.try_one.Goals as goal

pub try_task-requires-clause-idle : goal.try_task-requires-clause-idle
try_task-requires-clause-idle g c = idle_from_empty _ c.requires.rests

pub returns-in-Busy-clause-tried : goal.returns-in-Busy-clause-tried
returns-in-Busy-clause-tried g c = busy_tried (g.W.Work.shape c.args.table.now.plan) c.args.task c.args.seat.now.view c.requires.rests c.in-Busy.cell c.in-Busy.seen c.try_task.new.seat.view c.in-Busy.ensures.tried

pub claim-requires-clause-can : goal.claim-requires-clause-can
claim-requires-clause-can g c =
    let tried = c.in-Got.ensures.tried in
    can_claim (g.W.Work.shape c.args.table.now.plan) c.args.task c.try_task.new.seat.view (got_is (g.W.Work.shape c.args.table.now.plan) c.args.task c.args.seat.now.view _ c.requires.rests tried.0) c.requires.task tried.1

pub returns-in-Claimed-clause-tried : goal.returns-in-Claimed-clause-tried
returns-in-Claimed-clause-tried g c =
    claimed_tried (g.W.Work.shape c.args.table.now.plan) c.args.task c.args.seat.now.view c.requires.rests c.try_task.new.seat.view c.in-Got.ensures.tried.0 c.claim.new.seat.view c.requires.task c.in-Claimed.ensures.answered c.in-Claimed.ensures.once

pub give_cells-requires-clause-cells : goal.give_cells-requires-clause-cells
give_cells-requires-clause-cells g c =
    lost_chains _ _ _ _ (is_lost (g.W.Work.shape c.args.table.now.plan) c.args.task _ c.try_task.new.seat.view c.claim.new.seat.view c.in-Waiting.is c.claim.ensures.answered)
    (got_is (g.W.Work.shape c.args.table.now.plan) c.args.task c.args.seat.now.view _ c.requires.rests c.in-Got.ensures.tried.0)

pub give_cells-requires-clause-none_out : goal.give_cells-requires-clause-none_out
give_cells-requires-clause-none_out g c =
    lost_none_out _ _ _ _ (is_lost (g.W.Work.shape c.args.table.now.plan) c.args.task _ c.try_task.new.seat.view c.claim.new.seat.view c.in-Waiting.is c.claim.ensures.answered)
    (got_is (g.W.Work.shape c.args.table.now.plan) c.args.task c.args.seat.now.view _ c.requires.rests c.in-Got.ensures.tried.0)

pub give_cells-requires-clause-returned : goal.give_cells-requires-clause-returned
give_cells-requires-clause-returned g c =
    lost_returned _ _ _ _ (is_lost (g.W.Work.shape c.args.table.now.plan) c.args.task _ c.try_task.new.seat.view c.claim.new.seat.view c.in-Waiting.is c.claim.ensures.answered)
    (got_is (g.W.Work.shape c.args.table.now.plan) c.args.task c.args.seat.now.view _ c.requires.rests c.in-Got.ensures.tried.0)

pub returns-in-Waiting-clause-tried : goal.returns-in-Waiting-clause-tried
returns-in-Waiting-clause-tried g c =
    let gave = c.give_cells.ensures in
    lost_tried (g.W.Work.shape c.args.table.now.plan) c.args.task c.args.seat.now.view c.requires.rests c.try_task.new.seat.view c.in-Got.ensures.tried.0 c.claim.new.seat.view c.give_cells.new.seat.view
    (is_lost (g.W.Work.shape c.args.table.now.plan) c.args.task _ c.try_task.new.seat.view c.claim.new.seat.view c.in-Waiting.is c.claim.ensures.answered) gave.place gave.holds gave.notes
