use Rattle.std.proofs.Common.{All, subst}
use Rattle.qs_table.proofs.Gathered.{all_before, all_last, popped}
use Rattle.qs_queues.specs.Seats.{IsNewSeat}
use Rattle.qs_worker.proofs.tests.beside.queues_for_two.Goals as goal

pub returns-clause-seats : goal.returns-clause-seats
returns-clause-seats c =
    let queues = c.in_ok-queues.queues in
    let all = subst (All (IsNewSeat queues)) (popped _ _ _ _ c.pop.ensures.items c.unwrap-last.ensures) c.in_ok-queues.ensures.seats.1 in
    let others = subst (All (IsNewSeat queues)) (popped _ _ _ _ c.pop-2.ensures.items c.unwrap-first.ensures) (all_before (IsNewSeat queues) _ _ all) in
    ((all_last (IsNewSeat queues) _ _ others).of_queues, (all_last (IsNewSeat queues) _ _ all).of_queues)
