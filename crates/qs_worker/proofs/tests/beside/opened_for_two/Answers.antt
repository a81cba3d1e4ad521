use Rattle.std.proofs.Common.{All, subst}
use Rattle.qs_table.specs.Seats.{IsNewSeat}
use Rattle.qs_table.proofs.Gathered.{all_before, all_last, popped}
use Rattle.qs_worker.proofs.tests.beside.opened_for_two.Goals as goal

pub returns-clause-seats : goal.returns-clause-seats
returns-clause-seats c =
    let table = c.in_ok-table.table in
    let all = subst (All (IsNewSeat table)) (popped _ _ _ _ c.pop.ensures.items c.unwrap-last.ensures) c.in_ok-table.ensures.seats.1 in
    let others = subst (All (IsNewSeat table)) (popped _ _ _ _ c.pop-2.ensures.items c.unwrap-first.ensures) (all_before (IsNewSeat table) _ _ all) in
    (all_last (IsNewSeat table) _ _ others, all_last (IsNewSeat table) _ _ all)
