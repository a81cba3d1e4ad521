use Rattle.qs_run.proofs.TaskCut.{cut_in_order, cut_turned, touches_ranges}
use Rattle.qs_run.proofs.Turns.{done_by_parts, first_is_ready, second_is_ready, turned}
use Rattle.qs_run.proofs.ordered.do_task.Goals as goal

-- the first cell's leaves come before the second's
pub apply-requires-clause-first : goal.apply-requires-clause-first
apply-requires-clause-first g c =
    let are = c.ranges_of.ensures.ranges in
    let cut = cut_in_order _ _ _ _ _ _ _ _ _ are c.if-first-second.true c.split_at_mut-low.ensures.value c.split_at_mut-low.ensures.front_len c.requires.ready.one_each in
    first_is_ready _ _ _ _ _ _ _ _ _ _ _ _ cut are.leaves (touches_ranges _ _ _ _ _ _ are) c.requires.ready

pub apply-requires-clause-second : goal.apply-requires-clause-second
apply-requires-clause-second g c =
    let are = c.ranges_of.ensures.ranges in
    let cut = cut_in_order _ _ _ _ _ _ _ _ _ are c.if-first-second.true c.split_at_mut-low.ensures.value c.split_at_mut-low.ensures.front_len c.requires.ready.one_each in
    second_is_ready _ _ _ _ _ _ _ _ _ _ _ _ cut are.leaves' (touches_ranges _ _ _ _ _ _ are) c.requires.ready

pub returns-then-first-second : goal.returns-then-first-second
returns-then-first-second g c =
    let are = c.ranges_of.ensures.ranges in
    let cut = cut_in_order _ _ _ _ _ _ _ _ _ are c.if-first-second.true c.split_at_mut-low.ensures.value c.split_at_mut-low.ensures.front_len c.requires.ready.one_each in
    done_by_parts _ _ _ _ _ _ _ _ _ _ _ _ _ _ _ cut are.leaves are.leaves' (touches_ranges _ _ _ _ _ _ are) c.apply.ensures.first c.apply.ensures.second

-- they come behind them
pub apply-requires-else-first-second-clause-first : goal.apply-requires-else-first-second-clause-first
apply-requires-else-first-second-clause-first g c =
    let are = c.ranges_of.ensures.ranges in
    let split = c.split_at_mut-low-else-first-second.ensures in
    let cut = cut_turned _ _ _ _ _ _ _ _ _ are c.if-first-second.false split.value split.front_len c.requires.ready.one_each in
    second_is_ready _ _ _ _ _ _ _ _ _ _ _ _ cut are.leaves (turned _ _ _ _ _ _ (touches_ranges _ _ _ _ _ _ are)) c.requires.ready

pub apply-requires-else-first-second-clause-second : goal.apply-requires-else-first-second-clause-second
apply-requires-else-first-second-clause-second g c =
    let are = c.ranges_of.ensures.ranges in
    let split = c.split_at_mut-low-else-first-second.ensures in
    let cut = cut_turned _ _ _ _ _ _ _ _ _ are c.if-first-second.false split.value split.front_len c.requires.ready.one_each in
    first_is_ready _ _ _ _ _ _ _ _ _ _ _ _ cut are.leaves' (turned _ _ _ _ _ _ (touches_ranges _ _ _ _ _ _ are)) c.requires.ready

pub returns-else-first-second : goal.returns-else-first-second
returns-else-first-second g c =
    let are = c.ranges_of.ensures.ranges in
    let split = c.split_at_mut-low-else-first-second.ensures in
    let cut = cut_turned _ _ _ _ _ _ _ _ _ are c.if-first-second.false split.value split.front_len c.requires.ready.one_each in
    done_by_parts _ _ _ _ _ _ _ _ _ _ _ _ _ _ _ cut are.leaves' are.leaves (turned _ _ _ _ _ _ (touches_ranges _ _ _ _ _ _ are)) c.apply-else-first-second.ensures.second c.apply-else-first-second.ensures.first
