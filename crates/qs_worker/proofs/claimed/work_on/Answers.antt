use Rattle.std.proofs.Common.{◌≡◌, [], length, subst, ap, ◌∙◌, arith}
use Rattle.std.proofs.lemmas.List.FromFn.{length-range_with_len}
use Rattle.qs_core.specs.Shape.{task_at}
use Rattle.qs_core.specs.Steps.{unless_over}
use Rattle.qs_core.specs.Blocks.{AreApplied, first_leaves, second_leaves}
use Rattle.qs_worker.specs.inner.Leaves.{CanPut}
use Rattle.qs_core.specs.Ranges.{AreLeafRanges}
use Rattle.qs_worker.proofs.Working as work
use Rattle.qs_worker.proofs.claimed.work_on.Given.{Over}
use Rattle.qs_worker.proofs.claimed.work_on.Goals.{After-apply_to, After-put_leaves, After-ranges_of}
use Rattle.qs_worker.proofs.claimed.work_on.Goals as goal

ranges : (g : Over) (c : After-ranges_of g) → AreLeafRanges (g.W.Work.shape c.args.table.now.plan) c.args.task c.ranges_of.result.0.from c.ranges_of.result.0.to c.ranges_of.result.1.from c.ranges_of.result.1.to
ranges g c = subst (λ p. AreLeafRanges (g.W.Work.shape p) c.args.task c.ranges_of.result.0.from c.ranges_of.result.0.to c.ranges_of.result.1.from c.ranges_of.result.1.to) c.requires.work c.ranges_of.ensures.ranges

firsts : (g : Over) (c : After-apply_to g) → AreApplied (g.W.Work.shape c.args.table.now.plan) c.args.task (g.W.Work.fits c.args.table.now.plan) g.W.Work.done (first_leaves (g.W.Work.shape c.args.table.now.plan) c.args.task) c.fetch_leaves.new.blocks.items c.apply_to.new.buffers.first.items
firsts g c = work.added_for g.W.Work.shape g.W.Work.fits g.W.Work.done _ _ c.args.task first_leaves _ _ c.requires.work c.apply_to.ensures.first

seconds : (g : Over) (c : After-apply_to g) → AreApplied (g.W.Work.shape c.args.table.now.plan) c.args.task (g.W.Work.fits c.args.table.now.plan) g.W.Work.done (second_leaves (g.W.Work.shape c.args.table.now.plan) c.args.task) c.fetch_leaves-2.new.blocks.items c.apply_to.new.buffers.second.items
seconds g c = work.added_for g.W.Work.shape g.W.Work.fits g.W.Work.done _ _ c.args.task second_leaves _ _ c.requires.work c.apply_to.ensures.second

pub fetch_leaves-requires-clause-can : goal.fetch_leaves-requires-clause-can
fetch_leaves-requires-clause-can g c = work.can_first _ _ _ _ _ _ (ranges g (goal.at.fetch_leaves-requires-clause-can g c).After-ranges_of) c.args.seat.now.view c.requires.runs

pub fetch_leaves-requires-clause-room : goal.fetch_leaves-requires-clause-room
fetch_leaves-requires-clause-room g c =
    let are = ranges g (goal.at.fetch_leaves-requires-clause-room g c).After-ranges_of in
    let long = ap length are.leaves ∙ length-range_with_len _ _ in
    let fit = c.requires.room.firsts_fit c.args.task c.requires.task in
    omega (arith, long, fit)

pub fetch_leaves-requires-2-clause-can : goal.fetch_leaves-requires-2-clause-can
fetch_leaves-requires-2-clause-can g c =
    work.can_second _ _ _ _ _ _ (ranges g (goal.at.fetch_leaves-requires-2-clause-can g c).After-ranges_of) c.args.seat.now.view c.requires.runs (g.W.Work.fits c.args.table.now.plan) g.W.Work.done _ _ c.fetch_leaves.ensures.fetched
    c.fetch_leaves.ensures.all

pub fetch_leaves-requires-2-clause-room : goal.fetch_leaves-requires-2-clause-room
fetch_leaves-requires-2-clause-room g c =
    let are = ranges g (goal.at.fetch_leaves-requires-2-clause-room g c).After-ranges_of in
    let long = ap length are.leaves' ∙ length-range_with_len _ _ in
    let fit = c.requires.room.seconds_fit c.args.task c.requires.task in
    omega (arith, long, fit)

pub apply_to-requires-clause-first : goal.apply_to-requires-clause-first
apply_to-requires-clause-first g c =
    let are = ranges g (goal.at.apply_to-requires-clause-first g c).After-ranges_of in
    work.ready_for g.W.Work.shape g.W.Work.fits g.W.Work.done _ _ c.args.task first_leaves _ c.requires.work (work.first_ready _ _ _ _ _ _ are c.args.seat.now.view c.requires.runs (g.W.Work.fits c.args.table.now.plan) g.W.Work.done _ _ c.fetch_leaves.ensures.fetched c.fetch_leaves.ensures.all _ _ c.fetch_leaves-2.ensures.fetched c.fetch_leaves-2.ensures.all)

pub apply_to-requires-clause-second : goal.apply_to-requires-clause-second
apply_to-requires-clause-second g c =
    let are = ranges g (goal.at.apply_to-requires-clause-second g c).After-ranges_of in
    work.ready_for g.W.Work.shape g.W.Work.fits g.W.Work.done _ _ c.args.task second_leaves _ c.requires.work (work.second_ready _ _ _ _ _ _ are c.args.seat.now.view c.requires.runs (g.W.Work.fits c.args.table.now.plan) g.W.Work.done _ _ c.fetch_leaves.ensures.fetched c.fetch_leaves.ensures.all _ _ c.fetch_leaves-2.ensures.fetched c.fetch_leaves-2.ensures.all)

can_put_second : (g : Over) (c : After-apply_to g) → AreLeafRanges (g.W.Work.shape c.args.table.now.plan) c.args.task c.ranges_of.result.0.from c.ranges_of.result.0.to c.ranges_of.result.1.from c.ranges_of.result.1.to
    → CanPut (g.W.Work.fits c.args.table.now.plan) g.W.Work.done c.args.task (first_leaves (g.W.Work.shape c.args.table.now.plan) c.args.task) (task_at (g.W.Work.shape c.args.table.now.plan) c.args.task).successors c.ranges_of.result.1.from c.fetch_leaves-2.new.seat.view c.apply_to.new.buffers.second.items
can_put_second g c are = work.can_put_second _ _ _ _ _ _ are c.args.seat.now.view c.requires.runs (g.W.Work.fits c.args.table.now.plan) g.W.Work.done _ _ c.fetch_leaves.ensures.fetched c.fetch_leaves.ensures.all _ _ c.fetch_leaves-2.ensures.fetched c.fetch_leaves-2.ensures.all _ _ (firsts g c) (seconds g c)

pub put_leaves-requires-clause-can : goal.put_leaves-requires-clause-can
put_leaves-requires-clause-can g c =
    let at = goal.at.put_leaves-requires-clause-can g c in
    (c.args.task, _, _, can_put_second g at.After-apply_to (ranges g at.After-ranges_of))

can_put_first : (g : Over) (c : After-put_leaves g) → AreLeafRanges (g.W.Work.shape c.args.table.now.plan) c.args.task c.ranges_of.result.0.from c.ranges_of.result.0.to c.ranges_of.result.1.from c.ranges_of.result.1.to
    → AreApplied (g.W.Work.shape c.args.table.now.plan) c.args.task (g.W.Work.fits c.args.table.now.plan) g.W.Work.done (first_leaves (g.W.Work.shape c.args.table.now.plan) c.args.task) c.fetch_leaves.new.blocks.items c.apply_to.new.buffers.first.items
    → AreApplied (g.W.Work.shape c.args.table.now.plan) c.args.task (g.W.Work.fits c.args.table.now.plan) g.W.Work.done (second_leaves (g.W.Work.shape c.args.table.now.plan) c.args.task) c.fetch_leaves-2.new.blocks.items c.apply_to.new.buffers.second.items
    → c.put_leaves.new.seat.view.holds.running ≡ unless_over c.args.task (first_leaves (g.W.Work.shape c.args.table.now.plan) c.args.task) (task_at (g.W.Work.shape c.args.table.now.plan) c.args.task).successors
    → CanPut (g.W.Work.fits c.args.table.now.plan) g.W.Work.done c.args.task [] (task_at (g.W.Work.shape c.args.table.now.plan) c.args.task).successors c.ranges_of.result.0.from c.put_leaves.new.seat.view c.apply_to.new.buffers.first.items
can_put_first g c are added added' left = work.can_put_first _ _ _ _ _ _ are c.args.seat.now.view c.requires.runs (g.W.Work.fits c.args.table.now.plan) g.W.Work.done _ _ c.fetch_leaves.ensures.fetched c.fetch_leaves.ensures.all _ _ c.fetch_leaves-2.ensures.fetched c.fetch_leaves-2.ensures.all _ _ added added' _ c.put_leaves.ensures.put left

pub put_leaves-requires-2-clause-can : goal.put_leaves-requires-2-clause-can
put_leaves-requires-2-clause-can g c =
    let at = goal.at.put_leaves-requires-2-clause-can g c in
    let are = ranges g at.After-ranges_of in
    let left = c.put_leaves.ensures.runs c.args.task _ _ (can_put_second g at.After-apply_to are) in
    (c.args.task, _, _, can_put_first g at.After-put_leaves are (firsts g at.After-apply_to) (seconds g at.After-apply_to) left)

pub returns-clause-holds : goal.returns-clause-holds
returns-clause-holds g c =
    let at = goal.at.returns-clause-holds g c in
    let are = ranges g at.After-ranges_of in
    let added = firsts g at.After-apply_to in
    let added' = seconds g at.After-apply_to in
    let left = c.put_leaves.ensures.runs c.args.task _ _ (can_put_second g at.After-apply_to are) in
    let over = c.put_leaves-2.ensures.runs c.args.task _ _ (can_put_first g at.After-put_leaves are added added' left) in
    work.over_now _ _ _ _ _ _ are c.args.seat.now.view c.requires.runs (g.W.Work.fits c.args.table.now.plan) g.W.Work.done _ _ c.fetch_leaves.ensures.fetched c.fetch_leaves.ensures.all _ _ c.fetch_leaves-2.ensures.fetched c.fetch_leaves-2.ensures.all _ _ added added' _ c.put_leaves.ensures.put left _ c.put_leaves-2.ensures.put over

pub returns-clause-notes : goal.returns-clause-notes
returns-clause-notes g c = work.quiet _ _ _ _ _ c.fetch_leaves.ensures.fetched.cells c.fetch_leaves-2.ensures.fetched.cells c.put_leaves.ensures.put.cells c.put_leaves-2.ensures.put.cells
