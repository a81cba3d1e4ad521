use Rattle.std.proofs.Common.{◌∙◌, length, slice_index, ap, arith}
use Rattle.qs_table.proofs.Given.{busy_lock, busy_locks, busy_raise, one_lock, raising_more, raising_none, stopped_newest}
use Rattle.qs_table.proofs.table.ResTable.take.Goals as goal

pub returns-then-found-ne0-clause-tried : goal.returns-then-found-ne0-clause-tried
returns-then-found-ne0-clause-tried g c = busy_lock _ _ _ _ _ c.lock-found.ensures.knows c.if-found-ne0.true

pub returns-then-found-ne0-clause-one_lock : goal.returns-then-found-ne0-clause-one_lock
returns-then-found-ne0-clause-one_lock g c = one_lock (g.W.Work.shape c.args.self.now.plan) _ _ _ _ c.lock-found.ensures.knows

pub loop-k-init : goal.loop-k-init
loop-k-init g c = (
  c.lock-found.ensures.sits,
  raising_none (g.W.Work.shape c.args.self.now.plan) _ _ _ _ c.lock-found.ensures.knows c.if-found-ne0.false,
  omega arith,
  c.lock-found.ensures.slots,
)

pub raise-seen-requires-clause-within : goal.raise-seen-requires-clause-within
raise-seen-requires-clause-within g c = c.line-line.ensures.cells c.loop-k.k 0 c.loop-k-test.true

pub give-requires-clause-newest : goal.give-requires-clause-newest
give-requires-clause-newest g c = stopped_newest _ _ _ _ _ c.loop-k.invariant.1 _ _ c.raise-seen.ensures.knows

pub returns-then-seen-eq1-clause-tried : goal.returns-then-seen-eq1-clause-tried
returns-then-seen-eq1-clause-tried g c =
    let line = c.line-line.ensures.line in
    let within = c.loop-k-test.true in
    busy_raise _ _ _ _ _ c.loop-k.invariant.1 _ _ c.raise-seen.ensures.knows _ c.give.ensures.gave _ (ap (λ xs. slice_index xs c.loop-k.k) line) (let many = ap length line in omega arith) c.if-seen-eq1.true

pub returns-then-seen-eq1-clause-one_lock : goal.returns-then-seen-eq1-clause-one_lock
returns-then-seen-eq1-clause-one_lock g c = busy_locks (g.W.Work.shape c.args.self.now.plan) _ _ _ _ c.loop-k.invariant.1 _ _ c.raise-seen.ensures.knows _ c.give.ensures.gave

pub loop-k-preserved : goal.loop-k-preserved
loop-k-preserved g c = (
  c.raise-seen.ensures.sits,
  raising_more (g.W.Work.shape c.args.self.now.plan) _ _ _ _ c.loop-k.invariant.1 _ _ c.raise-seen.ensures.knows c.if-seen-eq1.false,
  (let t = c.loop-k-test.true in omega arith),
  c.raise-seen.ensures.slots ∙ c.loop-k.invariant.3,
)
