use Rattle.std.proofs.Common.{◌≡◌, ◌-◌, ◌∙◌, subst, arith}
use Rattle.qs_table.specs.inner.Plays.{seat_in}
use Rattle.qs_table.proofs.Given.{Giving, gave, giving_more}
use Rattle.qs_table.proofs.table.ResTable.give.Goals as goal

pub lower-requires-clause-within : goal.lower-requires-clause-within
lower-requires-clause-within g c = c.requires.cells (c.loop-k.k - 1) 0 (let a = c.requires.within.1 in let b = c.loop-k.invariant.2 in let t = c.loop-k-test.true in omega arith)

pub loop-k-preserved : goal.loop-k-preserved
loop-k-preserved g c = (
  c.lower.ensures.sits,
  giving_more _ _ _ _ c.loop-k.invariant.1 _ _ _ c.lower.ensures.knows,
  (let b = c.loop-k.invariant.2 in omega arith),
  c.lower.ensures.slots ∙ c.loop-k.invariant.3,
)

pub returns-clause-gave : goal.returns-clause-gave
returns-clause-gave g c =
    let first = seat_in c.args.seat.now.me.0 in
    let last = seat_in c.loop-k.seat.me.0 in
    let none : c.loop-k.k ≡ 0 = (let t = c.loop-k-test.false in omega arith) in
    gave first last c.args.cell (subst (λ k. Giving first c.args.cell k last) none c.loop-k.invariant.1) (g.W.Work.shape c.args.self.now.plan) _ _ c.unlock.ensures.knows
