use Rattle.std.proofs.Common.{subst, arith}
use Rattle.std.proofs.lemmas.List.{take_all}
use Rattle.cell_block.specs.inner.Beginning.{AreGiven}
use Rattle.cell_block.proofs.beginning.each.Goals as goal

pub returns : goal.returns
returns g c = subst (λ members. AreGiven (goal.F-post g c.args.of) members c.loop-i.each.items) (take_all c.loop-i.i-index c.args.members.now (omega arith)) c.loop-i.invariant
