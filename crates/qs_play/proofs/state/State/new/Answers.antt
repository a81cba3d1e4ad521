use Rattle.std.proofs.Common.{subst, sym}
use Rattle.qs_core.specs.Machine.{IsMachine}
use Rattle.qs_play.proofs.Copied.{made_is, made_of_lists}
use Rattle.qs_play.proofs.state.State.new.Goals as goal

pub invariant_of-result : goal.invariant_of-result
invariant_of-result g c =
    let shape = g.W.Work.shape (g.W.Work.plan c.args.work.now) in
    let is = made_of_lists shape c.in_ok-layout.layout c.args.seats c.in_ok-words.words.items c.in_ok-empty.empty.items c.in_ok-notes.notes.items c.in_ok-layout.ensures.value
    c.in_ok-words.ensures c.in_ok-empty.ensures c.in_ok-notes.ensures in
    subst IsMachine (sym is) (made_is shape c.args.seats c.of.ensures.laws)

pub returns-clause-machine : goal.returns-clause-machine
returns-clause-machine g c = invariant_of-result g c
