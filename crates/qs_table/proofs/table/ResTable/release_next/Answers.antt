use Rattle.std.proofs.Common.{◌<◌, ◌≤◌, ◌∙◌, length, count_by, sym, ap, subst, arith}
use Rattle.qs_core.specs.Core.{task_place}
use Rattle.qs_table.specs.declared.view.SeatView.{SeatView}
use Rattle.qs_table.specs.Notes.{frees_task}
use Rattle.qs_table.specs.Seats.{TableView}
use Rattle.qs_table.specs.Views.{alone}
use Rattle.qs_table.specs.inner.Plays.{seat_in}
use Rattle.qs_table.proofs.TaskSteps.{release_allowed}
use Rattle.qs_table.proofs.Sitting.{knows_is, sits_after}
use Rattle.qs_table.proofs.table.ResTable.release_next.Goals as goal

pub fetch_sub-requires : goal.fetch_sub-requires
fetch_sub-requires g c =
    let W = g.W.Work in
    let laid = c.self.invariant.0 in
    let v = seat_in c.args.seat.now.me.0 in
    let plan = ap (λ (t : TableView _). t.plan) c.self.view_is in
    let word = c.task_word-word.ensures ∙ ap (λ p. task_place (W.shape p) c.args.task) (sym plan) in
    let within = subst (λ p. c.args.task < length (W.shape p).tasks) (sym plan) c.requires.within in (
      c.requires.sits.same ∙ sym (ap (λ (t : TableView _). t.id) c.self.view_is),
      (let many = laid.words_are in omega (arith, many, within, word)),
      release_allowed W.shape W.fits W.done _ laid.laws _ _ _ _ v _ (c.requires.sits.alone_is ∙ ap (λ p. alone p v) (sym plan)) c.requires.can (word ∙ ap (task_place (W.shape (W.plan c.self.inside.table.shared.key.work.value))) c.requires.next),
    )

pub returns-clause-sits : goal.returns-clause-sits
returns-clause-sits g c = sits_after _ _ _ _ _ c.requires.sits c.fetch_sub.ensures.0 (c.fetch_sub.ensures.2 _ _ c.requires.sits.alone_is).0

pub returns-clause-knows : goal.returns-clause-knows
returns-clause-knows g c = knows_is _ _ _ _ (c.fetch_sub.ensures.2 _ _ c.requires.sits.alone_is).0

pub returns-clause-slots : goal.returns-clause-slots
returns-clause-slots g c = ap (λ m. m.1) (c.fetch_sub.ensures.2 _ _ c.requires.sits.alone_is).0

pub returns-clause-once : goal.returns-clause-once
returns-clause-once g c t = subst (λ (v : SeatView). count_by (frees_task t) v.notes ≤ 1) (sym (knows_is _ _ _ _ (c.fetch_sub.ensures.2 _ _ c.requires.sits.alone_is).0)) ((c.fetch_sub.ensures.2 _ _ c.requires.sits.alone_is).1 t)
