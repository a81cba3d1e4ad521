use Rattle.std.proofs.Common.{◌≤◌, ◌∙◌, count_by, sym, ap, subst, arith}
use Rattle.qs_core.specs.Core.{task_place}
use Rattle.qs_core.specs.Steps.{CanClaim}
use Rattle.qs_table.specs.declared.view.SeatView.{SeatView}
use Rattle.qs_table.specs.Notes.{claims_task}
use Rattle.qs_table.specs.Seats.{TableView}
use Rattle.qs_table.specs.Views.{alone}
use Rattle.qs_table.specs.inner.Plays.{HasAsked, seat_in}
use Rattle.qs_table.proofs.TaskSteps.{claim_allowed}
use Rattle.qs_table.proofs.Sitting.{knows_is, sits_after}
use Rattle.qs_table.proofs.table.ResTable.ask.Given.{Over}
use Rattle.qs_table.proofs.table.ResTable.ask.Goals.{After-compare_exchange}
use Rattle.qs_table.proofs.table.ResTable.ask.Goals as goal

pub compare_exchange-requires : goal.compare_exchange-requires
compare_exchange-requires g c =
    let W = g.W.Work in
    let laid = c.self.invariant.0 in
    let v = seat_in c.args.seat.now.me.0 in
    let plan = ap (λ (t : TableView _). t.plan) c.self.view_is in
    let word = c.task_word-word.ensures ∙ ap (λ p. task_place (W.shape p) c.args.task) (sym plan) in
    let can = subst (λ p. CanClaim (W.shape p) v.holds c.args.task) (sym plan) c.requires.can in (
      c.requires.sits.same ∙ sym (ap (λ (t : TableView _). t.id) c.self.view_is),
      (let many = laid.words_are in let within = can.is_task in omega (arith, many, within, word)),
      claim_allowed W.shape W.fits W.done _ laid.laws _ _ _ _ v _ (c.requires.sits.alone_is ∙ ap (λ p. alone p v) (sym plan)) c.args.task word can,
    )

told : (g : Over) (c : After-compare_exchange g) → HasAsked g.W.Work.shape c.args.self.now.plan (seat_in c.args.seat.now.me.0) c.args.task c.args.seat.now.me.1 c.compare_exchange.result c.compare_exchange.new.seat.me
told g c = c.compare_exchange.ensures.2 c.args.self.now.plan (seat_in c.args.seat.now.me.0) c.args.task c.requires.sits.alone_is c.task_word-word.ensures

pub returns-clause-sits : goal.returns-clause-sits
returns-clause-sits g c = sits_after _ _ _ _ _ c.requires.sits c.compare_exchange.ensures.0 (told g c).is

pub returns-clause-knows : goal.returns-clause-knows
returns-clause-knows g c = knows_is _ _ _ _ (told g c).is

pub returns-clause-slots : goal.returns-clause-slots
returns-clause-slots g c = ap (λ m. m.1) (told g c).is

pub returns-clause-word : goal.returns-clause-word
returns-clause-word g c = (told g c).word

pub returns-clause-once : goal.returns-clause-once
returns-clause-once g c t = subst (λ (v : SeatView). count_by (claims_task t) v.notes ≤ 1) (sym (knows_is _ _ _ _ (told g c).is)) ((told g c).once t)
