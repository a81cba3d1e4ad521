use Rattle.std.proofs.Common.{sym, ap, ◌∙◌, [], ◌≢◌, subst, refl, inl, inr}
use Rattle.qs_core.specs.Shape.{task_at}
use Rattle.qs_worker.proofs.Ending.{can_release, done_with_none, done_with_some, nil_from_test, some_from_test}
use Rattle.qs_worker.proofs.claimed.do_claimed.Goals as goal

pub release-requires-clause-can : goal.release-requires-clause-can
release-requires-clause-can g c =
    let are = c.successors.ensures ∙ ap (λ p. (task_at (g.W.Work.shape p) c.args.task).successors) c.requires.work in
    can_release _ c.args.task c.args.seat.now.view c.work_on.new.seat.view c.give_cells.new.seat.view c.work_on.ensures.holds c.give_cells.ensures.holds (subst (λ ss. ss ≢ []) are (some_from_test _ (sym c.is_empty.ensures ∙ c.if-not-is_empty.true)))

pub returns-then-not-is_empty-clause-done : goal.returns-then-not-is_empty-clause-done
returns-then-not-is_empty-clause-done g c =
    let are = c.successors.ensures ∙ ap (λ p. (task_at (g.W.Work.shape p) c.args.task).successors) c.requires.work in
    done_with_some _ c.args.task c.args.seat.now.view c.work_on.new.seat.view c.give_cells.new.seat.view c.work_on.ensures.holds c.give_cells.ensures.holds c.work_on.ensures.place c.give_cells.ensures.place c.work_on.ensures.notes c.give_cells.ensures.notes _ _ _
    (subst (λ ss. ss ≢ []) are (some_from_test _ (sym c.is_empty.ensures ∙ c.if-not-is_empty.true))) c.release.ensures.over

pub returns-else-not-is_empty-clause-done : goal.returns-else-not-is_empty-clause-done
returns-else-not-is_empty-clause-done g c =
    let are = c.successors.ensures ∙ ap (λ p. (task_at (g.W.Work.shape p) c.args.task).successors) c.requires.work in
    done_with_none _ c.args.task c.args.seat.now.view c.work_on.new.seat.view c.give_cells.new.seat.view c.work_on.ensures.holds c.give_cells.ensures.holds c.work_on.ensures.place c.give_cells.ensures.place c.work_on.ensures.notes c.give_cells.ensures.notes _
    (sym are ∙ nil_from_test _ (sym c.is_empty.ensures ∙ c.if-not-is_empty.false))

pub returns-then-not-is_empty-clause-once : goal.returns-then-not-is_empty-clause-once
returns-then-not-is_empty-clause-once g c = inr c.release.ensures.once

pub returns-else-not-is_empty-clause-once : goal.returns-else-not-is_empty-clause-once
returns-else-not-is_empty-clause-once g c = inl refl
