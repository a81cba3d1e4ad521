use Rattle.std.proofs.Common.{◌<◌, ◌∙◌, [], Contains, Some, length, sym, ap, subst}
use Rattle.lists.proofs.Elements.{All-from_Contains}
use Rattle.qs_core.specs.Shape.{IsShape, task_at}
use Rattle.qs_table.specs.Seats.{TokenView}
use Rattle.qs_table.proofs.Sitting.{runs_whole, same_plan}
use Rattle.qs_table.proofs.table.ResTable.release.Goals as goal

pub finish-requires-clause-runs : goal.finish-requires-clause-runs
finish-requires-clause-runs g c =
    let W = g.W.Work in
    let plan = c.args.self.now.plan in
    let task = c.seat.inside.task in
    let same = same_plan W.shape _ _ _ plan c.seat.invariant (ap (λ (t : TokenView _). t.plan) c.seat.view_is ∙ c.requires.seat.plan_is) in
    let whole = runs_whole W.shape _ _ _ plan c.args.seat.now.view c.seat.invariant same (ap (λ (t : TokenView _). t.view) c.seat.view_is) c.requires.can in
    let successors = c.successors-successors.ensures ∙ ap (λ p. (task_at (W.shape p) task).successors) c.requires.work in
    (task, whole.0 ∙ ap (λ ss. Some (record { task = task; leaves = []; successors = ss })) (sym successors))

pub finish-requires-clause-within : goal.finish-requires-clause-within
finish-requires-clause-within g c =
    let W = g.W.Work in
    let plan = c.args.self.now.plan in
    let task = c.seat.inside.task in
    let same = same_plan W.shape _ _ _ plan c.seat.invariant (ap (λ (t : TokenView _). t.plan) c.seat.view_is ∙ c.requires.seat.plan_is) in
    let whole = runs_whole W.shape _ _ _ plan c.args.seat.now.view c.seat.invariant same (ap (λ (t : TokenView _). t.view) c.seat.view_is) c.requires.can in
    let successors = c.successors-successors.ensures ∙ ap (λ p. (task_at (W.shape p) task).successors) c.requires.work in
    let laws = subst IsShape (ap W.shape c.requires.work) c.cells-cells.ensures.laws in
    All-from_Contains (λ after. after < length (W.shape plan).tasks) c.successors-successors.result.now (λ after listed. ((laws.tasks task whole.1).later after (subst (λ ss. Contains ss after) successors listed)).1)
