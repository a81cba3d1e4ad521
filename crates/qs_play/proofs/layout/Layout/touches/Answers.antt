use Rattle.std.proofs.Common.{refl, ap, ◌∙◌}
use Rattle.qs_core.specs.Shape.{task_at}
use Rattle.qs_core.proofs.Below.{or_first, or_second, touches_by_cells}
use Rattle.qs_play.proofs.layout.Layout.touches.Goals as goal

pub returns-then-is_below_some : goal.returns-then-is_below_some
returns-then-is_below_some c =
    let first = c.first.ensures ∙ ap (λ t. t.first) c.task-task.ensures in
    or_first (touches_by_cells c.args.self.now c.args.task c.args.leaf c.first.result (task_at c.args.self.now c.args.task).second first refl) c.if-is_below_some.true c.is_below_some.ensures

pub returns-else-is_below_some : goal.returns-else-is_below_some
returns-else-is_below_some c =
    let first = c.first.ensures ∙ ap (λ t. t.first) c.task-task.ensures in
    let second = c.second.ensures ∙ ap (λ t. t.second) c.task-task.ensures in
    or_second (touches_by_cells c.args.self.now c.args.task c.args.leaf c.first.result c.second.result first second) c.if-is_below_some.false c.is_below_some.ensures
    c.is_below_some-else-is_below_some.ensures
