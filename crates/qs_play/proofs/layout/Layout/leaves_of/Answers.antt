use Rattle.std.proofs.Common.{◌≡◌, [], ◌++◌, ap, ◌∙◌}
use Rattle.qs_core.specs.Shape.{leaves_below, leaves_of_other}
use Rattle.qs_core.proofs.Below.{leaves_by_cells}
use Rattle.qs_play.proofs.layout.Layout.leaves_of.Goals as goal

pub returns : goal.returns
returns c =
    let first = c.first.ensures ∙ ap (λ t. t.first) c.task-task.ensures in
    let second = c.second.ensures ∙ ap (λ t. t.second) c.task-task.ensures in
    let items : c.push_leaves-2.new.leaves.items ≡ ([] ++ leaves_below c.args.self.now c.first.result) ++ leaves_of_other c.args.self.now c.second.result =
    cc (c.in_ok-push_leaves-2.ensures, c.in_ok-push_leaves.ensures, c.new-leaves.ensures.items) in
    leaves_by_cells c.args.self.now c.args.task c.first.result c.second.result c.push_leaves-2.new.leaves.items first second items
