use Rattle.std.proofs.Common.{ap, ◌∙◌}
use Rattle.task_graph.proofs.LeafNumbers.{counted_yes, counted_no}
use Rattle.task_graph.proofs.leaves.leaves_due.Goals as goal
use Rattle.task_graph.proofs.leaves.leaves_due.Goals.{then-due_before-leaf+in_ok-push, else-due_before-leaf}

pub loop-leaf-preserved : goal.loop-leaf-preserved
loop-leaf-preserved c =
    elim c.if-due_before-leaf.branch [
      | then-due_before-leaf+in_ok-push w ↦
          counted_yes c.args.due_before.now c.loop-leaf.leaf c.loop-leaf.leaves.items c.if-due_before-leaf.leaves.items c.loop-leaf.auto.leaf c.loop-leaf.invariant w.if-due_before-leaf.true
          (ap (λ v. v.items) w.leaves-is ∙ w.in_ok-push.ensures.items)
      | else-due_before-leaf w ↦
          ap (λ v. v.items) w.leaves-is ∙ counted_no c.args.due_before.now c.loop-leaf.leaf c.loop-leaf.leaves.items c.loop-leaf.auto.leaf c.loop-leaf.invariant w.if-due_before-leaf.false
    ]
