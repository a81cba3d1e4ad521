use Rattle.std.proofs.Common.{◌≡◌, [], get_or, ap, ◌∙◌}
use Rattle.std.proofs.lemmas.List.{get_or_read}
use Rattle.task_graph.proofs.LeafNumbers.{spanned_yes, spanned_no}
use Rattle.task_graph.proofs.leaves.leaves_with_spans.Goals as goal
use Rattle.task_graph.proofs.leaves.leaves_with_spans.Goals.{then-not-is_empty+in_ok-push, else-not-is_empty}

pub loop-leaf-preserved : goal.loop-leaf-preserved
loop-leaf-preserved c =
    let read : c.as_slice.result.now ≡ get_or c.args.above.now c.loop-leaf.leaf [] =
    c.as_slice.ensures ∙ get_or_read c.args.above.now c.loop-leaf.leaf c.index-above-leaf.result c.loop-leaf-test.true c.index-above-leaf.is [] in
    elim c.if-not-is_empty.branch [
      | then-not-is_empty+in_ok-push w ↦
          spanned_yes c.args.above.now c.loop-leaf.leaf c.as_slice.result.now c.loop-leaf.leaves.items c.if-not-is_empty.leaves.items c.is_empty.result c.loop-leaf.invariant read c.is_empty.ensures w.if-not-is_empty.true
          (ap (λ v. v.items) w.leaves-is ∙ w.in_ok-push.ensures.items)
      | else-not-is_empty w ↦
          ap (λ v. v.items) w.leaves-is ∙ spanned_no c.args.above.now c.loop-leaf.leaf c.as_slice.result.now c.loop-leaf.leaves.items c.is_empty.result c.loop-leaf.invariant read c.is_empty.ensures w.if-not-is_empty.false
    ]
