use Rattle.std.proofs.Common.{◌≡◌, ◌+◌, length, sym, ap, ◌∙◌, subst, arith}
use Rattle.lists.proofs.Elements.{written_back}
use Rattle.task_graph.specs.inner.LeafLists.{AddsSpan}
use Rattle.task_graph.specs.inner.Parts.{span_at}
use Rattle.task_graph.proofs.SpanLists.{AreListsTo, AreListsTo-more, AreListsTo-all}
use Rattle.task_graph.proofs.leaves.spans_above_leaves.Goals as goal

pub loop-number-preserved : goal.loop-number-preserved
loop-number-preserved c = λ cells are.
    let kept : length c.add_span.new.above ≡ length c.loop-number.above.items = c.add_span.auto.above ∙ ap length c.deref_mut.ensures.value in
    let back = written_back c.loop-number.above.len c.loop-number.above.items c.add_span.new.above c.loop-number.above.ok.0 kept in
    let adds : AddsSpan c.args.tree.now cells (span_at c.args.spans.now c.loop-number.number) c.loop-number.number c.loop-number.above.items c.add_span.new.above =
    subst (λ lists. AddsSpan c.args.tree.now cells (span_at c.args.spans.now c.loop-number.number) c.loop-number.number lists c.add_span.new.above) c.deref_mut.ensures.value (c.in_ok-add_span.ensures cells are) in
    subst (AreListsTo c.args.tree.now cells c.args.spans.now (c.loop-number.number + 1)) (sym back)
    (AreListsTo-more c.args.tree.now cells c.args.spans.now c.loop-number.number c.loop-number.above.items c.add_span.new.above (c.loop-number.invariant cells are) adds kept)

pub returns : goal.returns
returns c = λ cells are.
    AreListsTo-all c.args.tree.now cells c.args.spans.now c.loop-number.number c.loop-number.above.items (c.loop-number.invariant cells are) (omega arith)
