use Rattle.std.proofs.Common.{length, sym, ap, ◌∙◌, subst, arith}
use Rattle.cell_tree.specs.Due.{AreDueBefore}
use Rattle.task_graph.specs.inner.Parts.{AreEdgeLists}
use Rattle.task_graph.proofs.Adding.{edges_of-parts}
use Rattle.task_graph.proofs.Joining.{are_edge_lists}
use Rattle.task_graph.proofs.LeafBounds.{AreFew, counts_fit, lists_few, span_numbers_fit}
use Rattle.task_graph.proofs.successors.edge_lists.Goals as goal

pub add_leaves-requires-clause-fits : goal.add_leaves-requires-clause-fits
add_leaves-requires-clause-fits c =
    let are = c.requires.leaves.2 in
    let few : AreFew c.args.leaves.now = lists_few c.requires.can are in
    rw c.above_drifting.ensures (span_numbers_fit c.args.tree.now c.args.spans.now _ _ are.above_drifting_are c.args.numbers.densities (omega arith))

pub add_spans-requires-clause-few : goal.add_spans-requires-clause-few
add_spans-requires-clause-few c =
    let few : AreFew c.args.leaves.now = lists_few c.requires.can c.requires.leaves.2 in
    omega (arith, c.in_ok-add_leaves.ensures.count, ap length c.in_ok-lists.ensures.starts, ap length c.above_drifting.ensures)

pub add_spans-requires-clause-long : goal.add_spans-requires-clause-long
add_spans-requires-clause-long c = ap length c.due_before.ensures ∙ c.requires.leaves.2.before_are.long

pub add_spans-requires-clause-fits : goal.add_spans-requires-clause-fits
add_spans-requires-clause-fits c =
    let are = c.requires.leaves.2 in
    let few : AreFew c.args.leaves.now = lists_few c.requires.can are in
    rw c.due_before.ensures (counts_fit _ _ _ c.args.numbers.ghosts c.requires.can are.before_are (omega arith))

pub add_leaves-requires-2-clause-starts : goal.add_leaves-requires-2-clause-starts
add_leaves-requires-2-clause-starts c =
    let k = c.requires.leaves in
    (c.in_ok-add_spans.ensures.lists k.0 (subst (AreDueBefore c.args.tree.now k.0) (sym c.due_before.ensures) k.2.before_are)).are_starts

pub add_leaves-requires-2-clause-few : goal.add_leaves-requires-2-clause-few
add_leaves-requires-2-clause-few c =
    let few : AreFew c.args.leaves.now = lists_few c.requires.can c.requires.leaves.2 in
    omega (arith, c.in_ok-add_leaves.ensures.count, c.in_ok-add_spans.ensures.count, ap length c.in_ok-lists.ensures.starts, ap length c.above_drifting.ensures, ap length c.above_dues.ensures)

pub add_leaves-requires-2-clause-fits : goal.add_leaves-requires-2-clause-fits
add_leaves-requires-2-clause-fits c =
    let are = c.requires.leaves.2 in
    let few : AreFew c.args.leaves.now = lists_few c.requires.can are in
    rw c.above_dues.ensures (span_numbers_fit c.args.tree.now c.args.spans.now _ _ are.above_dues_are c.args.numbers.forces (omega arith))

pub add_spans-requires-2-clause-few : goal.add_spans-requires-2-clause-few
add_spans-requires-2-clause-few c =
    let few : AreFew c.args.leaves.now = lists_few c.requires.can c.requires.leaves.2 in
    omega (arith, c.in_ok-add_leaves.ensures.count, c.in_ok-add_spans.ensures.count, c.in_ok-add_leaves-2.ensures.count, ap length c.in_ok-lists.ensures.starts, ap length c.above_drifting.ensures, ap length c.above_dues.ensures)

pub add_spans-requires-2-clause-long : goal.add_spans-requires-2-clause-long
add_spans-requires-2-clause-long c = ap length c.due_before-2.ensures ∙ c.requires.leaves.2.before_are.long

pub add_spans-requires-2-clause-fits : goal.add_spans-requires-2-clause-fits
add_spans-requires-2-clause-fits c =
    let are = c.requires.leaves.2 in
    let few : AreFew c.args.leaves.now = lists_few c.requires.can are in
    rw c.due_before-2.ensures (counts_fit _ _ _ c.args.numbers.kicks c.requires.can are.before_are (omega arith))

pub add_empty-requires-clause-starts : goal.add_empty-requires-clause-starts
add_empty-requires-clause-starts c =
    let k = c.requires.leaves in
    (c.in_ok-add_spans-2.ensures.lists k.0 (subst (AreDueBefore c.args.tree.now k.0) (sym c.due_before-2.ensures) k.2.before_are)).are_starts

pub add_empty-requires-clause-few : goal.add_empty-requires-clause-few
add_empty-requires-clause-few c =
    let few : AreFew c.args.leaves.now = lists_few c.requires.can c.requires.leaves.2 in
    omega (arith, ap length c.dues.ensures, c.in_ok-add_leaves.ensures.count, c.in_ok-add_spans.ensures.count, c.in_ok-add_leaves-2.ensures.count, c.in_ok-add_spans-2.ensures.count, ap length c.in_ok-lists.ensures.starts, ap length c.above_drifting.ensures, ap length c.above_dues.ensures)

pub returns : goal.returns
returns c = λ due drift are.
    let made = c.args.tree.now in
    let adds1 = rw c.above_drifting.ensures at c.in_ok-add_leaves.ensures.lists in
    let adds2 = c.in_ok-add_spans.ensures.lists due (subst (AreDueBefore made due) (sym c.due_before.ensures) are.before_are) in
    let adds3 = rw c.above_dues.ensures at c.in_ok-add_leaves-2.ensures.lists in
    let adds4 = c.in_ok-add_spans-2.ensures.lists due (subst (AreDueBefore made due) (sym c.due_before-2.ensures) are.before_are) in
    let adds5 = c.in_ok-add_empty.ensures in
    let is = edges_of-parts _ _ _ _ _ _ _ _ _ _ _ _ _ _ _ _ _ c.in_ok-lists.ensures.starts c.in_ok-lists.ensures.ends adds1 adds2 adds3 adds4 adds5 in
    subst (AreEdgeLists made c.args.spans.now due drift) (sym (c.new-2.ensures ∙ is))
    (are_edge_lists made c.args.spans.now due drift c.args.leaves.now c.args.numbers.densities c.args.numbers.ghosts c.args.numbers.forces c.args.numbers.kicks (length c.dues.result.now) are
    c.requires.densities c.requires.ghosts c.requires.forces c.requires.kicks (ap length c.dues.ensures))
