use Rattle.std.proofs.Common.{rules, tests, ◌≡◌, filter, length, map, subst, sym, ap, ◌∙◌, arith}
use Rattle.std.proofs.lemmas.List.Elements.{filter_from_retain}
use Rattle.std.specs.List.{range_with_len}
use Rattle.cell_tree.specs.Spans.{leaf_cells}
use Rattle.task_graph.specs.inner.LeafLists.{AreCountsOf, has_span, is_filled}
use Rattle.task_graph.specs.inner.Parts.{spans_above}
use Rattle.task_graph.proofs.LeafNumbers.{AreLeavesOf-spanned, filled_lists, leaves_most, length_lists}
use Rattle.task_graph.proofs.leaves.all_spanned.Goals as goal
use Rattle.task_graph.proofs.leaves.all_spanned.Goals.{In_ok-above}

-- the spans at all leaves
at_leaves : (c : In_ok-above) → c.in_ok-above.above.items ≡ map (spans_above c.args.tree.now c.args.spans.now) (leaf_cells c.args.tree.now)
at_leaves c = c.in_ok-above.ensures (leaf_cells c.args.tree.now) (subst (AreCountsOf c.args.tree.now (leaf_cells c.args.tree.now)) (sym c.deref.ensures.value) c.in_ok-before.ensures)

pub leaves_with_spans-requires : goal.leaves_with_spans-requires
leaves_with_spans-requires c = record {
  few = omega (arith, ap length c.deref-2.ensures.value, length_lists c.args.tree.now c.args.spans.now c.in_ok-above.above.items (at_leaves (goal.at.leaves_with_spans-requires c).In_ok-above), leaves_most c.args.tree.now c.requires.can);
}

pub returns-clause-leaves : goal.returns-clause-leaves
returns-clause-leaves c =
    AreLeavesOf-spanned c.args.tree.now c.args.spans.now c.in_ok-above.above.items (at_leaves (goal.at.returns-clause-leaves c).In_ok-above) c.in_ok-leaves.leaves.items
    (c.in_ok-leaves.ensures ∙ ap (λ lists. filter (has_span lists) (range_with_len 0 (length lists))) c.deref-2.ensures.value)

pub returns-clause-at : goal.returns-clause-at
returns-clause-at c =
    filter_from_retain _ is_filled (λ p x b q k. search (rules, tests)) _ _ _ c.retain.ensures.filtered ∙ filled_lists c.args.tree.now c.args.spans.now c.in_ok-above.above.items (at_leaves (goal.at.returns-clause-at c).In_ok-above)
