use Rattle.std.proofs.Common.{◌≡◌, ◌-◌, ℕ, List, length, filter, sym, ap, ◌∙◌, subst, arith}
use Rattle.std.specs.List.{range_with_len}
use Rattle.task_graph.specs.inner.LeafLists.{AreCountsOf, counts_more}
use Rattle.task_graph.specs.Tasks.{due_cells}
use Rattle.task_graph.proofs.CountedLeaves.{AreCountsOf-due}
use Rattle.task_graph.proofs.LeafNumbers.{AreLeavesOf-drifting, AreLeavesOf-due, AreLeavesOf-still, leaves_most, lists_drifting, lists_still}
use Rattle.task_graph.proofs.leaves.Leaves.of.Goals as goal
use Rattle.task_graph.proofs.leaves.Leaves.of.Goals.{In_ok-due_before, then-drift+in_ok-all_spanned, else-drift}

pub leaves_due-requires-clause-few : goal.leaves_due-requires-clause-few
leaves_due-requires-clause-few c = omega (arith, ap length c.deref.ensures.value, c.in_ok-due_before.ensures.counts.long, leaves_most c.args.tree.now c.in_ok-due_before.ensures.can)

-- the counts tell of the leaves with a due member
counts : (c : In_ok-due_before) → {before : List ℕ} → before ≡ c.in_ok-due_before.due_before.items → AreCountsOf c.args.tree.now (due_cells c.args.tree.now c.args.due.now) before
counts c is = subst (AreCountsOf c.args.tree.now (due_cells c.args.tree.now c.args.due.now)) (sym is) (AreCountsOf-due c.args.tree.now c.args.due.now c.in_ok-due_before.due_before.items c.in_ok-due_before.ensures.counts)

pub spans_above_leaves-requires-clause-counts : goal.spans_above_leaves-requires-clause-counts
spans_above_leaves-requires-clause-counts c = (due_cells c.args.tree.now c.args.due.now, counts (goal.at.spans_above_leaves-requires-clause-counts c).In_ok-due_before c.deref-2.ensures.value)

pub returns-clause-leaves : goal.returns-clause-leaves
returns-clause-leaves c = record {
  drifting_are = elim c.if-drift.branch [
    | then-drift+in_ok-all_spanned w ↦ AreLeavesOf-drifting c.args.tree.now c.args.spans.now w.if-drift.true (ap (λ p. p.0.items) w.drifting-is) w.in_ok-all_spanned.ensures.leaves
    | else-drift w ↦ AreLeavesOf-still c.args.tree.now c.args.spans.now w.if-drift.false (ap (λ p. p.0.items) w.drifting-is ∙ w.new.ensures.items)
  ];
  above_drifting_are = elim c.if-drift.branch [
    | then-drift+in_ok-all_spanned w ↦ lists_drifting c.args.tree.now c.args.spans.now w.if-drift.true (ap (λ p. p.1.items) w.drifting-is ∙ w.in_ok-all_spanned.ensures.at)
    | else-drift w ↦ lists_still c.args.tree.now c.args.spans.now w.if-drift.false (ap (λ p. p.1.items) w.drifting-is ∙ w.new-else-drift.ensures.items)
  ];
  dues_are = AreLeavesOf-due c.args.tree.now c.args.due.now c.in_ok-due_before.due_before.items c.in_ok-due_before.ensures.counts c.in_ok-dues.dues.items
      (c.in_ok-dues.ensures ∙ ap (λ before. filter (counts_more before) (range_with_len 0 (length before - 1))) c.deref.ensures.value);
  above_dues_are = c.in_ok-above_dues.ensures (due_cells c.args.tree.now c.args.due.now) (counts (goal.at.returns-clause-leaves c).In_ok-due_before c.deref-2.ensures.value);
  before_are = c.in_ok-due_before.ensures.counts;
}
