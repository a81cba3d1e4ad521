use Rattle.std.proofs.Common.{◌≡◌, ◌+◌, ◌-◌, ◌++◌, length, ap, ◌∙◌, subst, sym, arith}
use Rattle.std.specs.List.{All}
use Rattle.cell_geom.specs.Cube.{deepest_level}
use Rattle.cell_tree.specs.Due.{AreDueBefore}
use Rattle.cell_tree.specs.Spans.{IsSpan}
use Rattle.cell_tree.proofs.Orders.{cells_some}
use Rattle.pair_cover.specs.Covering.{CoversMoved, SpanIsDue}
use Rattle.pair_cover.specs.Looks.{spans_of, self_spans, most_looks}
use Rattle.pair_cover.specs.inner.Steps.{Adds, level_at}
use Rattle.pair_cover.proofs.Covering.{spans_cover}
use Rattle.pair_cover.proofs.DueSpans.{spans_due}
use Rattle.pair_cover.proofs.FewSpans.{spans_few}
use Rattle.pair_cover.proofs.SpanCells.{spans_cells}
use Rattle.pair_cover.proofs.spans.cover.Goals as goal
use Rattle.pair_cover.proofs.spans.cover.Goals.{After-drop-before-2}

pub alone-requires : goal.alone-requires
alone-requires c = cells_some c.args.tree.now

spans_are : (c : After-drop-before-2) → c.alone.new.spans.items ≡ spans_of c.args.tree.now c.args.due.now c.args.limits
spans_are c =
    let counts : AreDueBefore c.args.tree.now c.args.due.now c.deref.result.now = subst (AreDueBefore c.args.tree.now c.args.due.now) (sym c.deref.ensures.value) c.in_ok-before.ensures.counts in
    let added : Adds c.args.tree.now c.deref.result.now (deepest_level + 1 - level_at c.args.tree.now 0) (λ due looks. self_spans c.args.tree.now due c.args.limits looks 0) c.new-spans.result.items c.alone.new.spans.items = c.in_ok-alone.ensures in
    added.added c.args.due.now most_looks counts (omega arith) ∙ ap (λ xs. xs ++ spans_of c.args.tree.now c.args.due.now c.args.limits) c.new-spans.ensures.items

pub returns-clause-value : goal.returns-clause-value
returns-clause-value c = spans_are c

pub returns-clause-covers : goal.returns-clause-covers
returns-clause-covers c =
    subst (CoversMoved c.args.tree.now c.args.due.now c.args.limits.slack) (sym (spans_are c))
    (spans_cover c.args.tree.now c.args.due.now c.args.limits c.in_ok-before.ensures.can)

pub returns-clause-cells : goal.returns-clause-cells
returns-clause-cells c = subst (All (IsSpan c.args.tree.now)) (sym (spans_are c)) (spans_cells c.args.tree.now c.in_ok-before.ensures.can c.args.due.now c.args.limits)

pub returns-clause-due : goal.returns-clause-due
returns-clause-due c = subst (All (SpanIsDue c.args.tree.now c.args.due.now)) (sym (spans_are c)) (spans_due c.args.tree.now c.args.due.now c.args.limits)

pub returns-clause-few : goal.returns-clause-few
returns-clause-few c =
    let few = spans_few c.args.tree.now c.in_ok-before.ensures.can c.args.due.now c.args.limits in
    let long : length c.alone.new.spans.items ≡ length (spans_of c.args.tree.now c.args.due.now c.args.limits) = ap length (spans_are c) in
    let ok = c.alone.new.spans.ok.0 in
    omega arith
