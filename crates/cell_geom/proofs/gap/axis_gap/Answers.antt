use Rattle.std.proofs.Common.{sym, arith}
use Rattle.cell_geom.proofs.Gaps.{axis_gap_of-below, axis_gap_of-above, axis_gap_of-shared}
use Rattle.cell_geom.proofs.gap.axis_gap.Goals as goal

pub returns-then-a_last-b_first-clause-value : goal.returns-then-a_last-b_first-clause-value
returns-then-a_last-b_first-clause-value c =
    sym (axis_gap_of-below c.args.a c.args.b c.args.axis _ _ _ _ c.ends-a_first.ensures c.ends-b_first.ensures c.min.result c.if-a_last-b_first.true (omega arith))

pub returns-then-b_last-a_first-clause-value : goal.returns-then-b_last-a_first-clause-value
returns-then-b_last-a_first-clause-value c =
    sym (axis_gap_of-above c.args.a c.args.b c.args.axis _ _ _ _ c.ends-a_first.ensures c.ends-b_first.ensures c.min-then-b_last-a_first.result c.if-b_last-a_first.true (omega arith))

pub returns-else-b_last-a_first-clause-value : goal.returns-else-b_last-a_first-clause-value
returns-else-b_last-a_first-clause-value c =
    sym (axis_gap_of-shared c.args.a c.args.b c.args.axis _ _ _ _ c.ends-a_first.ensures c.ends-b_first.ensures c.if-a_last-b_first.false c.if-b_last-a_first.false)
