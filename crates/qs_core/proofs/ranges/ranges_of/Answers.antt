use Rattle.std.proofs.Common.{ap, ◌∙◌}
use Rattle.qs_core.specs.declared.ranges.LeafRange.{LeafRange}
use Rattle.qs_core.proofs.TaskRanges.{is_cell, ranges_of_two}
use Rattle.qs_core.proofs.ranges.ranges_of.Goals as goal

pub leaf_range-requires-in-Some : goal.leaf_range-requires-in-Some
leaf_range-requires-in-Some g c = is_cell _ c.args.task c.in-Some.cell c.cells_of-first.result c.cells-cells.ensures.laws c.requires.task c.cells_of-first.ensures c.in-Some.is

pub returns-in-Some-clause-ranges : goal.returns-in-Some-clause-ranges
returns-in-Some-clause-ranges g c =
    ranges_of_two _ c.args.task c.cells_of-first.result _ _ c.cells-cells.ensures.laws c.requires.task c.cells_of-first.ensures (ap (λ (s : LeafRange). (s.from, s.to)) c.of-first.ensures ∙ c.leaf_range.ensures) c.in-Some.cell _ _ c.in-Some.is
    (ap (λ (s : LeafRange). (s.from, s.to)) c.of.ensures ∙ c.leaf_range-in-Some.ensures)
