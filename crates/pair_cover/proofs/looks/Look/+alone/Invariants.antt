use Rattle.std.proofs.Common.{◌+◌, ◌-◌}
use Rattle.cell_geom.specs.Cube.{deepest_level}
use Rattle.pair_cover.specs.Looks.{self_spans}
use Rattle.pair_cover.specs.inner.Steps.{level_at}
use Rattle.pair_cover.proofs.LookSteps.{AddsTo}
use Rattle.pair_cover.proofs.looks.Look.+alone.Given as goal

abbrev pub decreases-alone : goal.decreases-alone
decreases-alone l = deepest_level + 1 - level_at l.self.now.tree.now l.cell

abbrev pub invariant-loop-child : goal.invariant-loop-child
invariant-loop-child l =
    AddsTo l.fn.self.tree.now l.fn.self.before.now (λ due looks child. self_spans l.fn.self.tree.now due l.fn.self.limits looks child) l.child-items l.fn.spans.items
    (deepest_level - level_at l.fn.self.tree.now l.fn.cell) l.child-index l.spans.items
