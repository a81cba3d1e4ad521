use Rattle.std.proofs.Common.{◌+◌, ◌-◌, ◌*◌}
use Rattle.cell_geom.specs.Cube.{deepest_level}
use Rattle.pair_cover.specs.Looks.{pair_spans}
use Rattle.pair_cover.specs.inner.Steps.{level_at}
use Rattle.pair_cover.proofs.LookSteps.{AddsTo}
use Rattle.pair_cover.proofs.looks.Look.+pair.Given as goal

abbrev pub decreases-pair : goal.decreases-pair
decreases-pair l = 2 * (2 * deepest_level - (level_at l.self.now.tree.now l.a + level_at l.self.now.tree.now l.b)) + 1

abbrev pub decreases-below_first : goal.decreases-below_first
decreases-below_first l = 2 * (2 * deepest_level - (level_at l.self.now.tree.now l.a + level_at l.self.now.tree.now l.b))

abbrev pub decreases-below_second : goal.decreases-below_second
decreases-below_second l = 2 * (2 * deepest_level - (level_at l.self.now.tree.now l.a + level_at l.self.now.tree.now l.b))

abbrev pub invariant-below_first-loop-child : goal.invariant-below_first-loop-child
invariant-below_first-loop-child l =
    AddsTo l.fn.self.tree.now l.fn.self.before.now (λ due looks child. pair_spans l.fn.self.tree.now due l.fn.self.limits looks child l.fn.b) l.child-items l.fn.spans.items
    (2 * deepest_level - (level_at l.fn.self.tree.now l.fn.a + level_at l.fn.self.tree.now l.fn.b)) l.child-index l.spans.items

abbrev pub invariant-below_second-loop-child : goal.invariant-below_second-loop-child
invariant-below_second-loop-child l =
    AddsTo l.fn.self.tree.now l.fn.self.before.now (λ due looks child. pair_spans l.fn.self.tree.now due l.fn.self.limits looks l.fn.a child) l.child-items l.fn.spans.items
    (2 * deepest_level - (level_at l.fn.self.tree.now l.fn.a + level_at l.fn.self.tree.now l.fn.b)) l.child-index l.spans.items
