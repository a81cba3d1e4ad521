use Rattle.std.proofs.Common.{◌+◌, ◌-◌, ◌*◌}
use Rattle.cell_tree.specs.Tree.{made_of}
use Rattle.cell_tree.specs.inner.Nodes.{cell_over}
use Rattle.cell_tree.proofs.Growth.{IsGrownTo}
use Rattle.cell_tree.proofs.grow.+grow.Given as goal
use Rattle.cell_geom.specs.Cube.{deepest_level}

abbrev pub decreases-grow : goal.decreases-grow
decreases-grow l = 2 * (deepest_level - l.cube.level) + 1

abbrev pub decreases-grow_octants : goal.decreases-grow_octants
decreases-grow_octants l = 2 * (deepest_level - l.cube.level)

abbrev pub invariant-grow_octants-loop-number : goal.invariant-grow_octants-loop-number
invariant-grow_octants-loop-number l =
    IsGrownTo (made_of l.points l.lengths l.leaf) (cell_over l.cube l.fn.members) l.fn.nodes.items l.number l.members l.start l.nodes.items
