use Rattle.std.proofs.Common.{◌≡◌, length, subst, arith}
use Rattle.cell_tree.specs.Tree.{cells_of}
use Rattle.sph_step.specs.Made.{IsRangeOf}
use Rattle.sph_step.specs.inner.Told.{AreFilled}
use Rattle.sph_step.proofs.Filled.{filled_next, filled_none}
use Rattle.sph_step.proofs.cells.ranges_of.Goals as goal

pub loop-cell-init : goal.loop-cell-init
loop-cell-init c = rw c.in_ok-ranges.ensures.items (filled_none (IsRangeOf c.args.tree.now))

pub loop-cell-preserved : goal.loop-cell-preserved
loop-cell-preserved c =
    rw c.in_ok-push.ensures.items (filled_next (IsRangeOf c.args.tree.now) c.loop-cell.cell c.loop-cell.ranges.items c.leaves_below.result c.loop-cell.invariant c.leaves_below.ensures.below)

pub returns : goal.returns
returns c =
    let tree = c.args.tree.now in
    let all : c.loop-cell.cell ≡ length (cells_of tree) = omega (arith, c.cells-cell-end.ensures.value) in
    subst (λ n. AreFilled (IsRangeOf tree) n c.loop-cell.ranges.items) all c.loop-cell.invariant
