use Rattle.std.proofs.Common.{◌≡◌, length, subst, arith}
use Rattle.cell_tree.specs.Tree.{cells_of}
use Rattle.sph_step.specs.Made.{IsParentOf}
use Rattle.sph_step.specs.inner.Told.{AreFilled}
use Rattle.sph_step.proofs.Filled.{filled_next, filled_none}
use Rattle.sph_step.proofs.cells.parents_of.Goals as goal

pub loop-cell-init : goal.loop-cell-init
loop-cell-init c = rw c.in_ok-parents.ensures.items (filled_none (IsParentOf c.args.tree.now))

pub loop-cell-preserved : goal.loop-cell-preserved
loop-cell-preserved c =
    rw c.in_ok-push.ensures.items (filled_next (IsParentOf c.args.tree.now) c.loop-cell.cell c.loop-cell.parents.items c.parent.result c.loop-cell.invariant c.parent.ensures)

pub returns : goal.returns
returns c =
    let tree = c.args.tree.now in
    let all : c.loop-cell.cell ≡ length (cells_of tree) = omega (arith, c.cells-cell-end.ensures.value) in
    subst (λ n. AreFilled (IsParentOf tree) n c.loop-cell.parents.items) all c.loop-cell.invariant
