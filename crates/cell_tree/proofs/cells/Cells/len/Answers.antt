use Rattle.std.proofs.Common.{◌≤◌, arith}
use Rattle.cell_tree.specs.Tree.{made_of}
use Rattle.cell_tree.specs.Laws.{most_cells}
use Rattle.cell_tree.proofs.Orders.{cells_few, length-nodes}
use Rattle.cell_tree.proofs.cells.Cells.len.Goals as goal
use Rattle.cell_tree.proofs.cells.Cells.len.Goals.{After-len}

few : (c : After-len) → c.len.result ≤ most_cells
few c =
    let made = made_of c.self.inside.points.items c.self.inside.lengths.items c.self.inside.leaf in
    omega (arith, length-nodes made _ _ c.self.invariant, cells_few made c.self.invariant.can, c.len.ensures, c.self.inside.nodes.ok.0)

pub overflow_cast-result : goal.overflow_cast-result
overflow_cast-result c = let l = few c in omega arith

pub returns-clause-few : goal.returns-clause-few
returns-clause-few c = few c
