use Rattle.std.proofs.Common.{arith}
use Rattle.cell_tree.proofs.Orders.{cells_some}
use Rattle.cell_tree.proofs.tree.Tree.cells.Goals as goal

pub returns-clause-some : goal.returns-clause-some
returns-clause-some c =
    let s = cells_some c.self.inside.cells in omega (arith, c.len.ensures.value)
