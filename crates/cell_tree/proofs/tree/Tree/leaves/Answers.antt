use Rattle.std.proofs.Common.{length, ap, arith}
use Rattle.cell_tree.proofs.LeafCounts.{leaves_of_run, leaves_few}
use Rattle.cell_tree.proofs.Orders.{cells_few, cells_some}
use Rattle.cell_tree.proofs.TreeLists.{leaf_count-le}
use Rattle.cell_tree.proofs.tree.Tree.leaves.Goals as goal

pub overflow_cast-result : goal.overflow_cast-result
overflow_cast-result c =
    omega (arith, c.len.ensures, c.self.inside.leaves.ok.0, c.self.invariant.are_leaves.long, leaf_count-le c.self.inside.cells, cells_few c.self.inside.cells c.self.invariant.can)

pub returns-clause-few : goal.returns-clause-few
returns-clause-few c =
    omega (arith, c.len.ensures, c.self.inside.leaves.ok.0, c.self.invariant.are_leaves.long, leaves_few c.self.inside.cells c.self.invariant.can, c.self.invariant.can.not_too_many)

pub returns-clause-some : goal.returns-clause-some
returns-clause-some c =
    let w = leaves_of_run c.self.inside.cells c.self.invariant.can 0 (cells_some c.self.inside.cells) in
    omega (arith, w.some, w.within, c.len.ensures, c.self.inside.leaves.ok.0, c.self.invariant.are_leaves.long)

pub returns-clause-most : goal.returns-clause-most
returns-clause-most c =
    omega (arith, c.len.ensures, c.self.inside.leaves.ok.0, c.self.invariant.are_leaves.long, leaves_few c.self.inside.cells c.self.invariant.can, ap (λ m. length m.points) c.self.view_is)
