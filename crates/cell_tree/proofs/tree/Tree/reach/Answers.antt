use Rattle.std.proofs.Common.{◌<◌, length, sym, subst}
use Rattle.sph_num.specs.Ranges.{IsLength}
use Rattle.cell_tree.specs.declared.node.Node.{Node}
use Rattle.cell_tree.specs.Tree.{cells_of}
use Rattle.cell_tree.proofs.Bounds.{reach_in_range}
use Rattle.cell_tree.proofs.tree.Tree.reach.Goals as goal

pub returns-clause-range : goal.returns-clause-range
returns-clause-range c =
    let l = subst (λ m. c.args.cell < length (cells_of m)) (sym c.self.view_is) c.requires in
    subst (λ (n : Node). IsLength n.reach) (sym c.node.ensures.value) (reach_in_range c.self.inside.cells c.self.invariant.can c.args.cell l)
