use Rattle.std.proofs.Common.{◌<◌, length, sym, subst}
use Rattle.cell_geom.specs.Cube.{IsCube}
use Rattle.cell_tree.specs.declared.node.Node.{Node}
use Rattle.cell_tree.specs.Tree.{cells_of}
use Rattle.cell_tree.proofs.Members.{sound_at}
use Rattle.cell_tree.proofs.tree.Tree.cube.Goals as goal

pub returns-clause-cube : goal.returns-clause-cube
returns-clause-cube c =
    let l = subst (λ m. c.args.cell < length (cells_of m)) (sym c.self.view_is) c.requires in
    subst (λ (n : Node). IsCube n.cube) (sym c.node.ensures.value) (sound_at c.self.inside.cells c.self.invariant.can c.args.cell l).held.in_box
