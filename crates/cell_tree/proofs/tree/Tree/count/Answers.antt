use Rattle.std.proofs.Common.{◌<◌, length, sym, ap, subst, arith}
use Rattle.cell_tree.specs.declared.node.Node.{Node}
use Rattle.cell_tree.specs.Tree.{cells_of}
use Rattle.cell_tree.proofs.Bounds.{members_most}
use Rattle.cell_tree.proofs.Members.{sound_at}
use Rattle.cell_tree.proofs.tree.Tree.count.Goals as goal

pub returns-clause-some : goal.returns-clause-some
returns-clause-some c =
    let l = subst (λ m. c.args.cell < length (cells_of m)) (sym c.self.view_is) c.requires in
    omega (arith, (sound_at c.self.inside.cells c.self.invariant.can c.args.cell l).some, ap (λ (n : Node). n.count) c.node.ensures.value)

pub returns-clause-most : goal.returns-clause-most
returns-clause-most c =
    let l = subst (λ m. c.args.cell < length (cells_of m)) (sym c.self.view_is) c.requires in
    omega (arith, members_most c.self.inside.cells c.args.cell l, ap (λ (n : Node). n.count) c.node.ensures.value, ap (λ m. length m.points) c.self.view_is)
