use Rattle.std.proofs.Common.{subst}
use Rattle.cell_tree.specs.inner.Parts.{IsTree}
use Rattle.cell_tree.proofs.TreeLists.{leaf_read}
use Rattle.cell_tree.proofs.tree.Tree.cell_of.Goals as goal

pub returns : goal.returns
returns c =
    let t = subst (λ m. IsTree m c.self.inside.firsts.items c.self.inside.leaves.items c.self.inside.children) c.self.view_is c.self.invariant in
    (leaf_read c.args.self.now _ _ _ t c.args.leaf c.requires c.index.result.now c.index.ensures).cell
