use Rattle.std.proofs.Common.{subst, arith}
use Rattle.cell_tree.specs.inner.Parts.{IsTree}
use Rattle.cell_tree.proofs.TreeLists.{parent_read}
use Rattle.cell_tree.proofs.tree.Tree.parent.Goals as goal

pub returns : goal.returns
returns c =
    let t = subst (λ m. IsTree m c.self.inside.firsts.items c.self.inside.leaves.items c.self.inside.children) c.self.view_is c.self.invariant in
    parent_read c.args.self.now _ _ _ t c.args.cell (let n = c.if-cell-eq0.false in omega arith) c.requires c.index.result.now c.index.ensures
