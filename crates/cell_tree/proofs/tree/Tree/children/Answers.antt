use Rattle.std.proofs.Common.{subst}
use Rattle.cell_tree.specs.inner.Parts.{IsTree}
use Rattle.cell_tree.proofs.TreeLists.{children_read}
use Rattle.cell_tree.proofs.tree.Tree.children.Goals as goal

pub returns-clause-rising : goal.returns-clause-rising
returns-clause-rising c =
    let t = subst (λ m. IsTree m c.self.inside.firsts.items c.self.inside.leaves.items c.self.inside.children) c.self.view_is c.self.invariant in
    (children_read c.args.self.now _ _ _ t c.args.cell c.requires c.index-start.result.now c.index-end.result.now c.deref.result.now c.index-start.ensures c.index-end.ensures c.deref.ensures.value).rising

pub returns-clause-just : goal.returns-clause-just
returns-clause-just c =
    let t = subst (λ m. IsTree m c.self.inside.firsts.items c.self.inside.leaves.items c.self.inside.children) c.self.view_is c.self.invariant in
    (children_read c.args.self.now _ _ _ t c.args.cell c.requires c.index-start.result.now c.index-end.result.now c.deref.result.now c.index-start.ensures c.index-end.ensures c.deref.ensures.value).just
