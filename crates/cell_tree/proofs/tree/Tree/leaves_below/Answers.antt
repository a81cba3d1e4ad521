use Rattle.std.proofs.Common.{◌≡◌, ◌<◌, length, sym, ap, ◌∙◌, subst, arith}
use Rattle.cell_tree.specs.declared.node.Node.{Node}
use Rattle.cell_tree.specs.Tree.{cells_of}
use Rattle.cell_tree.specs.inner.Parts.{IsTree}
use Rattle.cell_tree.proofs.Family.{size_at, run_within}
use Rattle.cell_tree.proofs.Orders.{cells_few}
use Rattle.cell_tree.proofs.Below.{one_range, own_range}
use Rattle.cell_tree.proofs.TreeLists.{leaves_below_read}
use Rattle.cell_tree.proofs.tree.Tree.leaves_below.Goals as goal

pub overflow_add-end : goal.overflow_add-end
overflow_add-end c =
    let l = subst (λ m. c.args.cell < length (cells_of m)) (sym c.self.view_is) c.requires in
    let e : c.node.result.size ≡ size_at c.self.inside.cells c.args.cell = ap (λ (n : Node). n.size) c.node.ensures.value in
    omega (arith, run_within c.self.inside.cells c.args.cell l, cells_few c.self.inside.cells c.self.invariant.can)

pub index-requires-2 : goal.index-requires-2
index-requires-2 c =
    let l = subst (λ m. c.args.cell < length (cells_of m)) (sym c.self.view_is) c.requires in
    let e : c.node.result.size ≡ size_at c.self.inside.cells c.args.cell = ap (λ (n : Node). n.size) c.node.ensures.value in
    omega (arith, run_within c.self.inside.cells c.args.cell l, c.self.invariant.are_firsts.long, c.self.inside.firsts.ok.0)

pub returns-clause-below : goal.returns-clause-below
returns-clause-below c =
    let t = subst (λ m. IsTree m c.self.inside.firsts.items c.self.inside.leaves.items c.self.inside.children) c.self.view_is c.self.invariant in
    let e : c.node.result.size ≡ size_at c.args.self.now c.args.cell = ap (λ (n : Node). n.size) c.node.ensures.value ∙ ap (λ m. size_at m c.args.cell) c.self.view_is in
    leaves_below_read c.args.self.now _ _ _ t c.args.cell c.node.result.size c.requires e c.index.result.now c.index-2.result.now c.index.ensures c.index-2.ensures

pub returns-clause-own : goal.returns-clause-own
returns-clause-own c = λ leaf is.
    let range = own_range c.args.self.now leaf c.args.cell _ _ is (returns-clause-below c) in
    cc (range.0, range.1)

pub returns-clause-only : goal.returns-clause-only
returns-clause-only c = λ from to below.
    let range = one_range c.args.self.now c.args.cell _ _ from to (returns-clause-below c) below in
    cc (range.0, range.1)
