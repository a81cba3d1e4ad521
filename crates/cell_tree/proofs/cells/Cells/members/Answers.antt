use Rattle.std.proofs.Common.{◌≡◌, ◌+◌, ◌-◌, ◌≤◌, length, take, drop, ap, ◌∙◌, subst, arith, rules}
use Rattle.cell_tree.specs.declared.node.Node.{Node}
use Rattle.cell_tree.specs.inner.Nodes.{members_in}
use Rattle.cell_tree.specs.inner.Parts.{IsGrown}
use Rattle.cell_tree.specs.Tree.{cells_of, cell_at}
use Rattle.cell_tree.proofs.Orders.{node_at, leaf_run, leaf_run_end}
use Rattle.cell_tree.proofs.cells.Cells.members.Goals as goal
use Rattle.cell_tree.proofs.cells.Cells.members.Goals.{After-deref}

grown : (c : After-deref) → IsGrown c.args.self.now c.self.inside.nodes.items c.self.inside.order.items
grown c = subst (λ m. IsGrown m c.self.inside.nodes.items c.self.inside.order.items) c.self.view_is c.self.invariant

count_is : (c : After-deref) → c.index.result.now.count ≡ length (cell_at c.args.self.now c.args.cell).members
count_is c = ap (λ (n : Node). n.count) (node_at c.args.self.now _ _ (grown c) c.args.cell c.requires.within c.index.result.now c.index.ensures)

pub slice_bounds-result-end : goal.slice_bounds-result-end
slice_bounds-result-end c =
    let l : c.args.start + c.index.result.now.count ≤ length c.deref.result.now =
    let e = leaf_run_end c.args.self.now _ _ (grown c) c.args.cell c.requires.within c.requires.leaf in omega (arith, count_is c, c.requires.start, ap length c.deref.ensures.value) in
    search rules

pub returns : goal.returns
returns c =
    let d : After-deref = (goal.at.returns c).After-deref in
    let cell = cell_at c.args.self.now c.args.cell in
    let k : c.args.start + c.index.result.now.count - c.args.start ≡ length cell.members = omega (arith, count_is d) in
    ap (λ n. take n (drop c.args.start c.deref.result.now)) k
    ∙ ap (λ s. take (length cell.members) (drop s c.deref.result.now)) c.requires.start
    ∙ ap (λ xs. take (length cell.members) (drop (length (members_in c.args.self.now (take c.args.cell (cells_of c.args.self.now)))) xs)) (c.deref.ensures.value ∙ (grown d).order_is)
    ∙ leaf_run c.args.self.now c.args.cell c.requires.within c.requires.leaf
