use Rattle.std.proofs.Common.{◌≡◌, refl, ap, arith}
use Rattle.cell_tree.specs.declared.node.Node.{Node}
use Rattle.cell_tree.proofs.Family.{size_at, size_some, run_within}
use Rattle.cell_tree.proofs.FoundChildren.{HasFound-none, HasFound-more, HasFound-all, HasFound-parents, next_fits, child_in}
use Rattle.cell_tree.proofs.Orders.{cells_few}
use Rattle.cell_tree.proofs.children.append_children.Goals as goal

pub overflow_add-end : goal.overflow_add-end
overflow_add-end c =
    let e : c.node.result.size ≡ size_at c.args.cells.now c.args.cell = ap (λ (n : Node). n.size) c.node.ensures.value in
    omega (arith, run_within c.args.cells.now c.args.cell c.requires.within, cells_few c.args.cells.now c.node.ensures.can)

pub overflow_add-child : goal.overflow_add-child
overflow_add-child c = let l = cells_few c.args.cells.now c.node.ensures.can in let w = c.requires.within in omega arith

pub loop-child-init : goal.loop-child-init
loop-child-init c = HasFound-none c.args.cells.now c.args.cell c.requires.within c.args.numbers.now.items c.args.parents.now c.requires.long c.requires.known

pub bounds-parents-child : goal.bounds-parents-child
bounds-parents-child c =
    let e : c.node.result.size ≡ size_at c.args.cells.now c.args.cell = ap (λ (n : Node). n.size) c.node.ensures.value in
    let l = child_in c.args.cells.now c.args.cell c.requires.within c.args.numbers.now.items c.loop-child.child _ _ c.loop-child.invariant (omega arith) in
    omega (arith, c.loop-child.invariant.long)

pub node-child-requires : goal.node-child-requires
node-child-requires c =
    let e : c.node.result.size ≡ size_at c.args.cells.now c.args.cell = ap (λ (n : Node). n.size) c.node.ensures.value in
    child_in c.args.cells.now c.args.cell c.requires.within c.args.numbers.now.items c.loop-child.child _ _ c.loop-child.invariant (omega arith)

pub overflow_add-child-in-loop-child : goal.overflow_add-child-in-loop-child
overflow_add-child-in-loop-child c =
    let e : c.node.result.size ≡ size_at c.args.cells.now c.args.cell = ap (λ (n : Node). n.size) c.node.ensures.value in
    let f : c.node-child.result.size ≡ size_at c.args.cells.now c.loop-child.child = ap (λ (n : Node). n.size) c.node-child.ensures.value in
    let l = next_fits c.args.cells.now c.args.cell c.requires.within c.args.numbers.now.items c.loop-child.child _ _ c.loop-child.invariant (omega arith) in
    omega (arith, run_within c.args.cells.now c.args.cell c.requires.within, cells_few c.args.cells.now c.node.ensures.can)

pub loop-child-smaller : goal.loop-child-smaller
loop-child-smaller c =
    let f : c.node-child.result.size ≡ size_at c.args.cells.now c.loop-child.child = ap (λ (n : Node). n.size) c.node-child.ensures.value in
    let s = size_some c.args.cells.now c.loop-child.child in
    let t = c.loop-child-test.true in
    omega arith

pub loop-child-preserved : goal.loop-child-preserved
loop-child-preserved c =
    let e : c.node.result.size ≡ size_at c.args.cells.now c.args.cell = ap (λ (n : Node). n.size) c.node.ensures.value in
    let f : c.node-child.result.size ≡ size_at c.args.cells.now c.loop-child.child = ap (λ (n : Node). n.size) c.node-child.ensures.value in
    rw f (HasFound-more c.args.cells.now c.args.cell c.requires.within c.args.numbers.now.items c.loop-child.child c.loop-child.numbers.items c.loop-child.parents c.loop-child.invariant
    c.push.new.self.items _ (omega arith) c.in_ok-push.ensures.items refl)

pub returns-clause-added : goal.returns-clause-added
returns-clause-added c =
    let e : c.node.result.size ≡ size_at c.args.cells.now c.args.cell = ap (λ (n : Node). n.size) c.node.ensures.value in
    HasFound-all c.args.cells.now c.args.cell c.requires.within c.args.numbers.now.items c.loop-child.child c.loop-child.numbers.items c.loop-child.parents c.loop-child.invariant (omega arith)

pub returns-clause-known : goal.returns-clause-known
returns-clause-known c =
    let e : c.node.result.size ≡ size_at c.args.cells.now c.args.cell = ap (λ (n : Node). n.size) c.node.ensures.value in
    HasFound-parents c.args.cells.now c.args.cell c.requires.within c.args.numbers.now.items c.loop-child.child c.loop-child.numbers.items c.loop-child.parents c.loop-child.invariant (omega arith)
