use Rattle.std.proofs.Common.{◌+◌, ◌<◌, length, sym, ap, ◌∙◌, arith}
use Rattle.cell_tree.specs.declared.node.Node.{Node}
use Rattle.cell_tree.specs.Tree.{cells_of}
use Rattle.cell_tree.proofs.LeafCounts.{AreLeavesTo-leaf, AreLeavesTo-other, start_fits}
use Rattle.cell_tree.proofs.leaves.leaves_of.Goals as goal
use Rattle.cell_tree.proofs.leaves.leaves_of.Goals.{then-is_leaf+in_ok-push, else-is_leaf}

pub overflow_add-start : goal.overflow_add-start
overflow_add-start c =
    let cell_in : c.loop-cell.cell < length (cells_of c.args.cells.now) = omega (arith, c.len-cell-end.ensures.value) in
    let f = start_fits c.args.cells.now c.len-cell-end.ensures.can c.loop-cell.cell cell_in (sym c.is_leaf.ensures ∙ c.if-is_leaf.true) in
    omega (arith, ap (λ (n : Node). n.count) c.node-start.ensures.value, c.loop-cell.invariant.start_is)

pub loop-cell-preserved : goal.loop-cell-preserved
loop-cell-preserved c =
    let cell_in : c.loop-cell.cell < length (cells_of c.args.cells.now) = omega (arith, c.len-cell-end.ensures.value) in
    elim c.if-is_leaf.branch [
      | then-is_leaf+in_ok-push w ↦
          AreLeavesTo-leaf c.args.cells.now c.loop-cell.cell c.loop-cell.leaves.items c.if-is_leaf.leaves.items c.loop-cell.start c.if-is_leaf.start c.loop-cell.invariant cell_in (sym c.is_leaf.ensures ∙ w.if-is_leaf.true)
          (ap (λ v. v.items) w.leaves-is ∙ w.in_ok-push.ensures.items) (w.start-is ∙ ap (λ (n : Node). c.loop-cell.start + n.count) w.node-start.ensures.value)
      | else-is_leaf w ↦
          AreLeavesTo-other c.args.cells.now c.loop-cell.cell c.loop-cell.leaves.items c.if-is_leaf.leaves.items c.loop-cell.start c.if-is_leaf.start c.loop-cell.invariant cell_in (sym c.is_leaf.ensures ∙ w.if-is_leaf.false)
          (ap (λ v. v.items) w.leaves-is) w.start-is
    ]
