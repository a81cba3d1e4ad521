use Rattle.cell_tree.proofs.DueLeaves.{due_from_counts}
use Rattle.cell_tree.proofs.due.has_due.Goals as goal

pub returns : goal.returns
returns c =
    λ due counts. due_from_counts c.args.tree.now c.requires.can due c.args.before.now counts c.args.cell
    c.leaves_below-from.result.0 c.leaves_below-from.result.1 c.requires.cell c.leaves_below-from.ensures.below
