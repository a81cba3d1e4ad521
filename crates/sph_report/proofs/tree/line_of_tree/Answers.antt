use Rattle.sph_report.proofs.TreeTexts.{line_written, tree_line_joined}
use Rattle.sph_report.proofs.tree.line_of_tree.Goals as goal

pub returns : goal.returns
returns c =
    let joined = tree_line_joined _ _ _ _ _ c.args.tree.now c.points-particles.ensures.value c.cells-cells.ensures.value c.leaves-leaves.ensures.value
    c.greatest_level-deepest.ensures c.largest_leaf-largest.ensures in
    line_written c.format.result joined c.format.ensures.ok
