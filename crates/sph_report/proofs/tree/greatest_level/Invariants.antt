use Rattle.std.proofs.Common.{◌≡◌, map, take}
use Rattle.sph_num.specs.Bound.{greatest_of}
use Rattle.cell_tree.specs.Tree.{Cell, cells_of}
use Rattle.sph_report.proofs.tree.greatest_level.Given as goal

abbrev pub invariant-loop-cell : goal.invariant-loop-cell
invariant-loop-cell l = l.deepest ≡ greatest_of (map (λ (cell : Cell). cell.cube.level) (take l.cell (cells_of l.tree)))
