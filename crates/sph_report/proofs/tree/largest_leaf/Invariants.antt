use Rattle.std.proofs.Common.{◌≡◌, length, map, take}
use Rattle.std.specs.Prelude.{filter}
use Rattle.sph_num.specs.Bound.{greatest_of}
use Rattle.cell_tree.specs.Tree.{Cell, cells_of, is_leaf}
use Rattle.sph_report.proofs.tree.largest_leaf.Given as goal

abbrev pub invariant-loop-cell : goal.invariant-loop-cell
invariant-loop-cell l = l.largest ≡ greatest_of (map (λ (cell : Cell). length cell.members) (filter (is_leaf l.tree) (take l.cell (cells_of l.tree))))
