-- The cells below one cell of a tree.
use Rattle.std.specs.Prelude.{ℕ, ◌-◌, ◌==◌, if◌then◌else◌, List, [], flat_map, length}
use Rattle.std.specs.List.{range_with_len}
use Rattle.cell_geom.specs.Cube.{deepest_level}
use Rattle.cell_tree.specs.Tree.{Made, Cell, subtree, child_cell}

-- the cell and the cells of its octants, their octants and so on, in preorder
abbrev pub cells_under : Made → Cell → List Cell
cells_under made cell = subtree made.points made.leaf (deepest_level - cell.cube.level) cell

-- the cells that a split cell has in an octant
abbrev pub cells_in : Made → Cell → ℕ → List Cell
cells_in made cell octant =
    if length (child_cell made.points cell octant).members == 0 then [] else cells_under made (child_cell made.points cell octant)

-- the cells of n octants of a split cell, from the first on
abbrev pub cells_of_octants : Made → Cell → ℕ → ℕ → List Cell
cells_of_octants made cell first n = flat_map (cells_in made cell) (range_with_len first n)

-- the cells below a split cell
abbrev pub cells_below : Made → Cell → List Cell
cells_below made cell = cells_of_octants made cell 0 8
