-- The octree over a list of points: cells in preorder, children in the order of octants.
use Rattle.std.specs.Prelude.{◌≡◌, ℕ, zero, suc, ◌<◌, ◌≤◌, Bool, ◌==◌, ◌||◌, true, nat_le, if◌then◌else◌, List, [], ◌∷◌, map, filter, flat_map, length, slice_index, slice_index_or, count_by, take}
use Rattle.std.specs.List.{range_with_len}
use Rattle.sph_num.specs.Bound.{greatest_of}
use Rattle.cell_geom.specs.declared.cube.Cube.{Cube}
use Rattle.cell_geom.specs.Cube.{deepest_level, octant_of, child_of, cube_contains, is_octant_of}

-- what a tree is made of: its points, their smoothing lengths, and how many members a leaf may have
pub record Made : Type 0 where
  pub points : List (List ℕ)
  pub lengths : List ℕ
  pub leaf : ℕ

-- the same from its parts
abbrev pub made_of : List (List ℕ) → List ℕ → ℕ → Made
made_of points lengths leaf = record { points = points; lengths = lengths; leaf = leaf }

-- a cell: its cube, and the numbers of the points in it, rising
pub record Cell : Type 0 where
  pub cube : Cube
  pub members : List ℕ

-- the whole box
abbrev pub root_cube : Cube
root_cube = record { level = 0; at = 0 ∷ 0 ∷ 0 ∷ [] }

-- the cell of an octant: its cube, and the cell's members in it
abbrev pub child_cell : List (List ℕ) → Cell → ℕ → Cell
child_cell points cell octant = record {
  cube = child_of cell.cube octant;
  members = filter (λ i. octant_of cell.cube.level (slice_index_or points i []) == octant) cell.members;
}

-- The cells of a cell's subtree, the cell first, with so many levels below it. A cell of more members than a leaf may have, with a
-- level left below it, has a child for each octant that holds a member, and its children's subtrees follow in the order of octants.
-- Any other cell is a leaf.
unfoldable pub subtree : List (List ℕ) → ℕ → ℕ → Cell → List Cell
subtree points leaf zero cell = cell ∷ []
subtree points leaf (suc levels) cell =
    if nat_le (length cell.members) leaf then cell ∷ []
    else
    cell ∷ flat_map
    (λ octant.
    if length (child_cell points cell octant).members == 0 then []
    else subtree points leaf levels (child_cell points cell octant))
    (range_with_len 0 8)

-- the cells of a tree: the subtree of the whole box, with all levels below it
abbrev pub cells_of : Made → List Cell
cells_of made = subtree made.points made.leaf deepest_level (record { cube = root_cube; members = range_with_len 0 (length made.points) })

-- what stands for a cell where a number is that of none
abbrev pub no_cell : Cell
no_cell = record { cube = root_cube; members = [] }

-- the cell of this number
abbrev pub cell_at : Made → ℕ → Cell
cell_at made cell = slice_index_or (cells_of made) cell no_cell

-- the cell is a leaf: it has few members, or it lies on the last level
abbrev pub is_leaf : Made → Cell → Bool
is_leaf made cell = nat_le (length cell.members) made.leaf || nat_le deepest_level cell.cube.level

-- how many leaves there are, in all and among the cells before this one
abbrev pub leaf_count : Made → ℕ
leaf_count made = count_by (is_leaf made) (cells_of made)

abbrev pub leaves_before : Made → ℕ → ℕ
leaves_before made cell = count_by (is_leaf made) (take cell (cells_of made))

-- the greatest smoothing length of the cell's members
abbrev pub reach_of : Made → Cell → ℕ
reach_of made cell = greatest_of (map (slice_index made.lengths) cell.members)

-- the inner cell lies in the outer one, or is it
abbrev pub lies_in : Made → ℕ → ℕ → Bool
lies_in made outer inner = cube_contains (cell_at made outer).cube (cell_at made inner).cube

-- the one cell is the other's parent: the other's cube is an octant of its own
pub record IsParent (made : Made) (parent child : ℕ) : Type 0 where
  pub before : parent < child
  pub within : child < length (cells_of made)
  pub octant : is_octant_of (cell_at made parent).cube (cell_at made child).cube ≡ true

-- the leaf of this number is this cell: leaves are numbered in the order of their cells
pub record IsLeafCell (made : Made) (leaf cell : ℕ) : Type 0 where
  pub within : cell < length (cells_of made)
  pub stands : is_leaf made (cell_at made cell) ≡ true
  pub number : leaves_before made cell ≡ leaf

-- the leaves below a cell are just those from the first number to the last, the last excluded: at least one
pub record AreLeavesBelow (made : Made) (cell from to : ℕ) : Type 0 where
  pub some : from < to
  pub within : to ≤ leaf_count made
  pub inside : (leaf at : ℕ) → IsLeafCell made leaf at → from ≤ leaf → leaf < to → lies_in made cell at ≡ true
  pub outside : (leaf at : ℕ) → IsLeafCell made leaf at → lies_in made cell at ≡ true → (from ≤ leaf) × (leaf < to)
