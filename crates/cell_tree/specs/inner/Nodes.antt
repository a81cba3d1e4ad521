-- What a tree keeps of each cell, and of the members of its leaves.
use Rattle.std.specs.Prelude.{ℕ, ◌<◌, ◌==◌, nat_le, Bool, ◌||◌, if◌then◌else◌, List, [], filter, flat_map, length, slice_index_or, Contains}
use Rattle.std.specs.List.{range_with_len}
use Rattle.cell_geom.specs.declared.cube.Cube.{Cube}
use Rattle.cell_geom.specs.Cube.{deepest_level, IsCube, cube_holds, octant_of}
use Rattle.cell_tree.specs.declared.node.Node.{Node}
use Rattle.cell_tree.specs.Tree.{Made, Cell, is_leaf, reach_of}
use Rattle.cell_tree.specs.inner.Under.{cells_under}

abbrev pub cell_over : Cube → List ℕ → Cell
cell_over cube members = record { cube = cube; members = members }

-- what is kept of a cell
abbrev pub node_of : Made → Cell → Node
node_of made cell = record { cube = cell.cube; count = length cell.members; reach = reach_of made cell; size = length (cells_under made cell) }

-- the cell of the node is a leaf
abbrev pub is_leaf_node : ℕ → Node → Bool
is_leaf_node leaf node = nat_le node.count leaf || nat_le deepest_level node.cube.level

-- the members of a leaf, and nothing of any other cell
abbrev pub leaf_members : Made → Cell → List ℕ
leaf_members made cell = if is_leaf made cell then cell.members else []

-- the members of the leaves of a list of cells, one leaf after another
abbrev pub members_in : Made → List Cell → List ℕ
members_in made cells = flat_map (leaf_members made) cells

-- the members that lie in an octant of a cube of this level
abbrev pub in_octant : List (List ℕ) → ℕ → List ℕ → ℕ → List ℕ
in_octant points level members octant = filter (λ i. octant_of level (slice_index_or points i []) == octant) members

-- those of n octants from the first on, one octant after another
abbrev pub in_octants : List (List ℕ) → ℕ → List ℕ → ℕ → ℕ → List ℕ
in_octants points level members first n = flat_map (in_octant points level members) (range_with_len first n)

-- the members are points that a cube of the box holds
pub record AreHeld (points : List (List ℕ)) (cube : Cube) (members : List ℕ) : Type 0 where
  pub in_box : IsCube cube
  pub each : (index : ℕ) → Contains members index → (index < length points) × cube_holds cube (slice_index_or points index [])

-- the cell has members, which its cube holds
pub record IsSound (made : Made) (cell : Cell) : Type 0 where
  pub some : 0 < length cell.members
  pub held : AreHeld made.points cell.cube cell.members
