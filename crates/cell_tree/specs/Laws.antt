-- What every octree keeps.
use Rattle.std.specs.Prelude.{◌≡◌, ℕ, ◌+◌, ◌*◌, ◌<◌, ◌≤◌, [], length, slice_index_or, Contains}
use Rattle.sph_num.specs.Space.{IsPlace}
use Rattle.sph_num.specs.Ranges.{most_particles, IsLength}
use Rattle.cell_geom.specs.Cube.{deepest_level, IsCube, cube_holds}
use Rattle.cell_tree.specs.Tree.{Made, cells_of, cell_at, IsLeafCell}

-- the numbers that a tree can be made of
pub record CanBeMade (made : Made) : Type 0 where
  pub some : 1 ≤ length made.points
  pub not_too_many : length made.points ≤ most_particles
  pub one_length_each : length made.lengths ≡ length made.points
  pub places : (k : ℕ) → k < length made.points → IsPlace (slice_index_or made.points k [])
  pub lengths : (k : ℕ) (d : ℕ) → k < length made.lengths → IsLength (slice_index_or made.lengths k d)
  pub leaf_low : 1 ≤ made.leaf
  pub leaf_high : made.leaf ≤ 256

-- the greatest number of cells: on each level there are no more than points
abbrev pub most_cells : ℕ
most_cells = (deepest_level + 1) * most_particles

-- the leaf, by its cell, has the point among its members
pub record HasMember (made : Made) (leaf cell index : ℕ) : Type 0 where
  pub is_leaf : IsLeafCell made leaf cell
  pub member : Contains (cell_at made cell).members index

-- each point is in just one leaf, and every cell's cube holds its members
pub record IsPartition (made : Made) : Type 0 where
  pub leaf_of_point : (index : ℕ) → index < length made.points → (leaf : ℕ) × (cell : ℕ) × HasMember made leaf cell index
  pub just_one : (index leaf leaf' cell cell' : ℕ) → HasMember made leaf cell index → HasMember made leaf' cell' index → leaf ≡ leaf'
  pub cubes : (cell : ℕ) → cell < length (cells_of made) → IsCube (cell_at made cell).cube
  pub holds : (cell index : ℕ) → cell < length (cells_of made) → Contains (cell_at made cell).members index
      → (index < length made.points) × cube_holds (cell_at made cell).cube (slice_index_or made.points index [])
