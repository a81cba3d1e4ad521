-- Cubes of the periodic box: level L cuts the box into 2^L cubes along each axis.
use Rattle.std.specs.Prelude.{◌≡◌, ℕ, ◌+◌, ◌-◌, ◌*◌, ◌/◌, ◌%◌, ◌^◌, ◌<◌, ◌≤◌, List, [], ◌∷◌, length, slice_index, Bool, true, nat_le, suc, ◌&&◌, ◌==◌}
use Rattle.cell_geom.specs.declared.cube.Cube.{Cube}

-- the level of the smallest cubes
abbrev pub deepest_level : ℕ
deepest_level = 10

-- the cube is one of its level's
pub record IsCube (cube : Cube) : Type 0 where
  pub level : cube.level ≤ deepest_level
  pub three : length cube.at ≡ 3
  pub within : (axis : ℕ) → axis < 3 → slice_index cube.at axis < 2 ^ cube.level

-- the side of a cube of this level, in length units; the box's is 2^20
abbrev pub side_of : ℕ → ℕ
side_of level = 2 ^ (20 - level)

-- the cube holds the point: on each axis the coordinate, divided by the side and rounded down, is the cube's place
abbrev pub cube_holds : Cube → List ℕ → Type 0
cube_holds cube point = (axis : ℕ) → axis < 3 → slice_index point axis / side_of cube.level ≡ slice_index cube.at axis

-- in which half of the cube the point lies on an axis: 0 for the lower, 1 for the upper
abbrev pub half_of : ℕ → List ℕ → ℕ → ℕ
half_of level point axis = (slice_index point axis / side_of (level + 1)) % 2

-- the octant of a point in a cube of this level: bit 0 for x, bit 1 for y, bit 2 for z
abbrev pub octant_of : ℕ → List ℕ → ℕ
octant_of level point = half_of level point 0 + 2 * half_of level point 1 + 4 * half_of level point 2

-- the cube of an octant
abbrev pub child_of : Cube → ℕ → Cube
child_of cube octant = record {
  level = cube.level + 1;
  at = (2 * slice_index cube.at 0 + octant % 2) ∷ (2 * slice_index cube.at 1 + (octant / 2) % 2) ∷ (2 * slice_index cube.at 2 + (octant / 4) % 2) ∷ [];
}

-- on this axis the inner cube, of no smaller level, lies in the outer one
abbrev pub lies_along : Cube → Cube → ℕ → Bool
lies_along outer inner axis = slice_index inner.at axis / 2 ^ (inner.level - outer.level) == slice_index outer.at axis

-- the inner cube lies in the outer one, or is the same
unfoldable pub cube_contains : Cube → Cube → Bool
cube_contains outer inner =
    nat_le outer.level inner.level && lies_along outer inner 0 && lies_along outer inner 1 && lies_along outer inner 2

abbrev pub CubeContains : Cube → Cube → Type 0
CubeContains outer inner = cube_contains outer inner ≡ true

-- the inner cube has half the outer one's side and lies in it
abbrev pub is_octant_of : Cube → Cube → Bool
is_octant_of outer inner = (inner.level == suc outer.level) && cube_contains outer inner
