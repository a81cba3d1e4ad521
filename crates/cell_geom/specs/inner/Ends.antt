-- The first and the last coordinate of a cube on an axis.
use Rattle.std.specs.Prelude.{◌≡◌, ℕ, ◌+◌, ◌*◌, ◌<◌, slice_index}
use Rattle.sph_num.specs.Space.{box_side}
use Rattle.cell_geom.specs.declared.cube.Cube.{Cube}
use Rattle.cell_geom.specs.Cube.{side_of}

-- the cube's coordinates on this axis go from first to last
pub record AreEnds (cube : Cube) (axis first last : ℕ) : Type 0 where
  pub first_is : first ≡ slice_index cube.at axis * side_of cube.level
  pub last_is : last + 1 ≡ first + side_of cube.level
  pub in_box : last < box_side
