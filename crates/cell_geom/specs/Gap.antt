-- How near two cubes come to each other, across the periodic face too.
use Rattle.std.specs.Prelude.{ℕ, ◌+◌, ◌-◌, ◌*◌, ◌<◌, ◌≤◌, List, slice_index, map, flat_map}
use Rattle.std.specs.List.{range_with_len}
use Rattle.sph_num.specs.Bound.{least_of}
use Rattle.sph_num.specs.Space.{IsPlace, apart, dist2}
use Rattle.cell_geom.specs.declared.cube.Cube.{Cube}
use Rattle.cell_geom.specs.Cube.{side_of, cube_holds}

-- the coordinates of a cube on an axis
abbrev pub coordinates : Cube → ℕ → List ℕ
coordinates cube axis = range_with_len (slice_index cube.at axis * side_of cube.level) (side_of cube.level)

-- the gap of two cubes on an axis: the least distance of a coordinate of the one cube from one of the other
unfoldable pub axis_gap_of : Cube → Cube → ℕ → ℕ
axis_gap_of a b axis = least_of (flat_map (λ x. map (λ y. apart x y) (coordinates b axis)) (coordinates a axis))

-- what an axis adds to the square of the gap, where a point of each cube may have moved by the slack towards the other
abbrev pub slackened : ℕ → ℕ → ℕ
slackened gap slack = (gap - 2 * slack) * (gap - 2 * slack)

-- the square of the gap of two cubes: over the three axes, each gap less twice the slack, at least 0
abbrev pub gap2_of : Cube → Cube → ℕ → ℕ
gap2_of a b slack =
    slackened (axis_gap_of a b 0) slack + slackened (axis_gap_of a b 1) slack + slackened (axis_gap_of a b 2) slack

-- the places differ by at most this much on each axis
pub record IsMoved (slack : ℕ) (from to : List ℕ) : Type 0 where
  pub was : IsPlace from
  pub now : IsPlace to
  pub near : (axis : ℕ) → axis < 3 → apart (slice_index to axis) (slice_index from axis) ≤ slack

-- the gap law: points that two cubes hold, and that then moved by at most the slack on each axis, are no nearer than the gap
abbrev pub KeepsGap : Cube → Cube → ℕ → ℕ → Type 0
KeepsGap a b slack gap2 =
    (p q p' q' : List ℕ) → cube_holds a p → cube_holds b q → IsMoved slack p p' → IsMoved slack q q' → gap2 ≤ dist2 p' q'
