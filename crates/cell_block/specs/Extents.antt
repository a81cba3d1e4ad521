-- Boxes round spots, and when two of them are so far apart that no two of their spots are in reach.
use Rattle.std.specs.Prelude.{ℕ, ◌+◌, ◌-◌, ◌*◌, ◌≤◌, nat_le, Bool, min, max, List, All, slice_index}
use Rattle.sph_num.specs.Space.{IsPlace, box_side, dist2}
use Rattle.cell_block.specs.declared.rows.Spot.{Spot}
use Rattle.cell_block.specs.declared.extent.Extent.{Extent}
use Rattle.cell_block.specs.declared.extent.Interval.{Interval}

-- the spots have places in the periodic box
abbrev pub HavePlaces : List Spot → Type 0
HavePlaces spots = All (λ (spot : Spot). IsPlace spot.place) spots

pub record IsIn (interval : Interval) (x : ℕ) : Type 0 where
  pub low : interval.low ≤ x
  pub high : x ≤ interval.high

-- a spot lies in the box, and its length is no more than the box's
pub record IsWithin (extent : Extent) (spot : Spot) : Type 0 where
  pub x : IsIn extent.x (slice_index spot.place 0)
  pub y : IsIn extent.y (slice_index spot.place 1)
  pub z : IsIn extent.z (slice_index spot.place 2)
  pub h : spot.h ≤ extent.h

abbrev pub AreWithin : Extent → List Spot → Type 0
AreWithin extent spots = All (IsWithin extent) spots

-- the distance of two spots is no less than their lengths
abbrev pub IsBeyond : Spot → Spot → Type 0
IsBeyond p q = max p.h q.h * max p.h q.h ≤ dist2 p.place q.place

abbrev pub AreApart : Extent → Extent → Type 0
AreApart a b = (p q : Spot) → IsWithin a p → IsWithin b q → IsBeyond p q

-- the gap between two intervals of an axis: straight from the end of the one to the beginning of the other, or across the face
abbrev pub gap_of : Interval → Interval → ℕ
gap_of a b = min (max (b.low - a.high) (a.low - b.high)) (box_side - max a.high b.high + min a.low b.low)

-- the square of the distance of two boxes
abbrev pub gap2_of : Extent → Extent → ℕ
gap2_of a b = gap_of a.x b.x * gap_of a.x b.x + gap_of a.y b.y * gap_of a.y b.y + gap_of a.z b.z * gap_of a.z b.z

-- two boxes are apart where their distance is no less than the greater of their lengths
abbrev pub is_apart : Extent → Extent → Bool
is_apart a b = nat_le (max a.h b.h * max a.h b.h) (gap2_of a b)
