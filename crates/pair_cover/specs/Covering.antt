-- What the spans of a tree meet, also after its points have moved a little, and that each has a due member.
use Rattle.std.specs.Prelude.{◌≡◌, ℕ, ◌<◌, Bool, true, false, ◌||◌, List, [], map, length, get_or, slice_index, slice_index_or, Option, Some, None}
use Rattle.sph_num.specs.Cover.{Covers}
use Rattle.sph_num.specs.Force.{InReach}
use Rattle.sph_num.specs.Space.{dist2}
use Rattle.cell_geom.specs.Gap.{IsMoved}
use Rattle.cell_tree.specs.declared.tree.Span.{Span}
use Rattle.cell_tree.specs.Due.{has_due}
use Rattle.cell_tree.specs.Tree.{Made}
use Rattle.cell_tree.specs.Spans.{group_of}

-- places for the points, none of which moved by more than the slack on an axis
pub record AreMoved (made : Made) (slack : ℕ) (places : List (List ℕ)) : Type 0 where
  pub one_each : length places ≡ length made.points
  pub near : (k : ℕ) → k < length made.points → IsMoved slack (slice_index_or made.points k []) (slice_index_or places k [])

-- two points in reach of one another at these places
abbrev pub AreInReach : Made → List (List ℕ) → ℕ → ℕ → Type 0
AreInReach made places i j =
    InReach (dist2 (slice_index_or places i []) (slice_index_or places j [])) (slice_index made.lengths i) (slice_index made.lengths j)

-- the spans cover the points wherever they have moved within the slack
abbrev pub CoversMoved : Made → List Bool → ℕ → List Span → Type 0
CoversMoved made due slack spans =
    (places : List (List ℕ)) → AreMoved made slack places
    → Covers (map (group_of made) spans) (length made.points) (AreInReach made places) (λ i. get_or due i false ≡ true)

-- a member of the cell is due, if there is a cell
abbrev pub some_has_due : Made → List Bool → Option ℕ → Bool
some_has_due made due None = false
some_has_due made due (Some cell) = has_due made due cell

-- a member of one of the span's cells is due
abbrev pub SpanIsDue : Made → List Bool → Span → Type 0
SpanIsDue made due span = (has_due made due span.first || some_has_due made due span.second) ≡ true
