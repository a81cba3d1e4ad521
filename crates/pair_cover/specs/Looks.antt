-- The spans of a tree: found by looks at one cell and at two, from the whole box down.
use Rattle.std.specs.Prelude.{ℕ, zero, suc, ◌+◌, ◌*◌, Bool, true, false, not, ◌&&◌, ◌||◌, ◌==◌, nat_le, nat_lt, if◌then◌else◌, List, [], ◌∷◌, ◌++◌, map, filter, flat_map, length, max, Option, Some, None}
use Rattle.std.specs.List.{range_with_len}
use Rattle.cell_tree.specs.declared.tree.Span.{Span}
use Rattle.cell_tree.specs.Due.{has_due}
use Rattle.cell_tree.specs.Spans.{count_of, is_leaf_cell}
use Rattle.cell_tree.specs.Tree.{Made, cell_at, cells_of, reach_of}
use Rattle.pair_cover.specs.declared.looks.Limits.{Limits}
use Rattle.cell_geom.specs.Cube.{deepest_level, is_octant_of}
use Rattle.cell_geom.specs.Gap.{gap2_of}

-- the children of a cell, in the order of their numbers
unfoldable pub children_of : Made → ℕ → List ℕ
children_of made cell = filter (λ child. is_octant_of (cell_at made cell).cube (cell_at made child).cube) (range_with_len 0 (length (cells_of made)))

-- the greater reach of two cells
abbrev pub reach_of_two : Made → ℕ → ℕ → ℕ
reach_of_two made a b = max (reach_of made (cell_at made a)) (reach_of made (cell_at made b))

-- a look at two cells drops them: none of their members is due, or no two of them can come into reach
abbrev pub drops : Made → List Bool → Limits → ℕ → ℕ → Bool
drops made due limits a b =
    not (has_due made due a || has_due made due b)
    || nat_le (reach_of_two made a b * reach_of_two made a b) (gap2_of (cell_at made a).cube (cell_at made b).cube limits.slack)

-- it gives their span: both are leaves, or they have few pairs
abbrev pub stops : Made → Limits → ℕ → ℕ → Bool
stops made limits a b = (is_leaf_cell made a && is_leaf_cell made b) || nat_le (count_of made a * count_of made b) limits.pairs

-- else it splits the first: the one that is no leaf, of the level with the smaller number, with the greater count, the first one
abbrev pub splits_first : Made → ℕ → ℕ → Bool
splits_first made a b =
    if is_leaf_cell made a then false
    else if is_leaf_cell made b then true
    else if (cell_at made a).cube.level == (cell_at made b).cube.level then nat_le (count_of made b) (count_of made a)
    else nat_lt (cell_at made a).cube.level (cell_at made b).cube.level

-- the span of one cell, or of two
abbrev pub span_of : ℕ → Option ℕ → Span
span_of first second = record { first = first; second = second }

-- the spans of a look at two cells, with so many looks below it
unfoldable pub pair_spans : Made → List Bool → Limits → ℕ → ℕ → ℕ → List Span
pair_spans made due limits zero a b = []
pair_spans made due limits (suc looks) a b =
    if drops made due limits a b then []
    else if stops made limits a b then span_of a (Some b) ∷ []
    else if splits_first made a b then flat_map (λ child. pair_spans made due limits looks child b) (children_of made a)
    else flat_map (λ child. pair_spans made due limits looks a child) (children_of made b)

-- each two of a list, in the order of the first and then of the second
abbrev pub twos : List ℕ → List (ℕ × ℕ)
twos [] = []
twos (x ∷ xs) = map (λ y. (x, y)) xs ++ twos xs

-- each split goes down a level in one of two cells, and there is a look before the first
abbrev pub most_looks : ℕ
most_looks = 2 * deepest_level + 1

-- the spans of a look at one cell: it drops the cell where no member is due, gives its span where it is a leaf or has few pairs, and
-- else looks at each child and then at each two of them
unfoldable pub self_spans : Made → List Bool → Limits → ℕ → ℕ → List Span
self_spans made due limits zero cell = []
self_spans made due limits (suc looks) cell =
    if not (has_due made due cell) then []
    else if is_leaf_cell made cell || nat_le (count_of made cell * count_of made cell) limits.pairs then span_of cell None ∷ []
    else
    flat_map (self_spans made due limits looks) (children_of made cell)
    ++ flat_map (λ two. pair_spans made due limits most_looks two.0 two.1) (twos (children_of made cell))

-- the spans of a tree
abbrev pub spans_of : Made → List Bool → Limits → List Span
spans_of made due limits = self_spans made due limits most_looks 0
