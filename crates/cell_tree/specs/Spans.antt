-- Spans: one cell of a tree, or two cells of which neither contains the other.
use Rattle.std.specs.Prelude.{◌≡◌, ℕ, ◌<◌, Bool, false, List, filter, length, Option, Some, None, ⊤}
use Rattle.std.specs.List.{range_with_len}
use Rattle.cell_tree.specs.declared.tree.Span.{Span}
use Rattle.cell_tree.specs.Tree.{Made, cell_at, cells_of, is_leaf, lies_in}
use Rattle.sph_num.specs.Cover.{Group}

-- the number of a cell's members
abbrev pub count_of : Made → ℕ → ℕ
count_of made cell = length (cell_at made cell).members

-- the cell of this number is a leaf
abbrev pub is_leaf_cell : Made → ℕ → Bool
is_leaf_cell made cell = is_leaf made (cell_at made cell)

-- the cells that are leaves, rising: the leaf of number k is the one at k
abbrev pub leaf_cells : Made → List ℕ
leaf_cells made = filter (is_leaf_cell made) (range_with_len 0 (length (cells_of made)))

-- the second of two cells, where there is one, is a cell of the tree, and neither contains the other
abbrev pub IsOtherCell : Made → ℕ → Option ℕ → Type 0
IsOtherCell made first None = ⊤
IsOtherCell made first (Some second) =
    (second < length (cells_of made)) × (lies_in made first second ≡ false) × (lies_in made second first ≡ false)

-- the span's cells are cells of the tree, and of two neither contains the other
pub record IsSpan (made : Made) (span : Span) : Type 0 where
  pub first : span.first < length (cells_of made)
  pub second : IsOtherCell made span.first span.second

-- the members of a span's cells
abbrev pub second_members : Made → Option ℕ → Option (List ℕ)
second_members made None = None
second_members made (Some cell) = Some (cell_at made cell).members

abbrev pub group_of : Made → Span → Group
group_of made span = record { first = (cell_at made span.first).members; second = second_members made span.second }
