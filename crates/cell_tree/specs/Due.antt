-- Which cells of a tree have a due member, and how many of its leaves do.
use Rattle.std.specs.Prelude.{◌≡◌, ℕ, ◌+◌, ◌<◌, Bool, false, if◌then◌else◌, List, length, slice_index, get_or}
use Rattle.std.specs.List.{list_any}
use Rattle.cell_tree.specs.Tree.{Made, cell_at, leaf_count, IsLeafCell}

-- some member of the cell is due
abbrev pub has_due : Made → List Bool → ℕ → Bool
has_due made due cell = list_any (λ i. get_or due i false) (cell_at made cell).members

-- the leaf of this number counts where one of its members is due
pub record CountsLeaf (made : Made) (due : List Bool) (before : List ℕ) (leaf : ℕ) : Type 0 where
  pub cell : ℕ
  pub is : IsLeafCell made leaf cell
  pub step : slice_index before (leaf + 1) ≡ slice_index before leaf + (if has_due made due cell then 1 else 0)

-- how many of the leaves before each leaf have a due member, and how many of all
pub record AreDueBefore (made : Made) (due : List Bool) (before : List ℕ) : Type 0 where
  pub long : length before ≡ leaf_count made + 1
  pub first : slice_index before 0 ≡ 0
  pub each : (leaf : ℕ) → leaf < leaf_count made → CountsLeaf made due before leaf
