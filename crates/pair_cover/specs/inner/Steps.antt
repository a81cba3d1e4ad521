-- Which spans the steps of the looks add.
use Rattle.std.specs.Prelude.{◌≡◌, ℕ, ◌≤◌, Bool, List, ◌++◌}
use Rattle.cell_tree.specs.declared.tree.Span.{Span}
use Rattle.cell_tree.specs.Due.{AreDueBefore}
use Rattle.cell_tree.specs.Tree.{Made, cell_at}

abbrev pub level_at : Made → ℕ → ℕ
level_at made cell = (cell_at made cell).cube.level

-- for each list of due points that is counted so, and where the looks are enough, these spans are added
pub record Adds (made : Made) (before : List ℕ) (enough : ℕ) (spans : List Bool → ℕ → List Span) (old new : List Span) : Type 0 where
  pub added : (due : List Bool) (looks : ℕ) → AreDueBefore made due before → enough ≤ looks → new ≡ old ++ spans due looks
