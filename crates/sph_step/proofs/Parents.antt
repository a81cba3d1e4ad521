-- The work's cells contain one another just as the tree's do.
use Rattle.std.proofs.Common.{◌≡◌, ℕ, ◌<◌, true, false, length, Option, Some, refl, subst, sym, ◌∙◌}
use Rattle.std.specs.Prelude.{MatchOption}
use Rattle.std.proofs.lemmas.Bool.{true≢false, false_from_ne_true}
use Rattle.cell_tree.specs.Tree.{IsParent, Made, cells_of, lies_in}
use Rattle.cell_tree.proofs.Above.{FollowsParents, above-from_lies_in, lies_in-from_above}
use Rattle.qs_core.specs.Shape.{AreApart, CellContains, ancestors, cells_up, parent_of}
use Rattle.sph_step.specs.declared.stage.StagePlan.{StagePlan}
use Rattle.sph_step.specs.Made.{TellsCells}
use Rattle.sph_step.specs.Stage.{shape_of}

module _ (made : Made) (plan : StagePlan) (cells : TellsCells made plan) where
  -- the parent that the work tells is the tree's
  pub told_parent : (cell above : ℕ) → cell < length (cells_of made) → parent_of (shape_of plan) cell ≡ Some above → IsParent made above cell
  told_parent cell above within e = subst (λ (o : Option ℕ). MatchOption o (cell ≡ 0) (λ parent. IsParent made parent cell)) e (cells.parents cell within)

  follows : FollowsParents (parent_of (shape_of plan)) (cells_up (shape_of plan))
  follows = record { no_step = λ up. refl; no_cell = λ n. refl; next = λ n cell. refl }

  -- what a cell contains lies in it
  lies_in-from_contains : (outer inner : ℕ) → inner < length (cells_of made) → CellContains (shape_of plan) outer inner → lies_in made outer inner ≡ true
  unfolding ancestors
  lies_in-from_contains outer inner within c = lies_in-from_above made (parent_of (shape_of plan)) cells.parents (cells_up (shape_of plan)) follows outer inner within c

  contains-from_lies_in : (outer inner : ℕ) → outer < length (cells_of made) → inner < length (cells_of made) → lies_in made outer inner ≡ true → CellContains (shape_of plan) outer inner
  unfolding ancestors
  contains-from_lies_in outer inner l within t = above-from_lies_in made (parent_of (shape_of plan)) cells.parents (cells_up (shape_of plan)) follows outer inner l within t

  -- so cells are apart just where neither lies in the other
  pub AreApart-from_lies_in : (a b : ℕ) → a < length (cells_of made) → b < length (cells_of made) → lies_in made a b ≡ false → lies_in made b a ≡ false → AreApart (shape_of plan) a b
  AreApart-from_lies_in a b l m not_in not_round = record {
    not_above = λ c. true≢false (sym (lies_in-from_contains a b m c) ∙ not_in);
    not_below = λ c. true≢false (sym (lies_in-from_contains b a l c) ∙ not_round);
  }

  pub lies_in-from_AreApart : (a b : ℕ) → a < length (cells_of made) → b < length (cells_of made) → AreApart (shape_of plan) a b → (lies_in made a b ≡ false) × (lies_in made b a ≡ false)
  lies_in-from_AreApart a b l m apart = (
    false_from_ne_true (lies_in made a b) (λ t. apart.not_above (contains-from_lies_in a b l m t)),
    false_from_ne_true (lies_in made b a) (λ t. apart.not_below (contains-from_lies_in b a m l t)),
  )
