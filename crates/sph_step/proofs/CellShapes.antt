-- The ranges of leaves that the work tells of its cells.
use Rattle.std.proofs.Common.{◌≡◌, ℕ, ◌<◌, ◌≤◌, length, Some, arith}
use Rattle.cell_tree.specs.Tree.{Made, cells_of, leaf_count}
use Rattle.cell_tree.proofs.Family.{child_lies}
use Rattle.cell_tree.proofs.LeafCells.{apart_leaves, nested_ranges}
use Rattle.qs_core.specs.Shape.{HaveOwnLeaves, IsCellShape, parent_of, range_of}
use Rattle.sph_step.specs.declared.stage.StagePlan.{StagePlan}
use Rattle.sph_step.specs.Made.{TellsCells}
use Rattle.sph_step.specs.Stage.{shape_of}
use Rattle.sph_step.proofs.Parents.{lies_in-from_AreApart, told_parent}

module _ (made : Made) (plan : StagePlan) (cells : TellsCells made plan) where
  -- a parent's range has its child's
  inside : (cell above : ℕ) → cell < length (cells_of made) → parent_of (shape_of plan) cell ≡ Some above
      → ((range_of (shape_of plan) above).0 ≤ (range_of (shape_of plan) cell).0) × ((range_of (shape_of plan) cell).1 ≤ (range_of (shape_of plan) above).1)
  inside cell above within e =
      let parent = told_parent made plan cells cell above within e in
      let before = parent.before in
      nested_ranges made above cell _ _ _ _ (cells.ranges above (omega arith)) (cells.ranges cell within) (child_lies made above cell parent)

  -- each cell keeps the laws
  pub cell_shape : length plan.scene.leaves ≡ leaf_count made → (cell : ℕ) → cell < length plan.parents.items → IsCellShape (shape_of plan) cell
  cell_shape long cell l =
      let within : cell < length (cells_of made) = omega (arith, cells.one_parent_each) in
      let below = cells.ranges cell within in
      record {
        parent = λ above e. (told_parent made plan cells cell above within e).before;
        some_leaf = below.some;
        leaves = omega (arith, below.within, long);
        inside = λ above e. inside cell above within e;
      }

  -- and no leaf is below two cells that are apart
  pub own_leaves : HaveOwnLeaves (shape_of plan)
  own_leaves a b leaf l m apart below below' =
      let l' : a < length (cells_of made) = omega (arith, cells.one_parent_each) in
      let m' : b < length (cells_of made) = omega (arith, cells.one_parent_each) in
      let w = lies_in-from_AreApart made plan cells a b l' m' apart in
      apart_leaves made a b _ _ _ _ (cells.ranges a l') (cells.ranges b m') w.0 w.1 leaf below.from below.to below'.from below'.to
