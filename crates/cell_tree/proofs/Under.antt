-- The cells below one cell, by induction.
use Rattle.std.proofs.Common.{◌≡◌, ℕ, zero, suc, ◌+◌, ◌-◌, ◌<◌, true, false, leb, List, [], ◌∷◌, length, refl, sym, subst, inl, inr, arith}
use Rattle.std.specs.List.{flat_map, range_with_len}
use Rattle.std.proofs.lemmas.Bool.{cases_Bool, leb-true, leb-false, or_cases, or_parts}
use Rattle.cell_tree.specs.Tree.{Made, Cell, subtree, child_cell, is_leaf}
use Rattle.cell_tree.specs.inner.Under.{cells_under, cells_in}
use Rattle.cell_geom.specs.Cube.{deepest_level}

-- a cell that isn't a leaf has too many members, and a level left below it
pub record IsSplit (made : Made) (cell : Cell) : Type 0 where
  pub many : made.leaf < length cell.members
  pub level : cell.cube.level < deepest_level

-- a cell that fails the test of leaves is split
pub IsSplit-from_test : (made : Made) (cell : Cell) → is_leaf made cell ≡ false → IsSplit made cell
IsSplit-from_test made cell h =
    let w = or_parts (leb (length cell.members) made.leaf) (leb deepest_level cell.cube.level) h in
    record { many = leb-false _ _ w.0; level = leb-false _ _ w.1 }

-- with no level below there is the cell alone
subtree_zero : (made : Made) (cell : Cell) → subtree made.points made.leaf 0 cell ≡ cell ∷ []
unfolding subtree
subtree_zero made cell = refl

-- with few members there is the cell alone
subtree_few : (made : Made) (levels : ℕ) (cell : Cell) → leb (length cell.members) made.leaf ≡ true → subtree made.points made.leaf levels cell ≡ cell ∷ []
unfolding subtree
subtree_few made zero cell h = refl
subtree_few made (suc levels) cell h = rw h refl

-- a leaf has no cell below it
pub cells_under-leaf : (made : Made) (cell : Cell) → is_leaf made cell ≡ true → cells_under made cell ≡ cell ∷ []
cells_under-leaf made cell h =
    elim (or_cases (leb (length cell.members) made.leaf) (leb deepest_level cell.cube.level) h) [
      | inl few ↦ subtree_few made (deepest_level - cell.cube.level) cell few
      | inr low ↦ let l = leb-true _ _ low in let e : deepest_level - cell.cube.level ≡ 0 = omega arith in rw e (subtree_zero made cell)
    ]

-- with many members there are the octants too
subtree_many : (made : Made) (levels : ℕ) (cell : Cell) → leb (length cell.members) made.leaf ≡ false → levels ≡ deepest_level - (cell.cube.level + 1)
    → subtree made.points made.leaf (suc levels) cell ≡ cell ∷ flat_map (cells_in made cell) (range_with_len 0 8)
unfolding subtree
subtree_many made levels cell h e = rw (h, e) refl

-- a split cell has the cells of its octants below it
pub cells_under-split : (made : Made) (cell : Cell) → is_leaf made cell ≡ false → cells_under made cell ≡ cell ∷ flat_map (cells_in made cell) (range_with_len 0 8)
cells_under-split made cell h =
    let w = or_parts (leb (length cell.members) made.leaf) (leb deepest_level cell.cube.level) h in
    let l = leb-false _ _ w.1 in
    let e : deepest_level - cell.cube.level ≡ suc (deepest_level - (cell.cube.level + 1)) = omega arith in
    rw e (subtree_many made (deepest_level - (cell.cube.level + 1)) cell w.0 refl)

module _ (made : Made) (P : Cell → List Cell → Type 0)
    (leaf : (cell : Cell) → is_leaf made cell ≡ true → P cell (cell ∷ []))
    (split : (cell : Cell) → is_leaf made cell ≡ false → ((octant : ℕ) → P (child_cell made.points cell octant) (cells_under made (child_cell made.points cell octant)))
    → P cell (cell ∷ flat_map (cells_in made cell) (range_with_len 0 8))) where
  -- the induction, on how many levels lie below
  by_levels : (levels : ℕ) (cell : Cell) → deepest_level - cell.cube.level ≡ levels → P cell (cells_under made cell)
  by_levels zero cell e =
      elim (cases_Bool (is_leaf made cell)) [
        | inl t ↦ subst (P cell) (sym (cells_under-leaf made cell t)) (leaf cell t)
        | inr f ↦ let s = (IsSplit-from_test made cell f).level in absurd (omega arith)
      ]
  by_levels (suc levels) cell e =
      elim (cases_Bool (is_leaf made cell)) [
        | inl t ↦ subst (P cell) (sym (cells_under-leaf made cell t)) (leaf cell t)
        | inr f ↦ subst (P cell) (sym (cells_under-split made cell f)) (split cell f (λ octant. by_levels levels (child_cell made.points cell octant) (omega arith)))
      ]

  -- what holds of leaves, and of a split cell if it holds of its octants, holds of each cell
  pub cells_under_induction : (cell : Cell) → P cell (cells_under made cell)
  cells_under_induction cell = by_levels (deepest_level - cell.cube.level) cell refl
