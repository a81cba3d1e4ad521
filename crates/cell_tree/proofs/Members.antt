-- Which points the cells of a tree have as their members.
use Rattle.std.proofs.Common.{◌≡◌, ℕ, zero, suc, ◌+◌, ◌/◌, ◌^◌, ◌<◌, ◌≤◌, true, false, eqb, List, ◌∷◌, length, get_or, slice_index, slice_index_or, refl, sym, ap, ◌∙◌, subst, inl, inr, length-append, arith, []}
use Rattle.std.specs.List.{Contains, range_with_len}
use Rattle.std.proofs.lemmas.Bool.{cases_eq, eqb-true, eq-eqb, ne_eqb}
use Rattle.std.proofs.lemmas.List.{get_or_append_left, get_or-append-add}
use Rattle.std.proofs.lemmas.List.FromFn.{length-range_with_len}
use Rattle.lists.proofs.Ranges.{below_from_numbers}
use Rattle.lists.proofs.Elements.{Contains-filter, Contains-from_filter, passes_from_filter}
use Rattle.cell_geom.specs.Cube.{cube_holds, child_of}
use Rattle.sph_num.proofs.Ring.{coordinate-lt}
use Rattle.cell_geom.proofs.Nesting.{each_axis, cube_holds-child_of, octant-below, IsCube-child}
use Rattle.cell_tree.specs.Tree.{Made, Cell, child_cell, cells_of, cell_at, root_cube, no_cell, is_leaf}
use Rattle.cell_tree.specs.Laws.{CanBeMade}
use Rattle.cell_tree.specs.inner.Nodes.{IsSound}
use Rattle.cell_tree.specs.inner.Under.{cells_under, cells_in, cells_of_octants}
use Rattle.cell_tree.proofs.Counts.{octant_in}
use Rattle.cell_tree.proofs.Shape.{at, each_below}
use Rattle.cell_tree.proofs.Under.{IsSplit, cells_under_induction}

-- an octant of a sound cell is sound
pub IsSound-child : (made : Made) (cell : Cell) (octant : ℕ) → IsSound made cell → IsSplit made cell → octant < 8 → 0 < length (child_cell made.points cell octant).members → IsSound made (child_cell made.points cell octant)
IsSound-child made cell octant s split l some = record {
  some = some;
  held = record {
    in_box = IsCube-child cell.cube octant split.level s.held.in_box;
    each = λ index c.
        let p = λ (i : ℕ). eqb (octant_in made cell i) octant in
        let w = s.held.each index (Contains-from_filter p cell.members index c) in
        let e = eqb-true (octant_in made cell index) octant (passes_from_filter p cell.members index c) in
        (w.0, subst (λ o. cube_holds (child_of cell.cube o) (slice_index_or made.points index [])) e (cube_holds-child_of cell.cube (slice_index_or made.points index []) split.level w.1));
  };
}

-- the cells below a sound cell are sound
pub sound_below : (made : Made) (cell : Cell) → IsSound made cell → (i : ℕ) → i < length (cells_under made cell) → IsSound made (at (cells_under made cell) i)
sound_below made = each_below made (IsSound made) (IsSound-child made)

-- the cell of the whole box
abbrev pub root : Made → Cell
root made = record { cube = root_cube; members = range_with_len 0 (length made.points) }

-- a coordinate of the box lies in its one cube
place_at_zero : (x : ℕ) → x < 2 ^ 20 → x / 2 ^ 20 ≡ 0
place_at_zero x h = omega arith

-- the whole box is sound
pub IsSound-root : (made : Made) → CanBeMade made → IsSound made (root made)
IsSound-root made can = record {
  some = let l = can.some in omega (arith, length-range_with_len 0 (length made.points));
  held = record {
    in_box = record { level = omega arith; three = refl; within = zeros };
    each = λ index c.
        let l = below_from_numbers (length made.points) index c in
        let place = can.places index l in
        (l, λ axis h. place_at_zero _ (coordinate-lt (slice_index_or made.points index []) axis place h) ∙ sym (zero_at axis h));
  };
}
  where
    zero_at : (axis : ℕ) → axis < 3 → slice_index (0 ∷ 0 ∷ 0 ∷ []) axis ≡ 0
    zero_at = each_axis (λ axis. slice_index (0 ∷ 0 ∷ 0 ∷ []) axis ≡ 0) refl refl refl

    zeros : (axis : ℕ) → axis < 3 → slice_index (0 ∷ 0 ∷ 0 ∷ []) axis < 1
    zeros axis h = omega (arith, zero_at axis h)

-- each cell of a tree is sound
pub sound_at : (made : Made) → CanBeMade made → (cell : ℕ) → cell < length (cells_of made) → IsSound made (cell_at made cell)
sound_at made can = sound_below made (root made) (IsSound-root made can)

-- a cell below an octant that has members is among those of the octants
pub octants_place : (made : Made) (cell : Cell) (first n octant : ℕ) → first ≤ octant → octant < first + n → 0 < length (child_cell made.points cell octant).members
    → (i : ℕ) → i < length (cells_under made (child_cell made.points cell octant))
    → (j : ℕ) × (j < length (cells_of_octants made cell first n)) × (at (cells_of_octants made cell first n) j ≡ at (cells_under made (child_cell made.points cell octant)) i)
octants_place made cell first zero octant low high some i l = absurd (omega arith)
octants_place made cell first (suc n) octant low high some i l =
    elim (cases_eq octant first) [
      | inl e ↦
          let here : cells_in made cell octant ≡ cells_under made (child_cell made.points cell octant) = let f = ne_eqb (length (child_cell made.points cell octant).members) 0 (λ e. omega arith) in rw f refl in
          let there : cells_in made cell first ≡ cells_under made (child_cell made.points cell octant) = ap (cells_in made cell) (sym e) ∙ here in
          let l' : i < length (cells_in made cell first) = rw there l in (
            i,
            omega (arith, length-append (cells_in made cell first) (cells_of_octants made cell (first + 1) n)),
            get_or_append_left (cells_in made cell first) (cells_of_octants made cell (first + 1) n) no_cell i l' ∙ ap (λ cells. at cells i) there,
          )
      | inr ne ↦
          let w = octants_place made cell (first + 1) n octant (omega arith) (omega arith) some i l in (
            length (cells_in made cell first) + w.0,
            (let q = w.1 in omega (arith, length-append (cells_in made cell first) (cells_of_octants made cell (first + 1) n))),
            get_or-append-add (cells_in made cell first) (cells_of_octants made cell (first + 1) n) w.0 no_cell ∙ w.2,
          )
    ]

-- a leaf of the list has the point
pub record HasInLeaf (made : Made) (cells : List Cell) (index : ℕ) : Type 0 where
  pub place : ℕ
  pub within : place < length cells
  pub leaf : is_leaf made (at cells place) ≡ true
  pub member : Contains (at cells place).members index

-- each member of a cell is in a leaf below it
pub members_in_leaves : (made : Made) (cell : Cell) (index : ℕ) → Contains cell.members index → HasInLeaf made (cells_under made cell) index
members_in_leaves made =
    cells_under_induction made (λ cell cells. (index : ℕ) → Contains cell.members index → HasInLeaf made cells index)
    (λ cell t index c. record { place = 0; within = omega arith; leaf = t; member = c }) split
  where
    split : (cell : Cell) → is_leaf made cell ≡ false
        → ((octant : ℕ) (index : ℕ) → Contains (child_cell made.points cell octant).members index → HasInLeaf made (cells_under made (child_cell made.points cell octant)) index)
        → (index : ℕ) → Contains cell.members index → HasInLeaf made (cell ∷ cells_of_octants made cell 0 8) index
    split cell f ih index c =
        let octant = octant_in made cell index in
        let below = octant-below cell.cube.level (get_or made.points index []) in
        let c' = Contains-filter (λ i. eqb (octant_in made cell i) octant) cell.members index (eq-eqb octant octant refl) c in
        let w = ih octant index c' in
        let p = octants_place made cell 0 8 octant (omega arith) (omega arith) (let l = c'.1 in omega arith) w.place w.within in
        record {
          place = suc p.0;
          within = let l = p.1 in omega arith;
          leaf = ap (is_leaf made) p.2 ∙ w.leaf;
          member = subst (λ (d : Cell). Contains d.members index) (sym p.2) w.member;
        }
