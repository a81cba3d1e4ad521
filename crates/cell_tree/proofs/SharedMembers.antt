-- Which cells share members: a cell has all points that its cube holds.
use Rattle.std.proofs.Common.{◌≡◌, ℕ, ◌<◌, ◌≤◌, eqb, [], length, slice_index_or, arith, true}
use Rattle.std.specs.List.{Contains}
use Rattle.std.proofs.lemmas.Bool.{eq-eqb}
use Rattle.lists.proofs.Ranges.{Contains-numbers}
use Rattle.lists.proofs.Elements.{Contains-filter}
use Rattle.cell_geom.specs.Cube.{cube_holds, octant_of, child_of}
use Rattle.cell_geom.proofs.Nesting.{cube_holds-child_of, CubeContains-child_of, cube_holds-outer, CubeContains-self, CubeContains-holding, child_apart, IsCube-child, octant-below}
use Rattle.cell_tree.specs.Tree.{Made, Cell, child_cell, cells_of, cell_at, lies_in}
use Rattle.cell_tree.specs.Laws.{CanBeMade}
use Rattle.cell_tree.specs.inner.Nodes.{IsSound}
use Rattle.cell_tree.proofs.Counts.{octant_in}
use Rattle.cell_tree.proofs.Members.{IsSound-child, IsSound-root, root, sound_at}
use Rattle.cell_tree.proofs.Shape.{each_below}
use Rattle.cell_tree.proofs.Under.{IsSplit}

-- the cell has all points that its cube holds
record IsFilled (made : Made) (cell : Cell) : Type 0 where
  sound : IsSound made cell
  all : (i : ℕ) → i < length made.points → cube_holds cell.cube (slice_index_or made.points i []) → Contains cell.members i

-- so has an octant of it
IsFilled-child : (made : Made) (cell : Cell) (octant : ℕ) → IsFilled made cell → IsSplit made cell → octant < 8 → 0 < length (child_cell made.points cell octant).members → IsFilled made (child_cell made.points cell octant)
IsFilled-child made cell octant filled split l some = record {
  sound = IsSound-child made cell octant filled.sound split l some;
  all = λ i m h.
      let point = slice_index_or made.points i [] in
      let level = split.level in
      let other = octant_of cell.cube.level point in
      let outer = cube_holds-outer cell.cube (child_of cell.cube octant) point (IsCube-child cell.cube octant split.level filled.sound.held.in_box) (CubeContains-child_of cell.cube octant) h in
      let inner = cube_holds-child_of cell.cube point split.level outer in
      let lies = CubeContains-holding (child_of cell.cube other) (child_of cell.cube octant) point (omega arith) (omega arith) inner h in
      let same = child_apart cell.cube (child_of cell.cube octant) other octant (octant-below cell.cube.level point) l lies (CubeContains-self (child_of cell.cube octant)) in
      Contains-filter (λ k. eqb (octant_in made cell k) octant) cell.members i (eq-eqb other octant same) (filled.all i m outer);
}

module _ (made : Made) (can : CanBeMade made) where
  -- a cell has all points that its cube holds
  pub is_member : (cell i : ℕ) → cell < length (cells_of made) → i < length made.points → cube_holds (cell_at made cell).cube (slice_index_or made.points i []) → Contains (cell_at made cell).members i
  is_member cell i l =
      (each_below made (IsFilled made) (IsFilled-child made) (root made) (record { sound = IsSound-root made can; all = λ i m h. Contains-numbers (length made.points) i m }) cell l).all i

  -- the cube of a cell holds its members
  pub is_held : (cell i : ℕ) → cell < length (cells_of made) → Contains (cell_at made cell).members i → (i < length made.points) × cube_holds (cell_at made cell).cube (slice_index_or made.points i [])
  is_held cell i l c = (sound_at made can cell l).held.each i c

  -- what an inner cell has the outer one has
  pub outer_member : (a b i : ℕ) → a < length (cells_of made) → b < length (cells_of made) → lies_in made a b ≡ true → Contains (cell_at made b).members i → Contains (cell_at made a).members i
  outer_member a b i l m h c =
      let w = is_held b i m c in
      is_member a i l w.0 (cube_holds-outer (cell_at made a).cube (cell_at made b).cube (slice_index_or made.points i []) (sound_at made can b m).held.in_box h w.1)

  -- of two cells that share a member the one of the smaller level contains the other
  pub holds_sharing : (a b i : ℕ) → a < length (cells_of made) → b < length (cells_of made) → (cell_at made a).cube.level ≤ (cell_at made b).cube.level
      → Contains (cell_at made a).members i → Contains (cell_at made b).members i → lies_in made a b ≡ true
  holds_sharing a b i l m low c d =
      CubeContains-holding (cell_at made a).cube (cell_at made b).cube (slice_index_or made.points i []) low (sound_at made can b m).held.in_box.level (is_held a i l c).1 (is_held b i m d).1
