-- The leaves of a tree part its points.
use Rattle.std.proofs.Common.{◌≡◌, ℕ, ◌<◌, ◌≤◌, true, [], length, slice_index_or, refl, sym, ap, ◌∙◌, inl, inr, arith}
use Rattle.std.specs.List.{Contains}
use Rattle.std.proofs.lemmas.Bool.{cases_lt}
use Rattle.lists.proofs.Ranges.{Contains-numbers}
use Rattle.cell_tree.specs.Tree.{Made, Cell, cells_of, cell_at, is_leaf, leaves_before, IsParent, lies_in}
use Rattle.cell_tree.specs.Laws.{CanBeMade, HasMember, IsPartition}
use Rattle.cell_geom.proofs.Nesting.{CubeContains-holding}
use Rattle.cell_tree.proofs.Members.{root, sound_at, members_in_leaves}
use Rattle.cell_tree.proofs.Shape.{size_in, NestedCells, cells_under-nested, cells_under-parents}
use Rattle.cell_tree.proofs.Under.{cells_under-leaf}

-- the cells of a tree nest
pub tree_nests : (made : Made) → NestedCells made (cells_of made)
tree_nests made = cells_under-nested made (root made)

-- each cell but the first has a parent
pub tree_parents : (made : Made) (cell : ℕ) → 0 < cell → cell < length (cells_of made) → (parent : ℕ) × IsParent made parent cell
tree_parents made cell low l =
    let w = cells_under-parents made (root made) cell low l in
    (w.0, record { before = w.1.before; within = l; octant = w.1.octant })

-- a leaf is a subtree of one cell
pub size_of-leaf : (made : Made) (cell : Cell) → is_leaf made cell ≡ true → size_in made cell ≡ 1
size_of-leaf made cell h = ap length (cells_under-leaf made cell h)

-- a leaf contains no cell but itself
pub leaf_alone : (made : Made) (a b : ℕ) → a < length (cells_of made) → b < length (cells_of made) → is_leaf made (cell_at made a) ≡ true → lies_in made a b ≡ true → a ≡ b
leaf_alone made a b l m h r =
    let w = (tree_nests made).outside a b l m r in
    let e = size_of-leaf made (cell_at made a) h in
    omega (arith, w.0, w.1)

-- leaves that share a member are one, if the first is of no lower level
same_leaf_ordered : (made : Made) → CanBeMade made → (a b index : ℕ) → a < length (cells_of made) → b < length (cells_of made)
    → is_leaf made (cell_at made a) ≡ true → Contains (cell_at made a).members index → Contains (cell_at made b).members index
    → (cell_at made a).cube.level ≤ (cell_at made b).cube.level → a ≡ b
same_leaf_ordered made can a b index l m h p q low =
    let s = sound_at made can a l in
    let t = sound_at made can b m in
    leaf_alone made a b l m h
    (CubeContains-holding (cell_at made a).cube (cell_at made b).cube (slice_index_or made.points index []) low t.held.in_box.level (s.held.each index p).1 (t.held.each index q).1)

-- leaves that share a member are one
pub same_leaf : (made : Made) → CanBeMade made → (a b leaf leaf' index : ℕ) → HasMember made leaf a index → HasMember made leaf' b index → a ≡ b
same_leaf made can a b leaf leaf' index p q =
    let low = p.is_leaf.within in
    let high = q.is_leaf.within in
    elim (cases_lt (cell_at made a).cube.level (cell_at made b).cube.level) [
      | inl l ↦ same_leaf_ordered made can a b index p.is_leaf.within q.is_leaf.within p.is_leaf.stands p.member q.member (omega arith)
      | inr l ↦ sym (same_leaf_ordered made can b a index q.is_leaf.within p.is_leaf.within q.is_leaf.stands q.member p.member l)
    ]

-- the law of every tree
pub IsPartition-from_CanBeMade : (made : Made) → CanBeMade made → IsPartition made
IsPartition-from_CanBeMade made can = record {
  leaf_of_point = λ index l.
      let w = members_in_leaves made (root made) index (Contains-numbers (length made.points) index l) in
      (leaves_before made w.place, w.place, record { is_leaf = record { within = w.within; stands = w.leaf; number = refl }; member = w.member });
  just_one = λ index leaf leaf' cell cell' p q. sym p.is_leaf.number ∙ ap (leaves_before made) (same_leaf made can cell cell' leaf leaf' index p q) ∙ q.is_leaf.number;
  cubes = λ cell l. (sound_at made can cell l).held.in_box;
  holds = λ cell index l c. (sound_at made can cell l).held.each index c;
}
