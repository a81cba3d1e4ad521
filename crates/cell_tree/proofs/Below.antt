-- Which leaves lie below a cell, and which members they have.
use Rattle.std.proofs.Common.{◌≡◌, ℕ, ◌+◌, ◌-◌, ◌<◌, ◌≤◌, true, length, subst, sym, inl, inr, arith}
use Rattle.std.specs.List.{Contains}
use Rattle.std.proofs.lemmas.Bool.{cases_lt}
use Rattle.cell_geom.proofs.Nesting.{CubeContains-self}
use Rattle.cell_tree.specs.Laws.{CanBeMade, HasMember}
use Rattle.cell_tree.specs.Tree.{Made, cells_of, cell_at, is_leaf, AreLeavesBelow, IsLeafCell, lies_in}
use Rattle.cell_tree.proofs.LeafCells.{leaf_named, nested_ranges}
use Rattle.cell_tree.proofs.Partition.{leaf_alone, IsPartition-from_CanBeMade}
use Rattle.cell_tree.proofs.SharedMembers.{outer_member, holds_sharing, is_held}

module _ (made : Made) where
  -- a cell has one range of leaves
  pub one_range : (cell from to from' to' : ℕ) → AreLeavesBelow made cell from to → AreLeavesBelow made cell from' to' → (from ≡ from') × (to ≡ to')
  one_range cell from to from' to' below below' =
      let self = CubeContains-self (cell_at made cell).cube in
      let one = nested_ranges made cell cell from to from' to' below below' self in
      let other = nested_ranges made cell cell from' to' from to below' below self in
      (omega (arith, one.0, other.0), omega (arith, one.1, other.1))

  -- no other leaf lies below a leaf
  own_only : (leaf cell k from to : ℕ) → IsLeafCell made leaf cell → AreLeavesBelow made cell from to → from ≤ k → k < to → k ≡ leaf
  own_only leaf cell k from to is below low high =
      let most = below.within in
      let w = leaf_named made k (omega arith) in
      let same = leaf_alone made cell w.0 is.within w.1.within is.stands (below.inside k w.0 w.1 low high) in
      let named = subst (IsLeafCell made k) (sym same) w.1 in
      omega (arith, is.number, named.number)

  -- so a leaf's range is its own number alone
  pub own_range : (leaf cell from to : ℕ) → IsLeafCell made leaf cell → AreLeavesBelow made cell from to → (from ≡ leaf) × (to ≡ leaf + 1)
  own_range leaf cell from to is below =
      let some = below.some in
      let first = own_only leaf cell from from to is below (omega arith) some in
      let last = own_only leaf cell (to - 1) from to is below (omega arith) (omega arith) in
      (first, omega arith)

module _ (made : Made) (can : CanBeMade made) where
  -- a leaf that shares a member with a cell lies in it
  leaf_lies : (cell at index : ℕ) → cell < length (cells_of made) → at < length (cells_of made) → is_leaf made (cell_at made at) ≡ true
      → Contains (cell_at made cell).members index → Contains (cell_at made at).members index → lies_in made cell at ≡ true
  leaf_lies cell at index l m leaf c d =
      elim (cases_lt (cell_at made at).cube.level (cell_at made cell).cube.level) [
        | inl low ↦
            let same = leaf_alone made at cell m l leaf (holds_sharing made can at cell index m l (omega arith) d c) in
            subst (λ k. lies_in made k at ≡ true) same (CubeContains-self (cell_at made at).cube)
        | inr low ↦ holds_sharing made can cell at index l m low c d
      ]

  -- a member of a cell is one of a leaf below it
  pub member_below : (cell from to index : ℕ) → cell < length (cells_of made) → AreLeavesBelow made cell from to → Contains (cell_at made cell).members index
      → (leaf : ℕ) × (at : ℕ) × HasMember made leaf at index × (from ≤ leaf) × (leaf < to)
  member_below cell from to index l below c =
      let p = (IsPartition-from_CanBeMade made can).leaf_of_point index (is_held made can cell index l c).0 in
      let is = p.2.is_leaf in
      let r = below.outside p.0 p.1 is (leaf_lies cell p.1 index l is.within is.stands c p.2.member) in
      (p.0, p.1, p.2, r.0, r.1)

  -- and a member of a leaf below it is its own
  pub below_member : (cell from to leaf at index : ℕ) → cell < length (cells_of made) → AreLeavesBelow made cell from to → HasMember made leaf at index → from ≤ leaf → leaf < to → Contains (cell_at made cell).members index
  below_member cell from to leaf at index l below has low high =
      outer_member made can cell at index l has.is_leaf.within (below.inside leaf at has.is_leaf low high) has.member
