-- What the lists of a tree hold.
use Rattle.std.specs.Prelude.{◌≡◌, ℕ, ◌+◌, ◌<◌, ◌≤◌, ◌++◌, ◌↔◌, List, take, map, length, slice_index, slice_index_or, Contains}
use Rattle.std.specs.List.Sorted.{IsStrictlyIncreasing}
use Rattle.std.specs.List.{slice_range}
use Rattle.cell_tree.specs.declared.children.Children.{Children}
use Rattle.cell_tree.specs.declared.leaves.Leaf.{Leaf}
use Rattle.cell_tree.specs.declared.node.Node.{Node}
use Rattle.cell_tree.specs.Laws.{CanBeMade}
use Rattle.cell_tree.specs.inner.Nodes.{node_of, members_in}
use Rattle.cell_tree.specs.Tree.{Made, cells_of, leaf_count, leaves_before, IsLeafCell, IsParent}

-- the nodes are those of the cells, and the order is that of the leaves
pub record IsGrown (made : Made) (nodes : List Node) (order : List ℕ) : Type 0 where
  pub can : CanBeMade made
  pub nodes_are : nodes ≡ map (node_of made) (cells_of made)
  pub order_is : order ≡ members_in made (cells_of made)

-- how many leaves there are before each cell, and in all
pub record AreFirsts (made : Made) (firsts : List ℕ) : Type 0 where
  pub long : length firsts ≡ length (cells_of made) + 1
  pub counts : (cell : ℕ) → cell ≤ length (cells_of made) → slice_index firsts cell ≡ leaves_before made cell

-- the leaf of this number: its cell, and where its members start in the order of the leaves
pub record IsLeafAt (made : Made) (number : ℕ) (leaf : Leaf) : Type 0 where
  pub cell : IsLeafCell made number leaf.cell
  pub start : leaf.start ≡ length (members_in made (take leaf.cell (cells_of made)))

pub record AreLeaves (made : Made) (leaves : List Leaf) : Type 0 where
  pub long : length leaves ≡ leaf_count made
  pub each : (number : ℕ) (d : Leaf) → number < length leaves → IsLeafAt made number (slice_index_or leaves number d)

-- the numbers are just those of the cell's children, rising
pub record AreChildren (made : Made) (cell : ℕ) (children : List ℕ) : Type 0 where
  pub rising : IsStrictlyIncreasing children
  pub just : (child : ℕ) → Contains children child ↔ IsParent made cell child

-- the parents of the children of the cells before this one
abbrev pub KnowsParents : Made → ℕ → List ℕ → Type 0
KnowsParents made cell parents = (parent child : ℕ) → parent < cell → IsParent made parent child → slice_index parents child ≡ parent

-- the numbers are the old ones and those of the cell's children
pub record AddsChildren (made : Made) (cell : ℕ) (old children : List ℕ) : Type 0 where
  pub added : List ℕ
  pub joined : children ≡ old ++ added
  pub are : AreChildren made cell added

-- the children of each cell before this one stand between its start and the next cell's
pub record AreChildrenOf (made : Made) (cells : ℕ) (starts children : List ℕ) : Type 0 where
  pub long : length starts ≡ cells + 1
  pub last : slice_index starts cells ≡ length children
  pub ordered : (cell : ℕ) → cell < cells → slice_index starts cell ≤ slice_index starts (cell + 1)
  pub within : (cell : ℕ) → cell < cells → slice_index starts (cell + 1) ≤ length children
  pub are : (cell : ℕ) → cell < cells → AreChildren made cell (slice_range children (slice_index starts cell) (slice_index starts (cell + 1)))

-- the lists of a tree beside its cells
pub record IsTree (made : Made) (firsts : List ℕ) (leaves : List Leaf) (kin : Children) : Type 0 where
  pub can : CanBeMade made
  pub are_firsts : AreFirsts made firsts
  pub are_leaves : AreLeaves made leaves
  pub long : length kin.parents.items ≡ length (cells_of made)
  pub parents : KnowsParents made (length (cells_of made)) kin.parents.items
  pub children : AreChildrenOf made (length (cells_of made)) kin.starts.items kin.numbers.items
