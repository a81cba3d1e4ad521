-- What is read from the lists of a tree.
use Rattle.std.proofs.Common.{◌≡◌, ℕ, ◌+◌, ◌-◌, ◌<◌, ◌≤◌, List, length, take, drop, get_or, sym, ap, ◌∙◌, subst, inl, inr, arith}
use Rattle.std.specs.List.{Contains, All}
use Rattle.std.proofs.lemmas.Bool.{cases_order}
use Rattle.std.proofs.lemmas.List.{get_or_default}
use Rattle.std.proofs.lemmas.List.Elements.{Contains-get_or}
use Rattle.std.proofs.lemmas.List.Sums.{count_by-le-length}
use Rattle.cell_tree.specs.declared.children.Children.{Children}
use Rattle.cell_tree.specs.declared.leaves.Leaf.{Leaf}
use Rattle.cell_tree.specs.Laws.{CanBeMade}
use Rattle.cell_tree.specs.inner.Parts.{AreChildren, IsLeafAt, IsTree}
use Rattle.cell_tree.specs.Tree.{Made, cells_of, cell_at, is_leaf, leaf_count, leaves_before, AreLeavesBelow, IsLeafCell, IsParent}
use Rattle.cell_tree.proofs.Family.{size_at, run_within}
use Rattle.cell_tree.proofs.LeafCounts.{leaves_before-le, leaves_before-leaf, leaves_of_run}
use Rattle.cell_tree.proofs.Members.{sound_at}
use Rattle.cell_tree.proofs.Partition.{tree_parents}

-- a leaf has no two cells
leaf_order : (made : Made) (leaf a b : ℕ) → IsLeafCell made leaf a → IsLeafCell made leaf b → a < b → ⊥
leaf_order made leaf a b p q l =
    let m = leaves_before-leaf made a p.within p.stands in
    let n = leaves_before-le made (a + 1) b (omega arith) in
    omega (arith, p.number, q.number)

-- a leaf has one cell
pub one_cell : (made : Made) (leaf a b : ℕ) → IsLeafCell made leaf a → IsLeafCell made leaf b → a ≡ b
one_cell made leaf a b p q =
    elim (cases_order a b) [
      | inl e ↦ e
      | inr o ↦ elim o [ inl l ↦ absurd (leaf_order made leaf a b p q l) | inr l ↦ absurd (leaf_order made leaf b a q p l) ]
    ]

-- there are no more leaves than cells
pub leaf_count-le : (made : Made) → leaf_count made ≤ length (cells_of made)
leaf_count-le made = count_by-le-length (is_leaf made) (cells_of made)

-- the members of a cell are points
pub members_are_points : (made : Made) → CanBeMade made → (cell : ℕ) → cell < length (cells_of made) → (members : List ℕ) → members ≡ (cell_at made cell).members → All (λ index. index < length made.points) members
members_are_points made can cell l members e k d m =
    ((sound_at made can cell l).held.each (get_or members k d) (subst (λ ms. Contains ms (get_or members k d)) e (Contains-get_or members k d m))).0

module _ (made : Made) (firsts : List ℕ) (leaves : List Leaf) (kin : Children) (t : IsTree made firsts leaves kin) where
  -- what is read as the parent is it
  pub parent_read : (cell : ℕ) → 0 < cell → cell < length (cells_of made) → (x : ℕ) → x ≡ get_or kin.parents.items cell x → IsParent made x cell
  parent_read cell some l x e =
      let w = tree_parents made cell some l in
      let here : x ≡ w.0 = e ∙ get_or_default kin.parents.items cell x 0 (omega (arith, t.long)) ∙ t.parents w.0 cell (let b = w.1.before in omega arith) w.1 in
      subst (λ p. IsParent made p cell) (sym here) w.1

  -- what is read as the children are they
  pub children_read : (cell : ℕ) → cell < length (cells_of made) → (start end : ℕ) (numbers : List ℕ) → start ≡ get_or kin.starts.items cell start → end ≡ get_or kin.starts.items (cell + 1) end
      → numbers ≡ kin.numbers.items → AreChildren made cell (take (end - start) (drop start numbers))
  children_read cell l start end numbers s e n =
      let s' : start ≡ get_or kin.starts.items cell 0 = s ∙ get_or_default kin.starts.items cell start 0 (omega (arith, t.children.long)) in
      let e' : end ≡ get_or kin.starts.items (cell + 1) 0 = e ∙ get_or_default kin.starts.items (cell + 1) end 0 (omega (arith, t.children.long)) in
      rw (s', e', n) (t.children.are cell l)

  -- what is read as the leaf is it
  pub leaf_read : (leaf : ℕ) → leaf < leaf_count made → (x : Leaf) → x ≡ get_or leaves leaf x → IsLeafAt made leaf x
  leaf_read leaf l x e = subst (IsLeafAt made leaf) (sym e) (t.are_leaves.each leaf x (omega (arith, t.are_leaves.long)))

  -- what is read as the first leaf is the count of those before
  first_read : (cell : ℕ) → cell ≤ length (cells_of made) → (x : ℕ) → x ≡ get_or firsts cell x → x ≡ leaves_before made cell
  first_read cell l x e = e ∙ get_or_default firsts cell x 0 (omega (arith, t.are_firsts.long)) ∙ t.are_firsts.counts cell l

  -- what is read as the leaves below a cell are they
  pub leaves_below_read : (cell size : ℕ) → cell < length (cells_of made) → size ≡ size_at made cell → (from to : ℕ) → from ≡ get_or firsts cell from → to ≡ get_or firsts (cell + size) to
      → AreLeavesBelow made cell from to
  leaves_below_read cell size l s from to e f =
      let r = run_within made cell l in
      let a = first_read cell (omega arith) from e in
      let b = first_read (cell + size) (omega arith) to f ∙ ap (λ n. leaves_before made (cell + n)) s in
      subst (λ n. AreLeavesBelow made cell n to) (sym a) (subst (AreLeavesBelow made cell (leaves_before made cell)) (sym b) (leaves_of_run made t.can cell l))
