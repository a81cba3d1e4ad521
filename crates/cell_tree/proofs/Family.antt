-- Which cells of a tree are children of which, by the runs of cells that subtrees take.
use Rattle.std.proofs.Common.{◌≡◌, ℕ, suc, ◌+◌, ◌-◌, ◌<◌, ◌≤◌, true, false, eqb, [], length, slice_index_or, refl, ap, subst, inl, inr, arith}
use Rattle.std.proofs.lemmas.Bool.{cases_order, cases_Bool, eq-eqb}
use Rattle.std.proofs.lemmas.List.Elements.{Contains-get_or}
use Rattle.cell_tree.specs.Laws.{CanBeMade}
use Rattle.cell_tree.specs.Tree.{Made, child_cell, cells_of, cell_at, is_leaf, IsParent, lies_in}
use Rattle.cell_geom.proofs.Nesting.{CubeContains-trans, CubeContains-turned, octant-below, level_within, octant_within}
use Rattle.cell_tree.proofs.Counts.{octant_in}
use Rattle.cell_tree.proofs.Members.{sound_at, octants_place}
use Rattle.cell_tree.proofs.Partition.{tree_nests, tree_parents}
use Rattle.cell_tree.proofs.Shape.{size_in, cells_under-first}
use Rattle.cell_tree.proofs.Under.{cells_under-split}
use Rattle.lists.proofs.Elements.{Contains-filter}

-- how many cells the subtree of the cell of this number has
abbrev pub size_at : Made → ℕ → ℕ
size_at made cell = size_in made (cell_at made cell)

-- a subtree has its cell
pub size_some : (made : Made) (cell : ℕ) → 0 < size_at made cell
size_some made cell = (cells_under-first made (cell_at made cell)).some

module _ (made : Made) where
  -- a run ends within the list
  pub run_within : (i : ℕ) → i < length (cells_of made) → i + size_at made i ≤ length (cells_of made)
  run_within = (tree_nests made).within

  -- a cell contains just the cells of its run
  pub run_inside : (i j : ℕ) → i < length (cells_of made) → i ≤ j → j < i + size_at made i → lies_in made i j ≡ true
  run_inside = (tree_nests made).inside

  -- what a cell contains stands in its run
  pub run_outside : (i j : ℕ) → i < length (cells_of made) → j < length (cells_of made) → lies_in made i j ≡ true → (i ≤ j) × (j < i + size_at made i)
  run_outside = (tree_nests made).outside

  -- a cell that another contains, and that comes later, is of a lower level
  pub level_deeper : (i j : ℕ) → i < j → j < length (cells_of made) → lies_in made i j ≡ true → (cell_at made i).cube.level < (cell_at made j).cube.level
  level_deeper i j l m h =
      elim (cases_order (cell_at made i).cube.level (cell_at made j).cube.level) [
        | inl e ↦ let w = run_outside j i m (omega arith) (CubeContains-turned (cell_at made i).cube (cell_at made j).cube e h) in absurd (omega (arith, w.0))
        | inr o ↦ elim o [ inl d ↦ d | inr u ↦ let a = level_within (cell_at made i).cube (cell_at made j).cube h in absurd (omega arith) ]
      ]

  -- a run that begins in another ends in it
  pub run_nested : (i j : ℕ) → i < length (cells_of made) → i ≤ j → j < i + size_at made i → j + size_at made j ≤ i + size_at made i
  run_nested i j l low high =
      let within = run_within i l in
      let s = size_some made j in
      let j_in : j < length (cells_of made) = omega arith in
      let within' = run_within j j_in in
      let a = run_inside i j l low high in
      let b = run_inside j (j + size_at made j - 1) j_in (omega arith) (omega arith) in
      let w = run_outside i (j + size_at made j - 1) l (omega arith) (CubeContains-trans (cell_at made i).cube (cell_at made j).cube (cell_at made (j + size_at made j - 1)).cube a b) in
      omega (arith, w.1)

  -- a child is of the next level, and lies in its parent
  pub child_level : (p c : ℕ) → IsParent made p c → (cell_at made c).cube.level ≡ suc (cell_at made p).cube.level
  child_level p c q = (octant_within (cell_at made p).cube (cell_at made c).cube q.octant).0

  pub child_lies : (p c : ℕ) → IsParent made p c → lies_in made p c ≡ true
  child_lies p c q = (octant_within (cell_at made p).cube (cell_at made c).cube q.octant).1

  -- so it stands in its parent's run
  pub parent_run : (p c : ℕ) → IsParent made p c → c < p + size_at made p
  parent_run p c q = let b = q.before in let w = q.within in (run_outside p c (omega arith) w (child_lies p c q)).1

  -- a parent between two cells that nest closely is none
  parent_order : (p q c : ℕ) → IsParent made p c → IsParent made q c → p < q → ⊥
  parent_order p q c a b l =
      let e = child_level p c a in
      let f = child_level q c b in
      let w = b.within in
      let before = b.before in
      let r = parent_run p c a in
      let d = level_deeper p q l (omega arith) (run_inside p q (omega arith) (omega arith) (omega arith)) in
      omega arith

  -- a cell has one parent
  pub one_parent : (p q c : ℕ) → IsParent made p c → IsParent made q c → p ≡ q
  one_parent p q c a b =
      elim (cases_order p q) [
        | inl e ↦ e
        | inr o ↦ elim o [ inl l ↦ absurd (parent_order p q c a b l) | inr l ↦ absurd (parent_order q p c b a l) ]
      ]

  -- a cell of another's run that begins after the runs of the cells between them is a child
  pub child_from_closed : (i c : ℕ) → i < length (cells_of made) → i < c → c < i + size_at made i → ((d : ℕ) → i < d → d < c → d + size_at made d ≤ c) → IsParent made i c
  child_from_closed i c l low high closed =
      let within = run_within i l in
      let c_in : c < length (cells_of made) = omega arith in
      let w = tree_parents made c (omega arith) c_in in
      let before = w.1.before in
      let run = parent_run w.0 c w.1 in
      elim (cases_order w.0 i) [
        | inl e ↦ subst (λ k. IsParent made k c) e w.1
        | inr o ↦ elim o [
          | inl above ↦
              let a = level_deeper w.0 i above l (run_inside w.0 i (omega arith) (omega arith) (omega arith)) in
              let b = level_deeper i c low c_in (run_inside i c l (omega arith) high) in
              let e = child_level w.0 c w.1 in absurd (omega arith)
          | inr below ↦ absurd (omega (arith, closed w.0 below before))
        ]
      ]

  -- below a child no cell is a child
  pub no_child_in_run : (i c d : ℕ) → IsParent made i c → c < d → d < c + size_at made c → IsParent made i d → ⊥
  no_child_in_run i c d p low high q =
      let e = child_level i c p in
      let f = child_level i d q in
      let l = p.within in
      let a = level_deeper c d low q.within (run_inside c d l (omega arith) high) in
      omega arith

  -- a split cell has cells below it
  pub split_more : CanBeMade made → (cell : ℕ) → cell < length (cells_of made) → is_leaf made (cell_at made cell) ≡ false → 1 < size_at made cell
  split_more can cell l h =
      let c = cell_at made cell in
      let some = (sound_at made can cell l).some in
      let member = Contains-filter (λ i. eqb (octant_in made c i) (octant_in made c (slice_index_or c.members 0 0))) c.members (slice_index_or c.members 0 0) (eq-eqb _ _ refl) (Contains-get_or c.members 0 0 some) in
      let first = (cells_under-first made (child_cell made.points c (octant_in made c (slice_index_or c.members 0 0)))).some in
      let w = octants_place made c 0 8 (octant_in made c (slice_index_or c.members 0 0)) (omega arith) (omega (arith, octant-below c.cube.level (slice_index_or made.points (slice_index_or c.members 0 0) []))) (let m = member.1 in omega arith) 0 first in
      let e = ap length (cells_under-split made c h) in
      let m = w.1 in
      omega arith

  -- a subtree of one cell is a leaf
  pub leaf_from_size : CanBeMade made → (cell : ℕ) → cell < length (cells_of made) → size_at made cell ≡ 1 → is_leaf made (cell_at made cell) ≡ true
  leaf_from_size can cell l e =
      elim (cases_Bool (is_leaf made (cell_at made cell))) [ inl t ↦ t | inr f ↦ absurd (omega (arith, split_more can cell l f)) ]

  -- the last cell of a run is a leaf
  pub last_leaf : CanBeMade made → (i : ℕ) → i < length (cells_of made) → is_leaf made (cell_at made (i + size_at made i - 1)) ≡ true
  last_leaf can i l =
      let within = run_within i l in
      let s = size_some made i in
      let t = size_some made (i + size_at made i - 1) in
      let n = run_nested i (i + size_at made i - 1) l (omega arith) (omega arith) in
      leaf_from_size can (i + size_at made i - 1) (omega arith) (omega arith)
