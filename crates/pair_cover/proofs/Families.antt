-- Each member of a split cell is in just one of its children.
use Rattle.std.proofs.Common.{◌≡◌, ℕ, zero, suc, ◌<◌, ◌≤◌, Bool, true, false, List, filter, length, get_or, count_by, sym, ap, ◌∙◌, subst, inl, inr, arith}
use Rattle.std.specs.List.{Contains, sum_by}
use Rattle.std.proofs.lemmas.Bool.{cases_lt, cases_eq, cases_order, true≢false}
use Rattle.std.proofs.lemmas.List.Kept.{AllPairs-filter, AllPairs-from_increasing}
use Rattle.std.proofs.lemmas.List.Sums.{length-filter}
use Rattle.lists.proofs.Elements.{Contains-filter, passes_from_filter}
use Rattle.lists.proofs.Ranges.{Contains-numbers}
use Rattle.lists.proofs.Rising.{same_rising, count_one}
use Rattle.lists.proofs.Sums.{parts_most, sum_by-le_each, sum_by-none}
use Rattle.sph_num.specs.Cover.{is_member}
use Rattle.std.proofs.lemmas.List.Folds.{list_any_at}
use Rattle.cell_tree.specs.Due.{has_due}
use Rattle.cell_tree.specs.Laws.{CanBeMade}
use Rattle.cell_tree.specs.Spans.{count_of}
use Rattle.cell_tree.specs.Tree.{Made, cells_of, cell_at, is_leaf, lies_in, IsParent}
use Rattle.cell_tree.proofs.Bounds.{members_rise}
use Rattle.cell_tree.proofs.Family.{run_inside, run_outside, level_deeper, parent_run, child_level, child_lies}
use Rattle.cell_tree.proofs.Members.{root}
use Rattle.cell_tree.proofs.Partition.{tree_parents, leaf_alone, IsPartition-from_CanBeMade}
use Rattle.cell_tree.proofs.Shape.{cells_under-first}
use Rattle.cell_tree.proofs.SharedMembers.{is_held, outer_member, holds_sharing}
use Rattle.pair_cover.specs.Looks.{children_of}
use Rattle.pair_cover.proofs.ChildLists.{children_rise, IsParent-from_children, children-from_IsParent}
use Rattle.pair_cover.proofs.Shares.{share, share_cases, share_other, share_member, member_from_test, test_from_member}
use Rattle.pair_cover.proofs.Sums.{sum_by-only}

-- the whole box has each point
pub in_root : (made : Made) (i : ℕ) → i < length made.points → share (cell_at made 0).members i ≡ 1
in_root made i l =
    let first = (cells_under-first made (root made)).first in
    share_member (cell_at made 0).members i (subst (λ c. Contains c.members i) (sym first) (Contains-numbers (length made.points) i l))

-- a cell with no due member has no due point
pub no_due_member : (made : Made) (due : List Bool) (cell i : ℕ) → has_due made due cell ≡ false → get_or due i false ≡ true → share (cell_at made cell).members i ≡ 0
no_due_member made due cell i f d =
    share_other (cell_at made cell).members i (λ c.
    true≢false (sym (list_any_at (λ k. get_or due k false) (cell_at made cell).members c.0 i c.1 (ap (λ k. get_or due k false) c.2 ∙ d)) ∙ f))

module _ (made : Made) (can : CanBeMade made) where
  -- two cells of one level that share a member are one
  pub same_cell : (a b i : ℕ) → a < length (cells_of made) → b < length (cells_of made) → (cell_at made a).cube.level ≡ (cell_at made b).cube.level
      → Contains (cell_at made a).members i → Contains (cell_at made b).members i → a ≡ b
  same_cell a b i l m e c d =
      let up = run_outside made a b l m (holds_sharing made can a b i l m (omega arith) c d) in
      let down = run_outside made b a m l (holds_sharing made can b a i m l (omega arith) d c) in
      let p = up.0 in let q = down.0 in
      omega arith

  -- a cell below this one that has the point lies in a child that has it
  child_above : (cell i fuel d : ℕ) → d ≤ fuel → cell < d → d < length (cells_of made) → lies_in made cell d ≡ true → Contains (cell_at made d).members i
      → (child : ℕ) × IsParent made cell child × Contains (cell_at made child).members i
  child_above cell i zero d few low l h c = absurd (omega arith)
  child_above cell i (suc fuel) d few low l h c =
      let w = tree_parents made d (omega arith) l in
      let before = w.1.before in
      let next = child_level made w.0 d w.1 in
      let run = parent_run made w.0 d w.1 in
      let own = (run_outside made cell d (omega arith) l h).1 in
      elim (cases_order w.0 cell) [
        | inl e ↦ (d, subst (λ k. IsParent made k d) e w.1, c)
        | inr o ↦ elim o [
          | inl below ↦
              let inside = run_inside made w.0 cell (omega arith) (omega arith) (omega arith) in
              let p = level_deeper made w.0 cell below (omega arith) inside in
              let q = level_deeper made cell d low l h in
              absurd (omega arith)
          | inr above ↦
              child_above cell i fuel w.0 (omega arith) above (omega arith) (run_inside made cell w.0 (omega arith) (omega arith) (omega arith))
              (outer_member made can w.0 d i (omega arith) l (child_lies made w.0 d w.1) c)
        ]
      ]

  -- a member of a split cell is in a child
  pub child_with : (cell i : ℕ) → cell < length (cells_of made) → is_leaf made (cell_at made cell) ≡ false → Contains (cell_at made cell).members i
      → (child : ℕ) × IsParent made cell child × Contains (cell_at made child).members i
  child_with cell i l f c =
      let w = (IsPartition-from_CanBeMade made can).leaf_of_point i (is_held made can cell i l c).0 in
      let d = w.1 in
      let m = w.2.is_leaf.within in
      elim (cases_lt (cell_at made cell).cube.level (cell_at made d).cube.level) [
        | inl deep ↦
            let h = holds_sharing made can cell d i l m (omega arith) c w.2.member in
            let r = (run_outside made cell d l m h).0 in
            elim (cases_eq cell d) [
              | inl e ↦ let e' = ap (λ k. (cell_at made k).cube.level) e in absurd (omega arith)
              | inr ne ↦ child_above cell i d d (omega arith) (omega arith) m h w.2.member
            ]
        | inr high ↦
            let same = leaf_alone made d cell m l w.2.is_leaf.stands (holds_sharing made can d cell i m l high w.2.member c) in
            absurd (true≢false (sym w.2.is_leaf.stands ∙ ap (λ k. is_leaf made (cell_at made k)) same ∙ f))
      ]

  -- the children of a split cell share its members out
  pub sum_by-children : (cell i : ℕ) → cell < length (cells_of made) → is_leaf made (cell_at made cell) ≡ false
      → sum_by (λ child. share (cell_at made child).members i) (children_of made cell) ≡ share (cell_at made cell).members i
  sum_by-children cell i l f =
      let of_child = λ (k : ℕ). share (cell_at made k).members i in
      elim (share_cases (cell_at made cell).members i) [
        | inl w ↦
            let v = child_with cell i l f w.0 in
            sum_by-only of_child (children_of made cell) v.0 (children_rise made cell) (children-from_IsParent made cell l v.0 v.1) (λ k m ne.
            share_other (cell_at made k).members i (λ c.
            let p = IsParent-from_children made cell l k m in
            ne (same_cell k v.0 i p.within v.1.within (child_level made cell k p ∙ sym (child_level made cell v.0 v.1)) c v.2)))
            ∙ share_member (cell_at made v.0).members i v.2 ∙ sym w.1
        | inr w ↦
            sum_by-none of_child (children_of made cell) (λ k m.
            share_other (cell_at made k).members i (λ c.
            let p = IsParent-from_children made cell l k m in
            w.0 (outer_member made can cell k i l p.within (child_lies made cell k p) c)))
            ∙ sym w.1
      ]

  module _ (cell : ℕ) (within : cell < length (cells_of made)) where
    -- the members of a child, among those of the cell
    child_count : (c : ℕ) → IsParent made cell c → count_of made c ≡ count_by (is_member (cell_at made c).members) (cell_at made cell).members
    child_count c p =
        let own = (cell_at made c).members in
        let all = (cell_at made cell).members in
        let same : own ≡ filter (is_member own) all =
        same_rising own (filter (is_member own) all) (AllPairs-from_increasing own (members_rise made c p.within))
        (AllPairs-filter (λ x y. x < y) (is_member own) all (AllPairs-from_increasing all (members_rise made cell within)))
        (λ i m. Contains-filter (is_member own) all i (test_from_member own i m) (outer_member made can cell c i within p.within (child_lies made cell c p) m))
        (λ i m. member_from_test own i (passes_from_filter (is_member own) all i m)) in
        ap length same ∙ length-filter (is_member own) all

    -- the children have no more members than the cell
    pub children_count : sum_by (count_of made) (children_of made cell) ≤ count_of made cell
    children_count =
        let all = (cell_at made cell).members in
        let most = parts_most (λ c. is_member (cell_at made c).members) (children_of made cell) all
        (λ i. count_one (λ c. is_member (cell_at made c).members i) (children_of made cell) (children_rise made cell)
        (λ c d m n t u.
        let p = IsParent-from_children made cell within c m in
        let q = IsParent-from_children made cell within d n in
        same_cell c d i p.within q.within (child_level made cell c p ∙ sym (child_level made cell d q)) (member_from_test (cell_at made c).members i t) (member_from_test (cell_at made d).members i u))) in
        let each = sum_by-le_each (count_of made) (λ c. count_by (is_member (cell_at made c).members) all) (children_of made cell)
        (λ c m. omega (arith, child_count c (IsParent-from_children made cell within c m))) in
        omega arith
