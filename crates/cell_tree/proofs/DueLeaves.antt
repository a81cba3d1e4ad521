-- Which cells have a due member, from how many of the leaves before each have one.
use Rattle.std.proofs.Common.{◌≡◌, ℕ, zero, suc, ◌+◌, ◌-◌, ◌<◌, ◌≤◌, Bool, true, false, if◌then◌else◌, ltb, List, [], ◌∷◌, ◌++◌, length, get_or, refl, sym, ap, ◌∙◌, subst, inl, inr, arith}
use Rattle.std.specs.List.{Contains}
use Rattle.std.proofs.lemmas.Bool.{cases_Bool, cases_lt, lt-ltb, le-ltb, true≢false}
use Rattle.std.proofs.lemmas.List.{get_or_append_left, get_or_push}
use Rattle.std.proofs.lemmas.List.Folds.{Any-from_list_any, list_any-from_Any}
use Rattle.cell_tree.specs.Laws.{CanBeMade}
use Rattle.cell_tree.specs.Tree.{Made, cells_of, cell_at, leaf_count, AreLeavesBelow, IsLeafCell}
use Rattle.cell_tree.proofs.TreeLists.{one_cell}
use Rattle.cell_tree.specs.Due.{has_due, CountsLeaf, AreDueBefore}
use Rattle.cell_tree.proofs.Below.{member_below, below_member}

-- a due member
due_member : (made : Made) (due : List Bool) (cell : ℕ) → has_due made due cell ≡ true → (index : ℕ) × Contains (cell_at made cell).members index × (get_or due index false ≡ true)
due_member made due cell t =
    let w = Any-from_list_any (λ i. get_or due i false) (cell_at made cell).members t in (w.1, (w.0, w.2, w.3), w.4)

due_from_member : (made : Made) (due : List Bool) (cell index : ℕ) → Contains (cell_at made cell).members index → get_or due index false ≡ true → has_due made due cell ≡ true
due_from_member made due cell index c t = list_any-from_Any (λ i. get_or due i false) (cell_at made cell).members (c.0, index, c.1, c.2, t)

module _ (made : Made) (due : List Bool) (before : List ℕ) (counts : AreDueBefore made due before) where
  -- the counts do not fall
  counts_grow : (from k : ℕ) → from + k ≤ leaf_count made → get_or before from 0 ≤ get_or before (from + k) 0
  counts_grow from zero l = let e : from + 0 ≡ from = omega arith in rw e (omega arith)
  counts_grow from (suc k) l =
      let ih = counts_grow from k (omega arith) in
      let w = counts.each (from + k) (omega arith) in
      let s = w.step in
      let e : from + suc k ≡ from + k + 1 = omega arith in
      rw e (omega arith)

  pub counts_rise : (i j : ℕ) → i ≤ j → j ≤ leaf_count made → get_or before i 0 ≤ get_or before j 0
  counts_rise i j l m =
      let e : i + (j - i) ≡ j = omega arith in
      let g = counts_grow i (j - i) (omega arith) in rw e at g

module _ (made : Made) (can : CanBeMade made) (due : List Bool) where
  module _ (before : List ℕ) (counts : AreDueBefore made due before) where
    -- a leaf's step, by any name of its cell
    step_of : (leaf at : ℕ) → IsLeafCell made leaf at → leaf < leaf_count made → get_or before (leaf + 1) 0 ≡ get_or before leaf 0 + (if has_due made due at then 1 else 0)
    step_of leaf at is l =
        let w = counts.each leaf l in
        w.step ∙ ap (λ k. get_or before leaf 0 + (if has_due made due k then 1 else 0)) (one_cell made leaf w.cell at w.is is)

    -- over leaves with no due member they stay
    counts_stay : (from k : ℕ) → from + k ≤ leaf_count made → ((leaf at : ℕ) → from ≤ leaf → leaf < from + k → IsLeafCell made leaf at → has_due made due at ≡ false) → get_or before (from + k) 0 ≡ get_or before from 0
    counts_stay from zero l h = let e : from + 0 ≡ from = omega arith in rw e refl
    counts_stay from (suc k) l h =
        let ih = counts_stay from k (omega arith) (λ leaf at low high is. h leaf at low (omega arith) is) in
        let w = counts.each (from + k) (omega arith) in
        let s : get_or before (from + k + 1) 0 ≡ get_or before (from + k) 0 + 0 =
        w.step ∙ ap (λ b. get_or before (from + k) 0 + (if b then 1 else 0)) (h (from + k) w.cell (omega arith) (omega arith) w.is) in
        let e : from + suc k ≡ from + k + 1 = omega arith in
        rw e (omega arith)

    -- the cell has a due member where the counts of its leaves' ends differ
    pub due_from_counts : (cell from to : ℕ) → cell < length (cells_of made) → AreLeavesBelow made cell from to → ltb (get_or before from 0) (get_or before to 0) ≡ has_due made due cell
    due_from_counts cell from to l below =
        let some = below.some in
        let within = below.within in
        elim (cases_Bool (has_due made due cell)) [
          | inl t ↦
              let m = due_member made due cell t in
              let w = member_below made can cell from to m.0 l below m.1 in
              let low = w.3 in
              let high = w.4 in
              let here = due_from_member made due w.1 m.0 w.2.member m.2 in
              let s : get_or before (w.0 + 1) 0 ≡ get_or before w.0 0 + 1 = step_of w.0 w.1 w.2.is_leaf (omega arith) ∙ ap (λ b. get_or before w.0 0 + (if b then 1 else 0)) here in
              let a = counts_rise made due before counts from w.0 low (omega arith) in
              let b = counts_rise made due before counts (w.0 + 1) to (omega arith) within in
              lt-ltb (get_or before from 0) (get_or before to 0) (omega arith) ∙ sym t
          | inr f ↦
              let e : from + (to - from) ≡ to = omega arith in
              let g = counts_stay from (to - from) (omega arith) (λ leaf at low high is. none leaf at f low (omega arith) is) in
              let same : get_or before to 0 ≡ get_or before from 0 = rw e at g in
              le-ltb (get_or before from 0) (get_or before to 0) (omega arith) ∙ sym f
        ]
      where
        none : (leaf at : ℕ) → has_due made due cell ≡ false → from ≤ leaf → leaf < to → IsLeafCell made leaf at → has_due made due at ≡ false
        none leaf at f low high is =
            elim (cases_Bool (has_due made due at)) [
              | inl t ↦
                  let m = due_member made due at t in
                  let own = below_member made can cell from to leaf at m.0 l below (record { is_leaf = is; member = m.1 }) low high in
                  absurd (true≢false (sym (due_from_member made due cell m.0 own m.2) ∙ f))
              | inr u ↦ u
            ]

-- one leaf more is counted
pub counts_more : (made : Made) (due : List Bool) (before new : List ℕ) (leaf count step : ℕ) → length before ≡ leaf + 1 → get_or before leaf 0 ≡ count → ((k : ℕ) → k < leaf → CountsLeaf made due before k)
    → (cell : ℕ) → IsLeafCell made leaf cell → step ≡ count + (if has_due made due cell then 1 else 0) → new ≡ before ++ step ∷ [] → (k : ℕ) → k < leaf + 1 → CountsLeaf made due new k
counts_more made due before new leaf count step long last each cell is s e k l =
    elim (cases_lt k leaf) [
      | inl low ↦
          let w = each k low in
          record {
            cell = w.cell;
            is = w.is;
            step = kept (k + 1) (omega arith) ∙ w.step ∙ ap (λ n. n + (if has_due made due w.cell then 1 else 0)) (sym (kept k (omega arith)));
          }
      | inr high ↦ let same : leaf ≡ k = omega arith in subst (CountsLeaf made due new) same (record {
        cell = cell;
        is = is;
        step = ap (λ xs. get_or xs (leaf + 1) 0) e ∙ get_or_push before step 0 (leaf + 1) long ∙ s ∙ ap (λ n. n + (if has_due made due cell then 1 else 0)) (sym last) ∙ ap (λ n. n + (if has_due made due cell then 1 else 0)) (sym (kept leaf (omega arith)));
      })
    ]
  where
    kept : (i : ℕ) → i < leaf + 1 → get_or new i 0 ≡ get_or before i 0
    kept i m = ap (λ xs. get_or xs i 0) e ∙ get_or_append_left before (step ∷ []) 0 i (omega arith)
