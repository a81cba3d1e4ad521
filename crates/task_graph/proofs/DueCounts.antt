-- How the counts of leaves with a due member number those leaves, and which of them lie below a cell.
use Rattle.std.proofs.Common.{◌≡◌, ℕ, zero, suc, ◌+◌, ◌-◌, ◌<◌, ◌≤◌, Bool, true, if◌then◌else◌, cond, List, ◌++◌, map, count_by, length, get_or, take, sym, ap, ◌∙◌, subst, ◌⊎◌, inl, inr, Some, None, arith}
use Rattle.std.proofs.lemmas.Bool.{cases_lt, or_cases, or_left, or_right, false≢true}
use Rattle.std.proofs.lemmas.List.{map-append, take_all}
use Rattle.std.proofs.lemmas.List.Sums.{length-filter, sum_by_more}
use Rattle.std.specs.List.{range_with_len}
use Rattle.lists.proofs.Ranges.{map_add-range}
use Rattle.lists.proofs.Rising.{filter_range, filter_ranges}
use Rattle.cell_tree.specs.declared.tree.Span.{Span}
use Rattle.cell_tree.specs.Due.{has_due, AreDueBefore}
use Rattle.cell_tree.specs.Spans.{IsOtherCell, IsSpan, leaf_cells}
use Rattle.cell_tree.specs.Tree.{Made, leaf_count, AreLeavesBelow, IsLeafCell, lies_in}
use Rattle.cell_tree.proofs.DueLeaves.{counts_rise}
use Rattle.cell_tree.proofs.LeafCells.{filter_place, get_or-leaf_cells, IsLeafCell-at, length-leaf_cells, passes_after, ranges_apart}
use Rattle.task_graph.specs.inner.Joined.{counted_between, dues_below}
use Rattle.task_graph.specs.Tasks.{due_cells, is_below_span, lies_in_some}

-- a leaf with a due member, before which there are so many
pub record IsDueLeaf (made : Made) (due : List Bool) (before : List ℕ) (number : ℕ) : Type 0 where
  pub leaf : ℕ
  pub below : leaf < leaf_count made
  pub is : IsLeafCell made leaf (get_or (due_cells made due) number 0)
  pub count : get_or before leaf 0 ≡ number
  pub next : get_or before (leaf + 1) 0 ≡ number + 1

due_adds : (n number : ℕ) (passes : Bool) → n ≡ number → passes ≡ true → n + (if passes then 1 else 0) ≡ number + 1
due_adds n number passes e t = rw t (ap (λ k. k + 1) e)

module _ (made : Made) (due : List Bool) (before : List ℕ) (are : AreDueBefore made due before) where
  -- a leaf with a due member adds one
  count_step : (leaf : ℕ) → leaf < leaf_count made → get_or before (leaf + 1) 0 ≡ get_or before leaf 0 + (if has_due made due (get_or (leaf_cells made) leaf 0) then 1 else 0)
  count_step leaf l =
      let w = are.each leaf l in
      w.step ∙ ap (λ cell. get_or before leaf 0 + (if has_due made due cell then 1 else 0)) (sym (get_or-leaf_cells made leaf w.cell 0 w.is))

  -- the counts are those of the list of leaves
  counts_are : (leaf : ℕ) → leaf ≤ leaf_count made → get_or before leaf 0 ≡ count_by (has_due made due) (take leaf (leaf_cells made))
  counts_are zero l = are.first
  counts_are (suc leaf) l =
      let e : suc leaf ≡ leaf + 1 = omega arith in
      let p = has_due made due in
      let cells = leaf_cells made in
      let more = sum_by_more (λ x. cond (p x) 1 0) cells leaf 0 (omega (arith, length-leaf_cells made)) in
      rw e (count_step leaf (omega arith) ∙ ap (λ n. n + (if p (get_or cells leaf 0) then 1 else 0)) (counts_are leaf (omega arith)) ∙ sym more)

  -- the last one is that of all
  pub counts_last : get_or before (leaf_count made) 0 ≡ length (due_cells made due)
  counts_last =
      let cells = leaf_cells made in
      counts_are (leaf_count made) (omega arith)
      ∙ ap (count_by (has_due made due)) (take_all (leaf_count made) cells (omega (arith, length-leaf_cells made)))
      ∙ sym (length-filter (has_due made due) cells)

  pub counts_most : (i : ℕ) → i ≤ leaf_count made → get_or before i 0 ≤ length (due_cells made due)
  counts_most i l = let h = counts_rise made due before are i (leaf_count made) l (omega arith) in omega (arith, counts_last)

  -- each number is that of a leaf
  pub due_leaf : (number : ℕ) → number < length (due_cells made due) → IsDueLeaf made due before number
  due_leaf number l =
      let p = has_due made due in
      let cells = leaf_cells made in
      let w = passes_after p cells number (omega (arith, length-filter p cells)) in
      let low : w.place < leaf_count made = let m = w.within in omega (arith, length-leaf_cells made) in
      let here : get_or (due_cells made due) number 0 ≡ get_or cells w.place 0 =
      ap (λ k. get_or (due_cells made due) k 0) (sym w.count) ∙ filter_place p cells w.place 0 w.within (w.passes 0) in
      let count : get_or before w.place 0 ≡ number = counts_are w.place (omega arith) ∙ w.count in
      record {
        leaf = w.place;
        below = low;
        is = subst (IsLeafCell made w.place) (sym here) (IsLeafCell-at made w.place 0 low);
        count = count;
        next = count_step w.place low ∙ due_adds (get_or before w.place 0) number (p (get_or cells w.place 0)) count (w.passes 0);
      }

  module _ (cell from to : ℕ) (below : AreLeavesBelow made cell from to) where
    -- the leaf lies in the cell just where its number is between the counts
    pub due_inside : (number : ℕ) → number < length (due_cells made due) → lies_in made cell (get_or (due_cells made due) number 0) ≡ true → (get_or before from 0 ≤ number) × (number < get_or before to 0)
    due_inside number l t =
        let w = due_leaf number l in
        let r = below.outside w.leaf (get_or (due_cells made due) number 0) w.is t in
        let within = below.within in
        let low = counts_rise made due before are from w.leaf r.0 (omega (arith, w.below)) in
        let high = counts_rise made due before are (w.leaf + 1) to (omega (arith, r.1)) within in
        (omega (arith, w.count), omega (arith, w.next))

    pub due_passes : (number : ℕ) → number < length (due_cells made due) → get_or before from 0 ≤ number → number < get_or before to 0 → lies_in made cell (get_or (due_cells made due) number 0) ≡ true
    due_passes number l low high =
        let w = due_leaf number l in
        let within = below.within in
        let some = below.some in
        let wb = w.below in
        let a : from ≤ w.leaf = elim (cases_lt w.leaf from) [
          | inl m ↦ let h = counts_rise made due before are (w.leaf + 1) from (omega arith) (omega arith) in absurd (omega (arith, w.next))
          | inr m ↦ m
        ] in
        let b : w.leaf < to = elim (cases_lt w.leaf to) [
          | inl m ↦ m
          | inr m ↦ let h = counts_rise made due before are to w.leaf m (omega arith) in absurd (omega (arith, w.count))
        ] in
        below.inside w.leaf (get_or (due_cells made due) number 0) w.is a b

  -- numbers counted from the first one on
  counted_is : (first from to : ℕ) → counted_between before first from to ≡ map (λ i. first + i) (range_with_len (get_or before from 0) (get_or before to 0 - get_or before from 0))
  counted_is first from to =
      let e : first + get_or before to 0 - (first + get_or before from 0) ≡ get_or before to 0 - get_or before from 0 = omega arith in
      ap (range_with_len (first + get_or before from 0)) e ∙ sym (map_add-range first (get_or before from 0) (get_or before to 0 - get_or before from 0))

  -- the leaves with a due member below a span's one cell
  pub counted_below_one : (span : Span) (first from to : ℕ) → span.second ≡ None → AreLeavesBelow made span.first from to → counted_between before first from to ≡ dues_below made due first span
  counted_below_one span first from to none below =
      let n = length (due_cells made due) in
      let p = λ (k : ℕ). is_below_span made span (get_or (due_cells made due) k 0) in
      let within = below.within in
      let is = filter_range p n (get_or before from 0) (get_or before to 0) (counts_most to within)
      (λ k l t. elim (or_cases _ _ t) [
        | inl u ↦ due_inside span.first from to below k l u
        | inr u ↦ absurd (false≢true (sym (ap (λ o. lies_in_some made o (get_or (due_cells made due) k 0)) none) ∙ u))
      ])
      (λ k l low high. or_left _ _ (due_passes span.first from to below k l low high)) in
      counted_is first from to ∙ ap (map (λ i. first + i)) (sym is)

  -- where just the numbers between the counts of two ranges of leaves are below the span
  counted_apart : (span : Span) (first from to from' to' : ℕ) → to ≤ from' → from' ≤ to' → to' ≤ leaf_count made
      → ((k : ℕ) → k < length (due_cells made due) → is_below_span made span (get_or (due_cells made due) k 0) ≡ true
      → ((get_or before from 0 ≤ k) × (k < get_or before to 0)) ⊎ ((get_or before from' 0 ≤ k) × (k < get_or before to' 0)))
      → ((k : ℕ) → k < length (due_cells made due) → get_or before from 0 ≤ k → k < get_or before to 0 → is_below_span made span (get_or (due_cells made due) k 0) ≡ true)
      → ((k : ℕ) → k < length (due_cells made due) → get_or before from' 0 ≤ k → k < get_or before to' 0 → is_below_span made span (get_or (due_cells made due) k 0) ≡ true)
      → counted_between before first from to ++ counted_between before first from' to' ≡ dues_below made due first span
  counted_apart span first from to from' to' after rises within inside passes passes' =
      let low = range_with_len (get_or before from 0) (get_or before to 0 - get_or before from 0) in
      let high = range_with_len (get_or before from' 0) (get_or before to' 0 - get_or before from' 0) in
      let is = filter_ranges (λ k. is_below_span made span (get_or (due_cells made due) k 0)) (length (due_cells made due)) (get_or before from 0) (get_or before to 0) (get_or before from' 0) (get_or before to' 0)
      (counts_rise made due before are to from' after (omega arith)) (counts_rise made due before are from' to' rises within) (counts_most to' within) inside passes passes' in
      ap (λ ks. ks ++ counted_between before first from' to') (counted_is first from to)
      ∙ ap (λ ks. map (λ i. first + i) low ++ ks) (counted_is first from' to')
      ∙ sym (map-append (λ i. first + i) low high) ∙ ap (map (λ i. first + i)) (sym is)

  module _ (span : Span) (second first from to from' to' : ℕ) (is_span : IsSpan made span) (is : span.second ≡ Some second)
      (below : AreLeavesBelow made span.first from to) (below' : AreLeavesBelow made second from' to') where
    below_either : (k : ℕ) → k < length (due_cells made due) → is_below_span made span (get_or (due_cells made due) k 0) ≡ true
        → ((get_or before from 0 ≤ k) × (k < get_or before to 0)) ⊎ ((get_or before from' 0 ≤ k) × (k < get_or before to' 0))
    below_either k l t = elim (or_cases _ _ t) [
      | inl u ↦ inl (due_inside span.first from to below k l u)
      | inr u ↦ inr (due_inside second from' to' below' k l (sym (ap (λ o. lies_in_some made o (get_or (due_cells made due) k 0)) is) ∙ u))
    ]

    below_first : (k : ℕ) → k < length (due_cells made due) → get_or before from 0 ≤ k → k < get_or before to 0 → is_below_span made span (get_or (due_cells made due) k 0) ≡ true
    below_first k l low high = or_left _ _ (due_passes span.first from to below k l low high)

    below_second : (k : ℕ) → k < length (due_cells made due) → get_or before from' 0 ≤ k → k < get_or before to' 0 → is_below_span made span (get_or (due_cells made due) k 0) ≡ true
    below_second k l low high = or_right _ _ (ap (λ o. lies_in_some made o (get_or (due_cells made due) k 0)) is ∙ due_passes second from' to' below' k l low high)

    apart : (to ≤ from') ⊎ (to' ≤ from)
    apart =
        let other = subst (IsOtherCell made span.first) is is_span.second in
        ranges_apart made span.first second from to from' to' below below' other.1 other.2

    -- those below its two cells, the first one's leaves before the second one's
    pub counted_below_two : from < from' → counted_between before first from to ++ counted_between before first from' to' ≡ dues_below made due first span
    counted_below_two order =
        let some = below.some in
        let some' = below'.some in
        let after : to ≤ from' = elim apart [ inl h ↦ h | inr h ↦ absurd (omega arith) ] in
        counted_apart span first from to from' to' after (omega arith) below'.within below_either below_first below_second

    -- and the second one's before the first one's
    pub counted_below_turned : from' ≤ from → counted_between before first from' to' ++ counted_between before first from to ≡ dues_below made due first span
    counted_below_turned order =
        let some = below.some in
        let some' = below'.some in
        let after : to' ≤ from = elim apart [ inl h ↦ absurd (omega arith) | inr h ↦ h ] in
        counted_apart span first from' to' from to after (omega arith) below.within
        (λ k l t. elim (below_either k l t) [ inl h ↦ inr h | inr h ↦ inl h ]) below_second below_first
