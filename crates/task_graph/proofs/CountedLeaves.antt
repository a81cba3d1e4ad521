-- Counts at the leaves that tell of some leaves: those with a due member, and all.
use Rattle.std.proofs.Common.{◌≡◌, ℕ, ◌+◌, ◌≤◌, Bool, List, length, get_or, sym, ap, ◌∙◌, arith}
use Rattle.std.specs.List.{range_with_len}
use Rattle.std.proofs.lemmas.List.FromFn.{get_or-range_with_len, length-range_with_len}
use Rattle.cell_tree.specs.Due.{AreDueBefore}
use Rattle.cell_tree.specs.Spans.{leaf_cells}
use Rattle.cell_tree.specs.Tree.{Made, AreLeavesBelow, leaf_count}
use Rattle.cell_tree.proofs.LeafCells.{length-leaf_cells}
use Rattle.cell_tree.proofs.DueLeaves.{counts_rise}
use Rattle.task_graph.specs.inner.LeafLists.{AreCountsOf, AreInCell}
use Rattle.task_graph.specs.Tasks.{due_cells}
use Rattle.task_graph.proofs.DueCounts.{counts_last, counts_most, due_inside, due_passes}
use Rattle.task_graph.proofs.Touching.{in_range_from_lies, lies_from_in_range}

-- the counts of leaves with a due member tell of those
pub AreCountsOf-due : (made : Made) (due : List Bool) (before : List ℕ) → AreDueBefore made due before → AreCountsOf made (due_cells made due) before
AreCountsOf-due made due before are = record {
  long = are.long;
  all = counts_last made due before are;
  in_cell = λ cell from to below.
      let some = below.some in
      let most = counts_most made due before are to below.within in
      record {
        ordered = counts_rise made due before are from to (omega arith) below.within;
        within = most;
        inside = due_inside made due before are cell from to below;
        passes = λ k low high. due_passes made due before are cell from to below k (omega arith) low high;
      };
}

module _ (made : Made) where
  -- of all leaves those below a cell lie in it
  all_in_cell : (cell from to : ℕ) → AreLeavesBelow made cell from to → AreInCell made (leaf_cells made) cell from to
  all_in_cell cell from to below =
      let some = below.some in
      let most = below.within in
      let long = length-leaf_cells made in
      record {
        ordered = omega arith;
        within = omega arith;
        inside = λ k l t. in_range_from_lies made cell from to k below (omega arith) t;
        passes = λ k low high. lies_from_in_range made cell from to k below low high;
      }

  -- the numbers from 0 on count all leaves
  pub AreCountsOf-all : (before : List ℕ) → before ≡ range_with_len 0 (leaf_count made + 1) → AreCountsOf made (leaf_cells made) before
  AreCountsOf-all before is =
      let at : (k : ℕ) → k ≤ leaf_count made → get_or before k 0 ≡ k = λ k l. ap (λ xs. get_or xs k 0) is ∙ get_or-range_with_len 0 (leaf_count made + 1) k 0 (omega arith) ∙ omega arith in
      record {
        long = ap length is ∙ length-range_with_len 0 (leaf_count made + 1);
        all = at (leaf_count made) (omega arith) ∙ sym (length-leaf_cells made);
        in_cell = λ cell from to below.
            let some = below.some in
            let most = below.within in
            rw (at from (omega arith), at to (omega arith)) (all_in_cell cell from to below);
      }
