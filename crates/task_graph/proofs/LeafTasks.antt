-- How many leaves have tasks, and that the tasks' costs have a small sum.
use Rattle.std.proofs.Common.{ℕ, ◌<◌, ◌≤◌, ◌^◌, Bool, true, false, List, filter, length, arith}
use Rattle.std.specs.List.{All, list_any, sum_by}
use Rattle.std.proofs.lemmas.List.Sums.{length-filter, count_by-le-length, sum_by-le}
use Rattle.sph_num.specs.Ranges.{most_particles}
use Rattle.cell_tree.specs.declared.tree.Span.{Span}
use Rattle.cell_tree.specs.Due.{has_due}
use Rattle.cell_tree.specs.Laws.{CanBeMade}
use Rattle.cell_tree.specs.Spans.{leaf_cells}
use Rattle.cell_tree.specs.Tree.{Made}
use Rattle.cell_tree.proofs.LeafCells.{length-leaf_cells}
use Rattle.task_graph.specs.Tasks.{is_below_span, drifting_leaves, due_cells}
use Rattle.task_graph.proofs.LeafNumbers.{leaves_most}

module _ (made : Made) (can : CanBeMade made) where
  -- some of the leaves are no more than there may be
  some_leaves : (p : ℕ → Bool) → length (filter p (leaf_cells made)) ≤ most_particles
  some_leaves p =
      omega (arith, length-filter p (leaf_cells made), count_by-le-length p (leaf_cells made), length-leaf_cells made, leaves_most made can)

  -- so are those that drift, and those with a due member
  pub drifting_few : (spans : List Span) (drift : Bool) → length (drifting_leaves made spans drift) ≤ most_particles
  drifting_few spans true = some_leaves (λ leaf. list_any (λ span. is_below_span made span leaf) spans)
  drifting_few spans false = omega arith

  pub due_few : (due : List Bool) → length (due_cells made due) ≤ most_particles
  due_few due = some_leaves (has_due made due)

-- fewer than 2^32 costs of at most 2^30 have a sum below 2^62
pub costs_small : (costs : List ℕ) → All (λ cost. cost ≤ 2 ^ 30) costs → length costs < 2 ^ 32 → sum_by (λ cost. cost) costs < 2 ^ 62
costs_small costs small few = omega (arith, sum_by-le (λ cost. cost) (2 ^ 30) costs small)
