-- What the lists of leaves let code rest on: their numbers are in range, and there are few.
use Rattle.std.proofs.Common.{◌≡◌, ℕ, ◌+◌, ◌<◌, ◌≤◌, Bool, List, length, map, sym, subst, arith}
use Rattle.std.specs.Prelude.{◌^◌}
use Rattle.std.specs.List.{All, range_with_len}
use Rattle.std.proofs.lemmas.List.{get_or_default}
use Rattle.std.proofs.lemmas.List.Elements.{All-map, All-weaker}
use Rattle.lists.proofs.Ranges.{below_from_numbers}
use Rattle.lists.proofs.Elements.{All-from_Contains, Contains-from_filter}
use Rattle.sph_num.specs.Ranges.{most_particles}
use Rattle.cell_tree.specs.declared.tree.Span.{Span}
use Rattle.cell_tree.specs.Due.{AreDueBefore}
use Rattle.cell_tree.specs.Laws.{CanBeMade}
use Rattle.cell_tree.specs.Tree.{Made}
use Rattle.task_graph.specs.inner.Parts.{AreLeavesFor, KnownLeaves, span_at, spans_above}
use Rattle.task_graph.specs.Tasks.{drifting_leaves, due_cells, is_below_span}
use Rattle.task_graph.proofs.DueCounts.{counts_most}
use Rattle.task_graph.proofs.Joining.{one_list_each}
use Rattle.task_graph.proofs.LeafNumbers.{length-leaves_of}
use Rattle.task_graph.proofs.LeafTasks.{drifting_few, due_few}

-- the numbers at a leaf are those of spans
spans_above_below : (made : Made) (spans : List Span) (leaf : ℕ) → All (λ number. number < length spans) (spans_above made spans leaf)
spans_above_below made spans leaf =
    let p = λ (number : ℕ). is_below_span made (span_at spans number) leaf in
    All-from_Contains (λ number. number < length spans) (spans_above made spans leaf)
    (λ number c. below_from_numbers (length spans) number (Contains-from_filter p (range_with_len 0 (length spans)) number c))

-- so they fit behind a number
pub span_numbers_fit : (made : Made) (spans : List Span) (cells : List ℕ) (lists : List (List ℕ)) → lists ≡ map (spans_above made spans) cells → (first : ℕ) → first + length spans ≤ 2 ^ 32 → All (All (λ number. first + number < 2 ^ 32)) lists
span_numbers_fit made spans cells lists are first room =
    let fit : (leaf : ℕ) → All (λ number. first + number < 2 ^ 32) (spans_above made spans leaf) =
    λ leaf. All-weaker (λ number. number < length spans) (λ number. first + number < 2 ^ 32) (λ number l. omega arith) (spans_above made spans leaf) (spans_above_below made spans leaf) in
    subst (All (All (λ number. first + number < 2 ^ 32))) (sym are)
    (All-map (All (λ number. first + number < 2 ^ 32)) (spans_above made spans) cells (All-from_Contains (λ leaf. All (λ number. first + number < 2 ^ 32) (spans_above made spans leaf)) cells (λ leaf c. fit leaf)))

-- of the leaves that drift and of those with a due member there are few, and each has a list
pub record AreFew (leaves : KnownLeaves) : Type 0 where
  pub few_drift : length leaves.drifting ≤ most_particles
  pub drifts : length leaves.above_drifting ≡ length leaves.drifting
  pub few_due : length leaves.dues ≤ most_particles
  pub dues_each : length leaves.above_dues ≡ length leaves.dues

pub lists_few : {made : Made} {spans : List Span} {due : List Bool} {drift : Bool} {leaves : KnownLeaves} → CanBeMade made → AreLeavesFor made spans due drift leaves → AreFew leaves
lists_few {made = made} {spans = spans} {due = due} {drift = drift} {leaves = leaves} can are =
    let drifting = drifting_leaves made spans drift in
    let dues = due_cells made due in
    record {
      few_drift = omega (arith, length-leaves_of made drifting leaves.drifting are.drifting_are, drifting_few made can spans drift);
      drifts = one_list_each made spans drifting leaves.drifting leaves.above_drifting are.drifting_are are.above_drifting_are;
      few_due = omega (arith, length-leaves_of made dues leaves.dues are.dues_are, due_few made can due);
      dues_each = one_list_each made spans dues leaves.dues leaves.above_dues are.dues_are are.above_dues_are;
    }

-- the counts of leaves with a due member fit behind a number
pub counts_fit : (made : Made) (due : List Bool) (before : List ℕ) (first : ℕ) → CanBeMade made → AreDueBefore made due before → first + most_particles < 2 ^ 32 → All (λ count. first + count < 2 ^ 32) before
counts_fit made due before first can are room k d l =
    let long = are.long in
    let most = counts_most made due before are k (omega arith) in
    omega (arith, due_few made can due, get_or_default before k d 0 l)
