-- What the steps of the building give.
use Rattle.std.specs.Prelude.{◌≡◌, ℕ, ◌+◌, ◌<◌, ◌↔◌, true, Bool, List, [], ◌++◌, filter, map, length, replicate, slice_get, slice_index, slice_index_or, Some, None, Contains}
use Rattle.std.specs.List.Sorted.{IsStrictlyIncreasing}
use Rattle.std.specs.List.{range_with_len}
use Rattle.cell_tree.specs.declared.tree.Span.{Span}
use Rattle.cell_tree.specs.Tree.{Made, leaf_count}
use Rattle.cell_tree.specs.Due.{AreDueBefore}
use Rattle.cell_tree.specs.Spans.{leaf_cells}
use Rattle.task_weight.specs.Edges.{AreStarts, edges_of}
use Rattle.task_graph.specs.declared.task.Task.{Task}
use Rattle.task_graph.specs.Graph.{Plan}
use Rattle.task_graph.specs.Tasks.{drifting_leaves, due_cells, is_below_span}

abbrev pub plan_with : List Task → List (List ℕ) → List ℕ → List ℕ → List ℕ → Plan
plan_with tasks successors waits costs weights = record { tasks = tasks; successors = successors; waits = waits; costs = costs; weights = weights }

abbrev pub span_at : List Span → ℕ → Span
span_at spans number = slice_index_or spans number (record { first = 0; second = None })

-- the numbers of the spans that have a leaf, by its cell, below a cell
abbrev pub spans_above : Made → List Span → ℕ → List ℕ
spans_above made spans leaf = filter (λ number. is_below_span made (span_at spans number) leaf) (range_with_len 0 (length spans))

-- leaves by their numbers, rising: those of these cells
pub record AreLeavesOf (made : Made) (cells numbers : List ℕ) : Type 0 where
  pub rising : IsStrictlyIncreasing numbers
  pub below : (number : ℕ) → Contains numbers number → number < leaf_count made
  pub cells_are : map (slice_index (leaf_cells made)) numbers ≡ cells

-- What is known of the leaves, by their numbers: those that drift and those with a due member, each with the numbers of the spans above
-- it, and how many of the latter stand before each leaf.
pub record KnownLeaves : Type 0 where
  pub drifting : List ℕ
  pub above_drifting : List (List ℕ)
  pub dues : List ℕ
  pub above_dues : List (List ℕ)
  pub due_before : List ℕ

abbrev pub known_leaves : List ℕ → List (List ℕ) → List ℕ → List (List ℕ) → List ℕ → KnownLeaves
known_leaves drifting above_drifting dues above_dues due_before =
    record { drifting = drifting; above_drifting = above_drifting; dues = dues; above_dues = above_dues; due_before = due_before }

-- it is so of these spans and due points, with drift or without
pub record AreLeavesFor (made : Made) (spans : List Span) (due : List Bool) (drift : Bool) (leaves : KnownLeaves) : Type 0 where
  pub drifting_are : AreLeavesOf made (drifting_leaves made spans drift) leaves.drifting
  pub above_drifting_are : leaves.above_drifting ≡ map (spans_above made spans) (drifting_leaves made spans drift)
  pub dues_are : AreLeavesOf made (due_cells made due) leaves.dues
  pub above_dues_are : leaves.above_dues ≡ map (spans_above made spans) (due_cells made due)
  pub before_are : AreDueBefore made due leaves.due_before

-- the number is that of an element of the list which is related to one of another, numbered from a first number on
pub record IsJoinedAt {A B : Type 0} (relates : A → B → Bool) (a : A) (others : List B) (first number : ℕ) : Type 0 where
  pub index : ℕ
  pub b : B
  pub at : number ≡ first + index
  pub stands : slice_get others index ≡ Some b
  pub related : relates a b ≡ true

-- for each element of the first list the numbers of the related elements of the other, rising
pub record AreJoined {A B : Type 0} (relates : A → B → Bool) (each : List A) (others : List B) (first : ℕ) (lists : List (List ℕ)) : Type 0 where
  pub one_each : length lists ≡ length each
  pub rising : (k : ℕ) → k < length each → IsStrictlyIncreasing (slice_index_or lists k [])
  pub just : (k number : ℕ) (a : A) → slice_get each k ≡ Some a → Contains (slice_index_or lists k []) number ↔ IsJoinedAt relates a others first number

-- a leaf, by its cell, has a span above it
abbrev pub has_above : Made → ℕ → Span → Bool
has_above made leaf span = is_below_span made span leaf

-- the lists of a graph: for each drift the densities at its leaf, for each density the ghosts of its leaves, for each ghost the forces at
-- its leaf, for each force the kicks of its leaves, and nothing for a kick
pub record AreEdgeLists (made : Made) (spans : List Span) (due : List Bool) (drift : Bool) (successors : List (List ℕ)) : Type 0 where
  pub drifts : List (List ℕ)
  pub densities : List (List ℕ)
  pub ghosts : List (List ℕ)
  pub forces : List (List ℕ)
  pub all : successors ≡ drifts ++ densities ++ ghosts ++ forces ++ replicate (length (due_cells made due)) []
  pub drifts_are : AreJoined (has_above made) (drifting_leaves made spans drift) spans (length drifts) drifts
  pub densities_are : AreJoined (is_below_span made) spans (due_cells made due) (length drifts + length spans) densities
  pub ghosts_are : AreJoined (has_above made) (due_cells made due) spans (length drifts + length spans + length (due_cells made due)) ghosts
  pub forces_are : AreJoined (is_below_span made) spans (due_cells made due) (length drifts + length spans + length (due_cells made due) + length spans) forces

-- starts and ends with lists added
pub record AddsLists (starts ends starts' ends' : List ℕ) (lists : List (List ℕ)) : Type 0 where
  pub are_starts : AreStarts starts' ends'
  pub added : edges_of starts' ends' ≡ edges_of starts ends ++ lists
