-- Lists of numbers at some leaves, and which leaves counts tell of.
use Rattle.std.specs.Prelude.{◌≡◌, ℕ, ◌+◌, ◌<◌, ◌≤◌, true, Bool, nat_lt, if◌then◌else◌, List, [], ◌∷◌, ◌++◌, length, slice_index, slice_index_or}
use Rattle.cell_tree.specs.declared.tree.Span.{Span}
use Rattle.cell_tree.specs.Tree.{Made, AreLeavesBelow, leaf_count, lies_in}
use Rattle.task_graph.specs.Tasks.{is_below_span}

-- the number is added behind each list from the one place up to the other, and the others stay
pub record AddsWithin (from to number : ℕ) (lists lists' : List (List ℕ)) : Type 0 where
  pub before : (k : ℕ) → k < from → slice_index_or lists' k [] ≡ slice_index_or lists k []
  pub within : (k : ℕ) → from ≤ k → k < to → slice_index_or lists' k [] ≡ slice_index_or lists k [] ++ number ∷ []
  pub behind : (k : ℕ) → to ≤ k → slice_index_or lists' k [] ≡ slice_index_or lists k []

-- of some leaves, by their cells, those from the one place up to the other lie in the cell, and no others
pub record AreInCell (made : Made) (cells : List ℕ) (cell from to : ℕ) : Type 0 where
  pub ordered : from ≤ to
  pub within : to ≤ length cells
  pub inside : (k : ℕ) → k < length cells → lies_in made cell (slice_index cells k) ≡ true → (from ≤ k) × (k < to)
  pub passes : (k : ℕ) → from ≤ k → k < to → lies_in made cell (slice_index cells k) ≡ true

-- how many of some leaves stand before each leaf, and how many there are: those in a cell stand between the counts at the leaves below it
pub record AreCountsOf (made : Made) (cells before : List ℕ) : Type 0 where
  pub long : length before ≡ leaf_count made + 1
  pub all : slice_index before (leaf_count made) ≡ length cells
  pub in_cell : (cell from to : ℕ) → AreLeavesBelow made cell from to → AreInCell made cells cell (slice_index before from) (slice_index before to)

-- the number is added once behind the list of each of these leaves below a cell of the span, and the others stay
pub record AddsSpan (made : Made) (cells : List ℕ) (span : Span) (number : ℕ) (lists lists' : List (List ℕ)) : Type 0 where
  pub each : (k : ℕ) → k < length cells
      → slice_index_or lists' k [] ≡ slice_index_or lists k [] ++ (if is_below_span made span (slice_index cells k) then number ∷ [] else [])

-- a list that is not empty, and whether the list at this leaf is one
abbrev pub is_filled : List ℕ → Bool
is_filled list = nat_lt 0 (length list)

abbrev pub has_span : List (List ℕ) → ℕ → Bool
has_span lists leaf = is_filled (slice_index_or lists leaf [])

-- after this leaf more are counted than before it
abbrev pub counts_more : List ℕ → ℕ → Bool
counts_more before leaf = nat_lt (slice_index before leaf) (slice_index before (leaf + 1))
