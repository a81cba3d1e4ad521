-- The lists of the numbers of what is related to one element.
use Rattle.std.specs.Prelude.{ℕ, ◌+◌, ◌-◌, Bool, List, filter, map, length, slice_index, slice_index_or}
use Rattle.std.specs.List.{range_with_len}
use Rattle.cell_tree.specs.declared.tree.Span.{Span}
use Rattle.cell_tree.specs.Tree.{Made}
use Rattle.task_graph.specs.Tasks.{due_cells, is_below_span}

-- numbers, counted from the first number on
abbrev pub counted_from : ℕ → List ℕ → List ℕ
counted_from first numbers = map (λ number. first + number) numbers

-- the numbers of the related elements of a list, counted from the first number on
abbrev pub joined_to : {A B : Type 0} → (A → B → Bool) → List B → B → ℕ → A → List ℕ
joined_to relates others none first a = counted_from first (filter (λ number. relates a (slice_index_or others number none)) (range_with_len 0 (length others)))

-- the numbers of the leaves with a due member below a span's cells, of all such leaves, counted from the first number on
abbrev pub dues_below : Made → List Bool → ℕ → Span → List ℕ
dues_below made due first span = joined_to (is_below_span made) (due_cells made due) 0 first span

-- the numbers from the count at one leaf up to the count at another, counted from the first number on
abbrev pub counted_between : List ℕ → ℕ → ℕ → ℕ → List ℕ
counted_between before first from to = range_with_len (first + slice_index before from) (first + slice_index before to - (first + slice_index before from))
