-- The tasks of a step on the cells of a tree, in the order of their numbers.
use Rattle.std.specs.Prelude.{ℕ, ◌-◌, ◌*◌, ◌/◌, ◌+◌, Bool, false, ◌||◌, if◌then◌else◌, List, ◌++◌, map, filter, Option, Some, None, []}
use Rattle.std.specs.List.{list_any}
use Rattle.sph_num.specs.declared.kind.Kind.{Kind}
use Rattle.sph_num.specs.declared.kind.Kind.TheVariants.{Drift, Density, Ghost, Force, Kick}
use Rattle.cell_tree.specs.declared.tree.Span.{Span}
use Rattle.cell_tree.specs.Tree.{Made, lies_in}
use Rattle.cell_tree.specs.Due.{has_due}
use Rattle.cell_tree.specs.Spans.{IsSpan, count_of, leaf_cells}
use Rattle.task_graph.specs.declared.task.Task.{Task}

-- a task on one cell
abbrev pub cell_task : Kind → ℕ → Task
cell_task kind cell = record { kind = kind; first = cell; second = None }

-- a task on the cells of a span
abbrev pub span_task : Kind → Span → Task
span_task kind span = record { kind = kind; first = span.first; second = span.second }

-- the cells of a task, as a span
abbrev pub span_of_task : Task → Span
span_of_task task = record { first = task.first; second = task.second }

-- they are cells of the tree, and of two neither contains the other
abbrev pub IsOnSpan : Made → Task → Type 0
IsOnSpan made task = IsSpan made (span_of_task task)

-- it lies in the other, if there is one
abbrev pub lies_in_some : Made → Option ℕ → ℕ → Bool
lies_in_some made None inner = false
lies_in_some made (Some outer) inner = lies_in made outer inner

-- a leaf, by its cell, is below one of a span's cells
abbrev pub is_below_span : Made → Span → ℕ → Bool
is_below_span made span leaf = lies_in made span.first leaf || lies_in_some made span.second leaf

-- the task touches the leaf: it is below one of the task's cells
abbrev pub touches : Made → Task → ℕ → Bool
touches made task leaf = is_below_span made (span_of_task task) leaf

-- the leaves below the cells of some spans, by their cells
abbrev pub spanned_leaves : Made → List Span → List ℕ
spanned_leaves made spans = filter (λ leaf. list_any (λ span. is_below_span made span leaf) spans) (leaf_cells made)

-- the leaves with a due member, by their cells
abbrev pub due_cells : Made → List Bool → List ℕ
due_cells made due = filter (has_due made due) (leaf_cells made)

-- the leaves that drift, where that is asked
abbrev pub drifting_leaves : Made → List Span → Bool → List ℕ
drifting_leaves made spans drift = if drift then spanned_leaves made spans else []

-- the tasks: where drift is asked one for each leaf that drifts, a density for each span, a ghost for each leaf with a due member, a
-- force for each span, and a kick for each leaf with a due member
abbrev pub tasks_of : Made → List Span → List Bool → Bool → List Task
tasks_of made spans due drift =
    map (cell_task Drift) (drifting_leaves made spans drift)
    ++ map (span_task Density) spans
    ++ map (cell_task Ghost) (due_cells made due)
    ++ map (span_task Force) spans
    ++ map (cell_task Kick) (due_cells made due)

-- what a task of a kind on these cells costs: the members of its one leaf, or the pairs that it looks at
abbrev pub cost_on : Made → Kind → ℕ → Option ℕ → ℕ
cost_on made Density first None = (count_of made first * (count_of made first + 1)) / 2
cost_on made Force first None = (count_of made first * (count_of made first - 1)) / 2
cost_on made Density first (Some second) = count_of made first * count_of made second
cost_on made Force first (Some second) = count_of made first * count_of made second
cost_on made _ first second = count_of made first

-- what a task costs
abbrev pub cost_of : Made → Task → ℕ
cost_of made task = cost_on made task.kind task.first task.second
