-- The tasks of a step stand on spans of the tree.
use Rattle.std.proofs.Common.{ℕ, Bool, true, false, List, Contains, All, map}
use Rattle.std.specs.List.{list_any}
use Rattle.std.proofs.lemmas.List.Elements.{All-append, All-map, All-weaker}
use Rattle.lists.proofs.Elements.{All-from_Contains, Contains-from_filter, Contains-nil}
use Rattle.sph_num.specs.declared.kind.Kind.{Kind}
use Rattle.sph_num.specs.declared.kind.Kind.TheVariants.{Drift, Density, Ghost, Force, Kick}
use Rattle.cell_tree.specs.declared.tree.Span.{Span}
use Rattle.cell_tree.specs.Due.{has_due}
use Rattle.cell_tree.specs.Spans.{IsSpan, leaf_cells}
use Rattle.cell_tree.specs.Tree.{Made}
use Rattle.task_graph.specs.Tasks.{IsOnSpan, cell_task, span_task, is_below_span, drifting_leaves, due_cells, tasks_of}
use Rattle.task_graph.proofs.Touching.{leaf_within}

module _ (made : Made) where
  -- the leaves that drift, and those with a due member, are leaves
  pub drifting_is_leaf : (spans : List Span) (drift : Bool) (cell : ℕ) → Contains (drifting_leaves made spans drift) cell → Contains (leaf_cells made) cell
  drifting_is_leaf spans true cell c = Contains-from_filter (λ leaf. list_any (λ span. is_below_span made span leaf) spans) (leaf_cells made) cell c
  drifting_is_leaf spans false cell c = absurd (Contains-nil cell c)

  pub due_is_leaf : (due : List Bool) (cell : ℕ) → Contains (due_cells made due) cell → Contains (leaf_cells made) cell
  due_is_leaf due cell c = Contains-from_filter (has_due made due) (leaf_cells made) cell c

  -- tasks on leaves, and tasks on spans
  leaves_on_spans : (kind : Kind) (cells : List ℕ) → ((cell : ℕ) → Contains cells cell → Contains (leaf_cells made) cell) → All (IsOnSpan made) (map (cell_task kind) cells)
  leaves_on_spans kind cells leaves =
      All-map (IsOnSpan made) (cell_task kind) cells
      (All-from_Contains (λ cell. IsOnSpan made (cell_task kind cell)) cells (λ cell c. record { first = leaf_within made cell (leaves cell c); second = tt }))

  spans_on_spans : (kind : Kind) (spans : List Span) → All (IsSpan made) spans → All (IsOnSpan made) (map (span_task kind) spans)
  spans_on_spans kind spans are =
      All-map (IsOnSpan made) (span_task kind) spans
      (All-weaker (IsSpan made) (λ span. IsOnSpan made (span_task kind span)) (λ span s. record { first = s.first; second = s.second }) spans are)

  -- all tasks
  pub on_spans : (spans : List Span) (due : List Bool) (drift : Bool) → All (IsSpan made) spans → All (IsOnSpan made) (tasks_of made spans due drift)
  on_spans spans due drift are =
      All-append (IsOnSpan made) _ _
      (All-append (IsOnSpan made) _ _
      (All-append (IsOnSpan made) _ _
      (All-append (IsOnSpan made) _ _ (leaves_on_spans Drift (drifting_leaves made spans drift) (drifting_is_leaf spans drift)) (spans_on_spans Density spans are))
      (leaves_on_spans Ghost (due_cells made due) (due_is_leaf due)))
      (spans_on_spans Force spans are))
      (leaves_on_spans Kick (due_cells made due) (due_is_leaf due))
