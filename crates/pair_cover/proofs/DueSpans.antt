-- Each span has a due member: a look drops what has none.
use Rattle.std.proofs.Common.{ℕ, zero, suc, Bool, false, ◌||◌, List, [], ◌∷◌, Some, None}
use Rattle.std.specs.List.{All, flat_map}
use Rattle.std.proofs.lemmas.Bool.{not-false, or_left, or_parts}
use Rattle.std.proofs.lemmas.List.Elements.{All-nil, All-cons, All-append}
use Rattle.lists.proofs.Elements.{All-from_Contains, All-flat_map}
use Rattle.cell_tree.specs.declared.tree.Span.{Span}
use Rattle.cell_tree.specs.Due.{has_due}
use Rattle.cell_tree.specs.Tree.{Made}
use Rattle.pair_cover.specs.declared.looks.Limits.{Limits}
use Rattle.pair_cover.specs.Covering.{SpanIsDue}
use Rattle.pair_cover.specs.Looks.{children_of, span_of, pair_spans, self_spans, spans_of, twos, most_looks}
use Rattle.pair_cover.proofs.LookCases.{pairs_none, selves_none}
use Rattle.pair_cover.proofs.LookSteps.{pair_cases, self_cases}

module _ (made : Made) (due : List Bool) (limits : Limits) where
  -- all of these spans have a due member
  abbrev AllDue : List Span → Type 0
  AllDue = All (SpanIsDue made due)

  none_due : AllDue []
  none_due = All-nil (SpanIsDue made due)

  one_due : (span : Span) → SpanIsDue made due span → AllDue (span ∷ [])
  one_due span is = All-cons (SpanIsDue made due) span [] is none_due

  each_due : {A : Type 0} (looks : A → List Span) (cells : List A) → ((cell : A) → AllDue (looks cell)) → AllDue (flat_map looks cells)
  each_due looks cells h = All-flat_map (SpanIsDue made due) looks cells (All-from_Contains (λ cell. AllDue (looks cell)) cells (λ cell c. h cell))

  -- a look at two cells
  pair_due : (looks a b : ℕ) → AllDue (pair_spans made due limits looks a b)
  pair_due zero a b = rw (pairs_none made due limits a b) none_due
  pair_due (suc looks) a b =
      pair_cases made due limits AllDue looks a b (λ d. none_due)
      (λ d. one_due (span_of a (Some b)) (not-false (has_due made due a || has_due made due b) (or_parts _ _ d).0))
      (λ f. each_due (λ child. pair_spans made due limits looks child b) (children_of made a) (λ child. pair_due looks child b))
      (λ s f. each_due (λ child. pair_spans made due limits looks a child) (children_of made b) (λ child. pair_due looks a child))

  -- a look at one cell
  self_due : (looks cell : ℕ) → AllDue (self_spans made due limits looks cell)
  self_due zero cell = rw (selves_none made due limits cell) none_due
  self_due (suc looks) cell =
      let both = λ (two : ℕ × ℕ). pair_spans made due limits most_looks two.0 two.1 in
      self_cases made due limits AllDue looks cell (λ d. none_due)
      (λ d. one_due (span_of cell None) (or_left (has_due made due cell) false d))
      (λ s. All-append (SpanIsDue made due) (flat_map (self_spans made due limits looks) (children_of made cell)) (flat_map both (twos (children_of made cell)))
      (each_due (self_spans made due limits looks) (children_of made cell) (λ child. self_due looks child))
      (each_due both (twos (children_of made cell)) (λ two. pair_due most_looks two.0 two.1)))

  -- the spans of a tree
  pub spans_due : AllDue (spans_of made due limits)
  spans_due = self_due most_looks 0
