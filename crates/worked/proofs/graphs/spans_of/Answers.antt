use Rattle.std.proofs.Common.{◌<◌, ◌≤◌, ℕ, length, [], ◌∷◌, None, Some, arith}
use Rattle.std.specs.List.{All}
use Rattle.std.proofs.lemmas.Bool.{false_from_ne_true}
use Rattle.std.proofs.lemmas.List.Elements.{All-cons, All-nil}
use Rattle.cell_tree.specs.declared.tree.Span.{Span}
use Rattle.cell_tree.specs.Spans.{IsOtherCell, IsSpan}
use Rattle.cell_tree.specs.Tree.{Made, AreLeavesBelow, cells_of, lies_in}
use Rattle.cell_tree.proofs.LeafCells.{nested_ranges}
use Rattle.worked.proofs.graphs.spans_of.Goals as goal

module _ (made : Made) (low high : ℕ) where
  -- of two cells with leaves of their own neither contains the other
  cells_apart : (from middle next end : ℕ) → high < length (cells_of made) → AreLeavesBelow made low from middle → AreLeavesBelow made high next end → middle ≤ next → IsOtherCell made low (Some high)
  cells_apart from middle next end within below below' order =
      let some = below.some in
      let some' = below'.some in (
        within,
        false_from_ne_true (lies_in made low high) (λ h. let n = nested_ranges made low high from middle next end below below' h in omega (arith, n.1)),
        false_from_ne_true (lies_in made high low) (λ h. let n = nested_ranges made high low next end from middle below' below h in omega (arith, n.0)),
      )

  abbrev alone : ℕ → Span
  alone cell = record { first = cell; second = None }

  abbrev both : Span
  both = record { first = low; second = Some high }

  three_spans : low < length (cells_of made) → high < length (cells_of made) → IsOtherCell made low (Some high) → All (IsSpan made) (alone low ∷ alone high ∷ both ∷ [])
  three_spans l h other =
      All-cons (IsSpan made) (alone low) (alone high ∷ both ∷ []) (record { first = l; second = tt })
      (All-cons (IsSpan made) (alone high) (both ∷ []) (record { first = h; second = tt })
      (All-cons (IsSpan made) both [] (record { first = l; second = other }) (All-nil (IsSpan made))))

pub returns : goal.returns
returns c =
    let apart = c.requires.apart in
    three_spans c.args.tree.now c.args.low c.args.high c.requires.low c.requires.high
    (cells_apart c.args.tree.now c.args.low c.args.high apart.0 apart.1 apart.2 apart.3 c.requires.high apart.4 apart.5 apart.6)
