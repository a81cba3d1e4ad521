-- Each due point meets itself in just one span.
use Rattle.std.proofs.Common.{◌≡◌, ℕ, zero, suc, ◌+◌, ◌<◌, ◌≤◌, Bool, true, false, List, [], map, flat_map, length, get_or, Some, None, refl, sym, ◌∙◌, arith}
use Rattle.std.specs.List.{sum_by}
use Rattle.std.proofs.lemmas.Bool.{or_parts}
use Rattle.std.proofs.lemmas.List.Sums.{sum_by-cons, sum_by-append}
use Rattle.lists.proofs.Sums.{sum_by-none}
use Rattle.sph_num.specs.Cover.{CoverSelves, MeetsItself}
use Rattle.cell_geom.specs.Cube.{deepest_level}
use Rattle.cell_tree.specs.declared.tree.Span.{Span}
use Rattle.cell_tree.specs.Laws.{CanBeMade}
use Rattle.cell_tree.specs.Spans.{group_of}
use Rattle.cell_tree.specs.Tree.{Made, cell_at, cells_of, is_leaf}
use Rattle.cell_tree.proofs.Orders.{cells_some}
use Rattle.pair_cover.specs.declared.looks.Limits.{Limits}
use Rattle.pair_cover.specs.Looks.{children_of, span_of, pair_spans, self_spans, twos, most_looks, spans_of}
use Rattle.pair_cover.specs.inner.Steps.{level_at}
use Rattle.pair_cover.proofs.ChildLists.{IsBelow, child_listed}
use Rattle.pair_cover.proofs.Families.{in_root, no_due_member, sum_by-children}
use Rattle.pair_cover.proofs.LookCases.{pairs_none}
use Rattle.pair_cover.proofs.LookSteps.{level_most, pair_cases, self_cases}
use Rattle.pair_cover.proofs.Shares.{share, own_share, some_itself, itself_from_some}
use Rattle.pair_cover.proofs.Sums.{sum_by-flat_map, sum_by-map, sum_by-agree, JustOne-from_sum}

module _ (made : Made) (due : List Bool) (limits : Limits) (can : CanBeMade made) where
  module _ (i : ℕ) (is_due : get_or due i false ≡ true) where
    abbrev own : Span → ℕ
    own s = own_share i (group_of made s)

    -- no two cells have a span in which a point meets itself
    pairs_own : (looks a b : ℕ) → sum_by own (pair_spans made due limits looks a b) ≡ 0
    pairs_own zero a b = rw (pairs_none made due limits a b) refl
    pairs_own (suc looks) a b =
        let first = λ (child : ℕ). pair_spans made due limits looks child b in
        let second = λ (child : ℕ). pair_spans made due limits looks a child in
        pair_cases made due limits (λ (spans : List Span). sum_by own spans ≡ 0) looks a b (λ d. refl)
        (λ d. sum_by-cons own (span_of a (Some b)) [])
        (λ f. sum_by-flat_map own first (children_of made a) ∙ sum_by-none (λ child. sum_by own (first child)) (children_of made a) (λ child c. pairs_own looks child b))
        (λ s f. sum_by-flat_map own second (children_of made b) ∙ sum_by-none (λ child. sum_by own (second child)) (children_of made b) (λ child c. pairs_own looks a child))

    -- a due member of a cell meets itself once in the cell's look
    selves_own : (looks cell : ℕ) → cell < length (cells_of made) → deepest_level + 1 ≤ looks + level_at made cell
        → sum_by own (self_spans made due limits looks cell) ≡ share (cell_at made cell).members i
    selves_own zero cell l enough = absurd (let m = level_most made can cell l in omega arith)
    selves_own (suc looks) cell l enough =
        self_cases made due limits (λ (spans : List Span). sum_by own spans ≡ share (cell_at made cell).members i) looks cell
        (λ d. sym (no_due_member made due cell i d is_due))
        (λ d. omega (arith, sum_by-cons own (span_of cell None) []))
        (λ s.
        let leaf : is_leaf made (cell_at made cell) ≡ false = (or_parts _ _ s).0 in
        let both = flat_map (λ two. pair_spans made due limits most_looks two.0 two.1) (twos (children_of made cell)) in
        let first : sum_by own (flat_map (self_spans made due limits looks) (children_of made cell)) ≡ share (cell_at made cell).members i =
        sum_by-flat_map own (self_spans made due limits looks) (children_of made cell)
        ∙ sum_by-agree _ (λ child. share (cell_at made child).members i) (children_of made cell) (λ child c.
        let p : IsBelow made cell child = child_listed made cell child can l c in
        selves_own looks child p.within (omega arith))
        ∙ sum_by-children made can cell i l leaf in
        let second : sum_by own both ≡ 0 =
        sum_by-flat_map own (λ two. pair_spans made due limits most_looks two.0 two.1) (twos (children_of made cell)) ∙ sum_by-none _ (twos (children_of made cell)) (λ two c. pairs_own most_looks two.0 two.1) in
        sum_by-append own (flat_map (self_spans made due limits looks) (children_of made cell)) both ∙ omega arith)

  -- so in all looks
  pub selves_covered : CoverSelves (map (group_of made) (spans_of made due limits)) (length made.points) (λ i. get_or due i false ≡ true)
  selves_covered i l d =
      JustOne-from_sum (own_share i) (MeetsItself i) (some_itself i) (itself_from_some i) (map (group_of made) (spans_of made due limits))
      (sum_by-map (own_share i) (group_of made) (spans_of made due limits) ∙ selves_own i d most_looks 0 (cells_some made) (omega arith) ∙ in_root made i l)
