-- Each two points in reach of which one is due meet in just one span, wherever they have moved within the slack.
use Rattle.std.proofs.Common.{◌≡◌, ℕ, zero, suc, ◌+◌, ◌*◌, ◌<◌, ◌≤◌, Bool, true, false, List, [], map, flat_map, length, get_or, Some, None, refl, sym, ap, ◌∙◌, ◌⊎◌, inl, inr, arith}
use Rattle.std.specs.List.{Contains, sum_by}
use Rattle.std.proofs.lemmas.Bool.{or_cases, or_parts, not-true, leb-true}
use Rattle.std.proofs.lemmas.List.Sums.{sum_by-cons, sum_by-append}
use Rattle.sph_num.specs.Cover.{CoverPairs, Meets}
use Rattle.cell_geom.specs.Cube.{deepest_level}
use Rattle.cell_geom.specs.Gap.{gap2_of}
use Rattle.cell_tree.specs.declared.tree.Span.{Span}
use Rattle.cell_tree.specs.Due.{has_due}
use Rattle.cell_tree.specs.Laws.{CanBeMade}
use Rattle.cell_tree.specs.Spans.{group_of}
use Rattle.cell_tree.specs.Tree.{Made, cell_at, cells_of, is_leaf}
use Rattle.cell_tree.proofs.Orders.{cells_some}
use Rattle.pair_cover.specs.declared.looks.Limits.{Limits}
use Rattle.pair_cover.specs.Covering.{AreMoved, AreInReach}
use Rattle.pair_cover.specs.Looks.{children_of, drops, span_of, pair_spans, self_spans, twos, most_looks, spans_of, reach_of_two}
use Rattle.pair_cover.specs.inner.Steps.{level_at}
use Rattle.pair_cover.proofs.ChildLists.{IsBelow, child_listed}
use Rattle.pair_cover.proofs.Distances.{not_in_reach, not_in_reach_turned}
use Rattle.pair_cover.proofs.Families.{in_root, no_due_member, sum_by-children}
use Rattle.pair_cover.proofs.LookCases.{first_more, second_more}
use Rattle.pair_cover.proofs.LookSteps.{level_most, pair_cases, self_cases}
use Rattle.pair_cover.proofs.Shares.{share, share_cases, share_of_two, some_of_two, two_from_some}
use Rattle.pair_cover.proofs.Sums.{sum_by-flat_map, sum_by-map, sum_by-agree, sum_by-products, sum_by-products_turned, sum_by-twos, sum_by-twos_agree, JustOne-from_sum}

-- one factor of each product is none
products_none : (p q r s : ℕ) → (p ≡ 0) ⊎ (q ≡ 0) → (r ≡ 0) ⊎ (s ≡ 0) → p * q + r * s ≡ 0
products_none p q r s h k = let e = product p q h in let f = product r s k in omega arith
  where
    product : (p q : ℕ) → (p ≡ 0) ⊎ (q ≡ 0) → p * q ≡ 0
    product p q (inl e) = rw e (omega arith)
    product p q (inr e) = rw e (omega arith)

module _ (made : Made) (due : List Bool) (limits : Limits) (can : CanBeMade made) where
  module _ (places : List (List ℕ)) (moved : AreMoved made limits.slack places) (i j : ℕ) (near : AreInReach made places i j) (one_due : (get_or due i false ≡ true) ⊎ (get_or due j false ≡ true)) where
    -- how often the two points meet in two cells, and in one
    abbrev two_of : ℕ → ℕ → ℕ
    two_of a b = share (cell_at made a).members i * share (cell_at made b).members j + share (cell_at made a).members j * share (cell_at made b).members i

    abbrev one_of : ℕ → ℕ
    one_of cell = share (cell_at made cell).members i * share (cell_at made cell).members j

    abbrev shares : Span → ℕ
    shares s = share_of_two i j (group_of made s)

    -- in cells with no due member the two don't meet
    none_due : (a b : ℕ) → has_due made due a ≡ false → has_due made due b ≡ false → two_of a b ≡ 0
    none_due a b e f =
        elim one_due [
          | inl d ↦ products_none _ _ _ _ (inl (no_due_member made due a i e d)) (inr (no_due_member made due b i f d))
          | inr d ↦ products_none _ _ _ _ (inr (no_due_member made due b j f d)) (inl (no_due_member made due a j e d))
        ]

    -- nor in cells too far apart for it
    none_near : (a b : ℕ) → a < length (cells_of made) → b < length (cells_of made) → reach_of_two made a b * reach_of_two made a b ≤ gap2_of (cell_at made a).cube (cell_at made b).cube limits.slack → two_of a b ≡ 0
    none_near a b l m far =
        products_none _ _ _ _
        (not_both i j (λ c d. not_in_reach made can limits.slack places moved a b l m far i j c d near))
        (not_both j i (λ c d. not_in_reach_turned made can limits.slack places moved a b l m far i j c d near))
      where
        not_both : (x y : ℕ) → (Contains (cell_at made a).members x → Contains (cell_at made b).members y → ⊥) → (share (cell_at made a).members x ≡ 0) ⊎ (share (cell_at made b).members y ≡ 0)
        not_both x y apart =
            elim (share_cases (cell_at made a).members x) [
              | inl v ↦ elim (share_cases (cell_at made b).members y) [
                | inl w ↦ absurd (apart v.0 w.0)
                | inr w ↦ inr w.1
              ]
              | inr v ↦ inl v.1
            ]

    -- so a look that drops two cells loses nothing
    none_dropped : (a b : ℕ) → a < length (cells_of made) → b < length (cells_of made) → drops made due limits a b ≡ true → two_of a b ≡ 0
    none_dropped a b l m d =
        elim (or_cases _ _ d) [
          | inl t ↦ let w = or_parts _ _ (not-true _ t) in none_due a b w.0 w.1
          | inr t ↦ none_near a b l m (leb-true _ _ t)
        ]

    -- each of a split cell's children with the other cell
    split_first : (a b : ℕ) (f : ℕ → ℕ) → a < length (cells_of made) → is_leaf made (cell_at made a) ≡ false → ((child : ℕ) → Contains (children_of made a) child → f child ≡ two_of child b) → sum_by f (children_of made a) ≡ two_of a b
    split_first a b f l leaf h =
        let first = share (cell_at made b).members j in
        let second = share (cell_at made b).members i in
        sum_by-agree f (λ child. two_of child b) (children_of made a) h
        ∙ sum_by-products (λ child. share (cell_at made child).members i) (λ child. share (cell_at made child).members j) first second (children_of made a)
        ∙ ap (λ n. n * first + sum_by (λ child. share (cell_at made child).members j) (children_of made a) * second) (sum_by-children made can a i l leaf)
        ∙ ap (λ n. share (cell_at made a).members i * first + n * second) (sum_by-children made can a j l leaf)

    split_second : (a b : ℕ) (f : ℕ → ℕ) → b < length (cells_of made) → is_leaf made (cell_at made b) ≡ false → ((child : ℕ) → Contains (children_of made b) child → f child ≡ two_of a child) → sum_by f (children_of made b) ≡ two_of a b
    split_second a b f l leaf h =
        let first = share (cell_at made a).members i in
        let second = share (cell_at made a).members j in
        sum_by-agree f (λ child. two_of a child) (children_of made b) h
        ∙ sum_by-products_turned (λ child. share (cell_at made child).members j) (λ child. share (cell_at made child).members i) first second (children_of made b)
        ∙ ap (λ n. first * n + second * sum_by (λ child. share (cell_at made child).members i) (children_of made b)) (sum_by-children made can b j l leaf)
        ∙ ap (λ n. first * share (cell_at made b).members j + second * n) (sum_by-children made can b i l leaf)

    -- the look at two cells, if it has looks enough
    pairs_total : (looks a b : ℕ) → a < length (cells_of made) → b < length (cells_of made) → most_looks ≤ looks + level_at made a + level_at made b
        → sum_by shares (pair_spans made due limits looks a b) ≡ two_of a b
    pairs_total zero a b l m enough = absurd (let p = level_most made can a l in let q = level_most made can b m in omega arith)
    pairs_total (suc looks) a b l m enough =
        pair_cases made due limits (λ (spans : List Span). sum_by shares spans ≡ two_of a b) looks a b (λ d. sym (none_dropped a b l m d))
        (λ d. omega (arith, sum_by-cons shares (span_of a (Some b)) []))
        (λ f. sum_by-flat_map shares (λ child. pair_spans made due limits looks child b) (children_of made a)
        ∙ split_first a b _ l (first_more made a b f) (λ child c.
        let p : IsBelow made a child = child_listed made a child can l c in
        pairs_total looks child b p.within m (omega arith)))
        (λ s f. sum_by-flat_map shares (λ child. pair_spans made due limits looks a child) (children_of made b)
        ∙ split_second a b _ m (second_more made limits a b s f) (λ child c.
        let p : IsBelow made b child = child_listed made b child can m c in
        pairs_total looks a child l p.within (omega arith)))

    -- two children of a cell have looks enough
    children_total : (cell x y : ℕ) → cell < length (cells_of made) → Contains (children_of made cell) x → Contains (children_of made cell) y → sum_by shares (pair_spans made due limits most_looks x y) ≡ two_of x y
    children_total cell x y l c d =
        let p : IsBelow made cell x = child_listed made cell x can l c in
        let q : IsBelow made cell y = child_listed made cell y can l d in
        pairs_total most_looks x y p.within q.within (omega arith)

    -- the look at one cell
    selves_total : (looks cell : ℕ) → cell < length (cells_of made) → deepest_level + 1 ≤ looks + level_at made cell → sum_by shares (self_spans made due limits looks cell) ≡ one_of cell
    selves_total zero cell l enough = absurd (let m = level_most made can cell l in omega arith)
    selves_total (suc looks) cell l enough =
        self_cases made due limits (λ (spans : List Span). sum_by shares spans ≡ one_of cell) looks cell
        (λ d. sym (
        elim one_due [
          | inl k ↦ let e = no_due_member made due cell i d k in rw e (omega arith)
          | inr k ↦ let e = no_due_member made due cell j d k in rw e (omega arith)
        ]))
        (λ d. omega (arith, sum_by-cons shares (span_of cell None) []))
        (λ s.
        let leaf : is_leaf made (cell_at made cell) ≡ false = (or_parts _ _ s).0 in
        let both = λ (two : ℕ × ℕ). pair_spans made due limits most_looks two.0 two.1 in
        let children = children_of made cell in
        let share_i = λ (child : ℕ). share (cell_at made child).members i in
        let share_j = λ (child : ℕ). share (cell_at made child).members j in
        let first : sum_by shares (flat_map (self_spans made due limits looks) children) ≡ sum_by one_of children =
        sum_by-flat_map shares (self_spans made due limits looks) children
        ∙ sum_by-agree _ one_of children (λ child c.
        let p : IsBelow made cell child = child_listed made cell child can l c in
        selves_total looks child p.within (omega arith)) in
        let second : sum_by shares (flat_map both (twos children)) ≡ sum_by (λ (t : ℕ × ℕ). two_of t.0 t.1) (twos children) =
        sum_by-flat_map shares both (twos children)
        ∙ sum_by-twos_agree (λ t. sum_by shares (both t)) (λ t. two_of t.0 t.1) children (λ x y c d. children_total cell x y l c d) in
        sum_by-append shares (flat_map (self_spans made due limits looks) children) (flat_map both (twos children))
        ∙ ap (λ n. n + sum_by shares (flat_map both (twos children))) first
        ∙ ap (λ n. sum_by one_of children + n) second
        ∙ sum_by-twos share_i share_j children
        ∙ ap (λ n. n * sum_by share_j children) (sum_by-children made can cell i l leaf)
        ∙ ap (λ n. share (cell_at made cell).members i * n) (sum_by-children made can cell j l leaf))

  -- so in all looks
  pub pairs_covered : (places : List (List ℕ)) → AreMoved made limits.slack places → CoverPairs (map (group_of made) (spans_of made due limits)) (length made.points) (AreInReach made places) (λ i. get_or due i false ≡ true)
  pairs_covered places moved i j l m ne near d =
      let of_i = in_root made i l in
      let of_j = in_root made j m in
      JustOne-from_sum (share_of_two i j) (Meets i j) (some_of_two i j) (two_from_some i j ne) (map (group_of made) (spans_of made due limits))
      (sum_by-map (share_of_two i j) (group_of made) (spans_of made due limits) ∙ selves_total places moved i j near d most_looks 0 (cells_some made) (omega arith) ∙ rw (of_i, of_j) refl)
