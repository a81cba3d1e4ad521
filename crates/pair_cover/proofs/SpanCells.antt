-- The cells that spans name: cells of the tree, and of two neither contains the other.
use Rattle.std.proofs.Common.{true, ℕ, zero, suc, ◌<◌, ◌≤◌, Bool, List, [], ◌∷◌, map, length, Some, None, sym, ◌∙◌, inl, inr, arith, false, ◌≡◌}
use Rattle.std.specs.List.{All, Contains, flat_map}
use Rattle.std.proofs.lemmas.Bool.{cases_lt, false_from_ne_true, true≢false}
use Rattle.std.proofs.lemmas.List.Elements.{All-nil, All-cons, All-append, All-map}
use Rattle.lists.proofs.Rising.{Rises, Rises-tail, head_below}
use Rattle.lists.proofs.Elements.{Contains-head, Contains-later, All-from_Contains, All-flat_map}
use Rattle.cell_tree.specs.Laws.{CanBeMade}
use Rattle.cell_tree.specs.Spans.{IsSpan}
use Rattle.cell_tree.specs.Tree.{Made, cells_of, cell_at, lies_in}
use Rattle.cell_geom.proofs.Nesting.{CubeContains-trans, CubeContains-turned}
use Rattle.cell_tree.proofs.Family.{run_inside, run_outside, child_level, child_lies}
use Rattle.cell_tree.proofs.Orders.{cells_some}
use Rattle.pair_cover.specs.declared.looks.Limits.{Limits}
use Rattle.pair_cover.specs.Looks.{span_of, pair_spans, self_spans, spans_of, children_of, twos, most_looks}
use Rattle.pair_cover.proofs.ChildLists.{children_rise, IsParent-from_children}
use Rattle.pair_cover.proofs.LookCases.{pairs_none, selves_none}
use Rattle.pair_cover.proofs.LookSteps.{pair_cases, self_cases}

-- what holds of each two of a rising list holds of all its twos
pub All-twos : (P : ℕ × ℕ → Type 0) (xs : List ℕ) → Rises xs → ((x y : ℕ) → Contains xs x → Contains xs y → x < y → P (x, y)) → All P (twos xs)
All-twos P [] r h = All-nil P
All-twos P (x ∷ xs) r h =
    All-append P (map (λ y. (x, y)) xs) (twos xs)
    (All-map P (λ y. (x, y)) xs (All-from_Contains (λ y. P (x, y)) xs (λ y c. h x y (Contains-head x xs) (Contains-later x xs y c) (head_below x xs r y c))))
    (All-twos P xs (Rises-tail x xs r) (λ y z c d l. h y z (Contains-later x xs y c) (Contains-later x xs z d) l))

-- two cells of the tree of which neither contains the other
pub record AreApart (made : Made) (a b : ℕ) : Type 0 where
  pub first : a < length (cells_of made)
  pub second : b < length (cells_of made)
  pub not_inside : lies_in made a b ≡ false
  pub not_outside : lies_in made b a ≡ false

turned : (made : Made) (a b : ℕ) → AreApart made a b → AreApart made b a
turned made a b p = record { first = p.second; second = p.first; not_inside = p.not_outside; not_outside = p.not_inside }

-- of two cells that contain one cell the earlier contains the other
nested_over : (made : Made) (a b c : ℕ) → a < length (cells_of made) → b < length (cells_of made) → c < length (cells_of made) → a ≤ b → lies_in made a c ≡ true → lies_in made b c ≡ true
    → lies_in made a b ≡ true
nested_over made a b c la lb lc low p q =
    let u = run_outside made a c la lc p in
    let v = run_outside made b c lb lc q in
    run_inside made a b la low (let x = u.1 in let y = v.0 in omega arith)

module _ (made : Made) (can : CanBeMade made) where
  -- a child of one of two cells apart is apart from the other
  child_apart_first : (a b c : ℕ) → AreApart made a b → Contains (children_of made a) c → AreApart made c b
  child_apart_first a b c p m =
      let q = IsParent-from_children made a p.first c m in
      let lies = child_lies made a c q in
      record {
        first = q.within;
        second = p.second;
        not_inside = false_from_ne_true (lies_in made c b) (λ h. true≢false (sym (CubeContains-trans (cell_at made a).cube (cell_at made c).cube (cell_at made b).cube lies h) ∙ p.not_inside));
        not_outside = false_from_ne_true (lies_in made b c) (λ h. elim (cases_lt b a) [
          | inl low ↦ true≢false (sym (nested_over made b a c p.second p.first q.within (omega arith) h lies) ∙ p.not_outside)
          | inr low ↦ true≢false (sym (nested_over made a b c p.first p.second q.within low lies h) ∙ p.not_inside)
        ]);
      }

  child_apart_second : (a b c : ℕ) → AreApart made a b → Contains (children_of made b) c → AreApart made a c
  child_apart_second a b c p m = turned made c a (child_apart_first b a c (turned made a b p) m)

  -- two children are apart
  children_apart : (cell c d : ℕ) → cell < length (cells_of made) → Contains (children_of made cell) c → Contains (children_of made cell) d → c < d → AreApart made c d
  children_apart cell c d l m n low =
      let p = IsParent-from_children made cell l c m in
      let q = IsParent-from_children made cell l d n in
      let no : lies_in made d c ≡ true → ⊥ = λ h. let w = run_outside made d c q.within p.within h in let x = w.0 in omega arith in
      record {
        first = p.within;
        second = q.within;
        not_inside = false_from_ne_true (lies_in made c d) (λ h. no (CubeContains-turned (cell_at made c).cube (cell_at made d).cube (child_level made cell c p ∙ sym (child_level made cell d q)) h));
        not_outside = false_from_ne_true (lies_in made d c) no;
      }

  module _ (due : List Bool) (limits : Limits) where
    -- a look at two cells apart
    pair_cells : (looks a b : ℕ) → AreApart made a b → All (IsSpan made) (pair_spans made due limits looks a b)
    pair_cells zero a b p = rw (pairs_none made due limits a b) (All-nil (IsSpan made))
    pair_cells (suc looks) a b p =
        pair_cases made due limits (All (IsSpan made)) looks a b (λ d. All-nil (IsSpan made))
        (λ d. All-cons (IsSpan made) (span_of a (Some b)) [] (record { first = p.first; second = (p.second, p.not_inside, p.not_outside) }) (All-nil (IsSpan made)))
        (λ f. All-flat_map (IsSpan made) (λ child. pair_spans made due limits looks child b) (children_of made a)
        (All-from_Contains (λ child. All (IsSpan made) (pair_spans made due limits looks child b)) (children_of made a) (λ c m. pair_cells looks c b (child_apart_first a b c p m))))
        (λ s f. All-flat_map (IsSpan made) (λ child. pair_spans made due limits looks a child) (children_of made b)
        (All-from_Contains (λ child. All (IsSpan made) (pair_spans made due limits looks a child)) (children_of made b) (λ c m. pair_cells looks a c (child_apart_second a b c p m))))

    -- looks at each two children of a cell
    twos_cells : (cell : ℕ) → cell < length (cells_of made) → All (λ (two : ℕ × ℕ). All (IsSpan made) (pair_spans made due limits most_looks two.0 two.1)) (twos (children_of made cell))
    twos_cells cell l =
        All-twos (λ two. All (IsSpan made) (pair_spans made due limits most_looks two.0 two.1)) (children_of made cell) (children_rise made cell)
        (λ c d n o low. pair_cells most_looks c d (children_apart cell c d l n o low))

    -- a look at one cell
    self_cells : (looks cell : ℕ) → cell < length (cells_of made) → All (IsSpan made) (self_spans made due limits looks cell)
    self_cells zero cell l = rw (selves_none made due limits cell) (All-nil (IsSpan made))
    self_cells (suc looks) cell l =
        self_cases made due limits (All (IsSpan made)) looks cell (λ d. All-nil (IsSpan made))
        (λ d. All-cons (IsSpan made) (span_of cell None) [] (record { first = l; second = tt }) (All-nil (IsSpan made)))
        (λ s. All-append (IsSpan made) (flat_map (self_spans made due limits looks) (children_of made cell)) (flat_map (λ two. pair_spans made due limits most_looks two.0 two.1) (twos (children_of made cell)))
        (All-flat_map (IsSpan made) (self_spans made due limits looks) (children_of made cell)
        (All-from_Contains (λ child. All (IsSpan made) (self_spans made due limits looks child)) (children_of made cell) (λ c m. self_cells looks c ((IsParent-from_children made cell l c m).within))))
        (All-flat_map (IsSpan made) (λ two. pair_spans made due limits most_looks two.0 two.1) (twos (children_of made cell)) (twos_cells cell l)))

    -- the spans of a tree
    pub spans_cells : All (IsSpan made) (spans_of made due limits)
    spans_cells = self_cells most_looks 0 (cells_some made)
