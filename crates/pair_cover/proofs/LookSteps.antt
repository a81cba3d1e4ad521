-- What the looks at two cells and at one give, and how the spans that they add join.
use Rattle.std.proofs.Common.{◌≡◌, ℕ, zero, suc, ◌+◌, ◌*◌, ◌<◌, ◌≤◌, Bool, true, false, not, ◌||◌, leb, List, [], ◌∷◌, ◌++◌, length, take, drop, map, get_or, Some, None, sym, ap, ◌∙◌, subst, inl, inr, append_assoc, arith}
use Rattle.std.specs.List.{flat_map}
use Rattle.std.proofs.lemmas.Bool.{cases_Bool}
use Rattle.std.proofs.lemmas.List.{append-nil, take_more, take_all, drop_more, drop_all, flat_map_more}
use Rattle.std.proofs.lemmas.List.Concat.{flat_map-append}
use Rattle.std.proofs.lemmas.List.Folds.{flat_map-map}
use Rattle.cell_geom.specs.Gap.{gap2_of}
use Rattle.cell_tree.specs.declared.tree.Span.{Span}
use Rattle.cell_tree.specs.Due.{has_due, AreDueBefore}
use Rattle.cell_tree.specs.Laws.{CanBeMade}
use Rattle.cell_tree.specs.Tree.{Made, cells_of, cell_at}
use Rattle.cell_tree.proofs.Members.{sound_at}
use Rattle.pair_cover.specs.declared.looks.Limits.{Limits}
use Rattle.pair_cover.specs.Looks.{reach_of_two, drops, stops, splits_first, span_of, children_of, pair_spans, self_spans, twos, most_looks}
use Rattle.pair_cover.specs.inner.Steps.{Adds, level_at}
use Rattle.pair_cover.proofs.LookCases.{ends, pairs_none, pairs_dropped, pairs_stopped, pairs_first, pairs_second, selves_none, selves_dropped, selves_stopped, selves_split}
use Rattle.cell_geom.specs.Cube.{deepest_level}

module _ (made : Made) (due : List Bool) (limits : Limits) where
  -- what is dropped gives no span, by however many looks
  pub pairs_nothing : (looks a b : ℕ) → drops made due limits a b ≡ true → pair_spans made due limits looks a b ≡ []
  pairs_nothing zero a b d = pairs_none made due limits a b
  pairs_nothing (suc looks) a b d = pairs_dropped made due limits looks a b d

  pub selves_nothing : (looks cell : ℕ) → has_due made due cell ≡ false → self_spans made due limits looks cell ≡ []
  selves_nothing zero cell d = selves_none made due limits cell
  selves_nothing (suc looks) cell d = selves_dropped made due limits looks cell d

  -- what holds of each answer of a look at two cells holds of its spans
  pub pair_cases : (P : List Span → Type 0) (looks a b : ℕ) → (drops made due limits a b ≡ true → P []) → (drops made due limits a b ≡ false → P (span_of a (Some b) ∷ []))
      → (splits_first made a b ≡ true → P (flat_map (λ child. pair_spans made due limits looks child b) (children_of made a)))
      → (stops made limits a b ≡ false → splits_first made a b ≡ false → P (flat_map (λ child. pair_spans made due limits looks a child) (children_of made b)))
      → P (pair_spans made due limits (suc looks) a b)
  pair_cases P looks a b none span first second =
      elim (cases_Bool (drops made due limits a b)) [
        | inl d ↦ subst P (sym (pairs_dropped made due limits looks a b d)) (none d)
        | inr d ↦ elim (cases_Bool (stops made limits a b)) [
          | inl s ↦ subst P (sym (pairs_stopped made due limits looks a b d s)) (span d)
          | inr s ↦ elim (cases_Bool (splits_first made a b)) [
            | inl f ↦ subst P (sym (pairs_first made due limits looks a b d s f)) (first f)
            | inr f ↦ subst P (sym (pairs_second made due limits looks a b d s f)) (second s f)
          ]
        ]
      ]

  -- so at one cell
  pub self_cases : (P : List Span → Type 0) (looks cell : ℕ) → (has_due made due cell ≡ false → P []) → (has_due made due cell ≡ true → P (span_of cell None ∷ []))
      → (ends made limits cell ≡ false → P (flat_map (self_spans made due limits looks) (children_of made cell) ++ flat_map (λ two. pair_spans made due limits most_looks two.0 two.1) (twos (children_of made cell))))
      → P (self_spans made due limits (suc looks) cell)
  self_cases P looks cell none span below =
      elim (cases_Bool (has_due made due cell)) [
        | inr d ↦ subst P (sym (selves_dropped made due limits looks cell d)) (none d)
        | inl d ↦ elim (cases_Bool (ends made limits cell)) [
          | inl s ↦ subst P (sym (selves_stopped made due limits looks cell d s)) (span d)
          | inr s ↦ subst P (sym (selves_split made due limits looks cell d s)) (below s)
        ]
      ]

-- no cell is on a deeper level than the deepest
pub level_most : (made : Made) → CanBeMade made → (cell : ℕ) → cell < length (cells_of made) → level_at made cell ≤ deepest_level
level_most made can cell l = (sound_at made can cell l).held.in_box.level

module _ (made : Made) (before : List ℕ) where
  -- nothing is added
  pub Adds-nothing : (enough : ℕ) (spans : List Bool → ℕ → List Span) (old : List Span) → ((due : List Bool) (looks : ℕ) → AreDueBefore made due before → spans due looks ≡ []) → Adds made before enough spans old old
  Adds-nothing enough spans old h = record { added = λ due looks d l. sym (ap (λ xs. old ++ xs) (h due looks d) ∙ append-nil old) }

  -- with one look more, what stands for a look is added
  pub Adds-look : (fewer enough : ℕ) (below spans : List Bool → ℕ → List Span) (old new : List Span) → Adds made before fewer below old new → fewer + 1 ≤ enough
      → ((due : List Bool) (looks : ℕ) → AreDueBefore made due before → spans due (suc looks) ≡ below due looks) → Adds made before enough spans old new
  Adds-look fewer enough below spans old new a l h = record { added = λ due looks d m. at due looks d m }
    where
      at : (due : List Bool) (looks : ℕ) → AreDueBefore made due before → enough ≤ looks → new ≡ old ++ spans due looks
      at due zero d m = absurd (omega arith)
      at due (suc looks) d m = a.added due looks d (omega arith) ∙ ap (λ xs. old ++ xs) (sym (h due looks d))

  -- a span alone
  pub Adds-span : (enough : ℕ) (spans : List Bool → ℕ → List Span) (span : Span) (old new : List Span) → 1 ≤ enough → new ≡ old ++ span ∷ []
      → ((due : List Bool) (looks : ℕ) → AreDueBefore made due before → spans due (suc looks) ≡ span ∷ []) → Adds made before enough spans old new
  Adds-span enough spans span old new l e h =
      Adds-look 0 enough (λ due looks. span ∷ []) spans old new (record { added = λ due looks d m. e }) (omega arith) h

  -- as many looks as there are
  pub Adds-fixed : (enough looks : ℕ) (spans : List Bool → ℕ → List Span) (old new : List Span) → enough ≤ looks → Adds made before enough spans old new → Adds made before 0 (λ due n. spans due looks) old new
  Adds-fixed enough looks spans old new l a = record { added = λ due n d m. a.added due looks d l }

  -- one after another
  pub Adds-both : (enough other : ℕ) (first second : List Bool → ℕ → List Span) (old mid new : List Span) → other ≤ enough → Adds made before enough first old mid → Adds made before other second mid new
      → Adds made before enough (λ due looks. first due looks ++ second due looks) old new
  Adds-both enough other first second old mid new l a b = record {
    added = λ due looks d m. b.added due looks d (omega arith) ∙ ap (λ xs. xs ++ second due looks) (a.added due looks d m) ∙ append_assoc old (first due looks) (second due looks);
  }

  module _ (f : List Bool → ℕ → ℕ → List Span) (xs : List ℕ) (old : List Span) where
    -- the looks at the first of some cells
    abbrev pub AddsTo : ℕ → ℕ → List Span → Type 0
    AddsTo enough i new = Adds made before enough (λ due looks. flat_map (f due looks) (take i xs)) old new

    pub AddsTo-more : (enough other i x : ℕ) (mid new : List Span) → other ≤ enough → i < length xs → x ≡ get_or xs i 0 → AddsTo enough i mid → Adds made before other (λ due looks. f due looks x) mid new → AddsTo enough (i + 1) new
    AddsTo-more enough other i x mid new l m e a b = record {
      added = λ due looks d n.
          let joined : take (i + 1) xs ≡ take i xs ++ x ∷ [] = take_more xs i 0 m ∙ ap (λ k. take i xs ++ k ∷ []) (sym e) in
          b.added due looks d (omega arith) ∙ ap (λ ys. ys ++ f due looks x) (a.added due looks d n) ∙ flat_map_more (f due looks) old (take i xs) x
          ∙ ap (λ ys. old ++ flat_map (f due looks) ys) (sym joined);
    }

    pub AddsTo-all : (enough i : ℕ) (ys : List ℕ) (new : List Span) → length xs ≤ i → xs ≡ ys → AddsTo enough i new → Adds made before enough (λ due looks. flat_map (f due looks) ys) old new
    AddsTo-all enough i ys new l e a = record {
      added = λ due looks d m. a.added due looks d m ∙ ap (λ zs. old ++ flat_map (f due looks) zs) (take_all i xs l ∙ e);
    }

module _ (made : Made) (before : List ℕ) (g : List Bool → ℕ × ℕ → List Span) (xs : List ℕ) (old : List Span) where
  -- with the looks at each two of the cells from this one on, all looks at two of them are added
  pub record AddsTwos (i : ℕ) (new : List Span) : Type 0 where
    pub joined : (due : List Bool) → AreDueBefore made due before → new ++ flat_map (g due) (twos (drop i xs)) ≡ old ++ flat_map (g due) (twos xs)

  pub AddsTwos-more : (i x : ℕ) (mid new : List Span) → i < length xs → x ≡ get_or xs i 0 → AddsTwos i mid
      → Adds made before 0 (λ due looks. flat_map (λ y. g due (x, y)) (drop (i + 1) xs)) mid new → AddsTwos (i + 1) new
  AddsTwos-more i x mid new m e a b = record {
    joined = λ due d.
        let rest = drop (i + 1) xs in
        let split : drop i xs ≡ x ∷ rest = drop_more xs i 0 m ∙ ap (λ k. k ∷ rest) (sym e) in
        let parts : flat_map (g due) (twos (drop i xs)) ≡ flat_map (λ y. g due (x, y)) rest ++ flat_map (g due) (twos rest) =
        ap (λ ys. flat_map (g due) (twos ys)) split ∙ flat_map-append (g due) (map (λ y. (x, y)) rest) (twos rest)
        ∙ ap (λ zs. zs ++ flat_map (g due) (twos rest)) (flat_map-map (g due) (λ y. (x, y)) rest) in
        ap (λ zs. zs ++ flat_map (g due) (twos rest)) (b.added due 0 d (omega arith)) ∙ append_assoc mid (flat_map (λ y. g due (x, y)) rest) (flat_map (g due) (twos rest))
        ∙ ap (λ zs. mid ++ zs) (sym parts) ∙ a.joined due d;
  }

  pub AddsTwos-all : (i : ℕ) (new : List Span) → length xs ≤ i → AddsTwos i new → Adds made before 0 (λ due looks. flat_map (g due) (twos xs)) old new
  AddsTwos-all i new l a = record {
    added = λ due looks d m. sym (append-nil new) ∙ ap (λ ys. new ++ flat_map (g due) (twos ys)) (sym (drop_all i xs l)) ∙ a.joined due d;
  }

-- whether a look at two cells drops them, where one has a due member
pub drops_from_gap : (made : Made) (due : List Bool) (limits : Limits) (a b reach gap : ℕ) → (has_due made due a || has_due made due b) ≡ true → reach ≡ reach_of_two made a b
    → gap ≡ gap2_of (cell_at made a).cube (cell_at made b).cube limits.slack → leb (reach * reach) gap ≡ drops made due limits a b
drops_from_gap made due limits a b reach gap d r g =
    ap (λ n. leb (n * n) gap) r ∙ ap (λ n. leb (reach_of_two made a b * reach_of_two made a b) n) g
    ∙ ap (λ t. not t || leb (reach_of_two made a b * reach_of_two made a b) (gap2_of (cell_at made a).cube (cell_at made b).cube limits.slack)) (sym d)
