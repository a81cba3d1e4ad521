-- What one look at two cells or at one gives, case by case.
use Rattle.std.proofs.Common.{◌≡◌, ℕ, suc, ◌*◌, Bool, true, false, ◌&&◌, ◌||◌, ◌==◌, if◌then◌else◌, cond, leb, ltb, List, [], ◌∷◌, ◌++◌, flat_map, Some, None, refl}
use Rattle.std.proofs.lemmas.Bool.{true≢false, false≢true, or_parts}
use Rattle.cell_tree.specs.Due.{has_due}
use Rattle.cell_tree.specs.Spans.{is_leaf_cell, count_of}
use Rattle.cell_tree.specs.Tree.{Made, cell_at, is_leaf}
use Rattle.pair_cover.specs.declared.looks.Limits.{Limits}
use Rattle.pair_cover.specs.Looks.{children_of, drops, stops, splits_first, span_of, pair_spans, self_spans, twos, most_looks}

-- from which of two cells is split, that this one is no leaf
first_is_split : (x y z : Bool) → cond x false (cond y true z) ≡ true → x ≡ false
first_is_split true y z h = absurd (false≢true h)
first_is_split false y z h = refl

second_is_split : (x y z : Bool) → (x && y) ≡ false → cond x false (cond y true z) ≡ false → y ≡ false
second_is_split x false z p h = refl
second_is_split true true z p h = absurd (true≢false p)
second_is_split false true z p h = absurd (true≢false h)

module _ (made : Made) where
  -- of two cells of which neither is a leaf the first is split
  abbrev on_level : ℕ → ℕ → Bool
  on_level a b =
      if (cell_at made a).cube.level == (cell_at made b).cube.level then leb (count_of made b) (count_of made a)
      else ltb (cell_at made a).cube.level (cell_at made b).cube.level

  -- the cell that is split is no leaf
  pub first_more : (a b : ℕ) → splits_first made a b ≡ true → is_leaf made (cell_at made a) ≡ false
  first_more a b f = first_is_split (is_leaf_cell made a) (is_leaf_cell made b) (on_level a b) f

  pub second_more : (limits : Limits) (a b : ℕ) → stops made limits a b ≡ false → splits_first made a b ≡ false → is_leaf made (cell_at made b) ≡ false
  second_more limits a b s f = second_is_split (is_leaf_cell made a) (is_leaf_cell made b) (on_level a b) (or_parts _ _ s).0 f

-- a look at one cell gives its span
abbrev pub ends : Made → Limits → ℕ → Bool
ends made limits cell = is_leaf_cell made cell || leb (count_of made cell * count_of made cell) limits.pairs

module _ (made : Made) (due : List Bool) (limits : Limits) where
  -- with no look left
  pub pairs_none : (a b : ℕ) → pair_spans made due limits 0 a b ≡ []
  unfolding pair_spans
  pairs_none a b = refl

  -- the look at two cells: it drops them, gives their span, or splits the first or the second
  pub pairs_dropped : (looks a b : ℕ) → drops made due limits a b ≡ true → pair_spans made due limits (suc looks) a b ≡ []
  unfolding pair_spans
  pairs_dropped looks a b d = rw d refl

  pub pairs_stopped : (looks a b : ℕ) → drops made due limits a b ≡ false → stops made limits a b ≡ true → pair_spans made due limits (suc looks) a b ≡ span_of a (Some b) ∷ []
  unfolding pair_spans
  pairs_stopped looks a b d s = rw (d, s) refl

  pub pairs_first : (looks a b : ℕ) → drops made due limits a b ≡ false → stops made limits a b ≡ false → splits_first made a b ≡ true
      → pair_spans made due limits (suc looks) a b ≡ flat_map (λ child. pair_spans made due limits looks child b) (children_of made a)
  unfolding pair_spans
  pairs_first looks a b d s f = rw (d, s, f) refl

  pub pairs_second : (looks a b : ℕ) → drops made due limits a b ≡ false → stops made limits a b ≡ false → splits_first made a b ≡ false
      → pair_spans made due limits (suc looks) a b ≡ flat_map (λ child. pair_spans made due limits looks a child) (children_of made b)
  unfolding pair_spans
  pairs_second looks a b d s f = rw (d, s, f) refl

  -- so at one cell: with no look left
  pub selves_none : (cell : ℕ) → self_spans made due limits 0 cell ≡ []
  unfolding self_spans
  selves_none cell = refl

  -- the look at one cell: it drops it, gives its span, or splits it
  pub selves_dropped : (looks cell : ℕ) → has_due made due cell ≡ false → self_spans made due limits (suc looks) cell ≡ []
  unfolding self_spans
  selves_dropped looks cell d = rw d refl

  pub selves_stopped : (looks cell : ℕ) → has_due made due cell ≡ true → ends made limits cell ≡ true → self_spans made due limits (suc looks) cell ≡ span_of cell None ∷ []
  unfolding self_spans
  selves_stopped looks cell d s = rw (d, s) refl

  pub selves_split : (looks cell : ℕ) → has_due made due cell ≡ true → ends made limits cell ≡ false
      → self_spans made due limits (suc looks) cell
      ≡ flat_map (self_spans made due limits looks) (children_of made cell) ++ flat_map (λ two. pair_spans made due limits most_looks two.0 two.1) (twos (children_of made cell))
  unfolding self_spans
  selves_split looks cell d s = rw (d, s) refl
