-- The list of a tree's leaves, and how the leaves below two cells lie.
use Rattle.std.proofs.Common.{◌≡◌, ℕ, zero, suc, ◌+◌, ◌-◌, ◌<◌, ◌≤◌, Bool, true, false, cond, List, [], ◌∷◌, length, take, get_or, filter, count_by, refl, sym, ap, ◌∙◌, subst, ◌⊎◌, inl, inr, arith}
use Rattle.std.proofs.lemmas.Bool.{cases_Bool, cases_lt, true≢false}
use Rattle.std.proofs.lemmas.List.{take_all}
use Rattle.std.proofs.lemmas.List.Sums.{length-filter, sum_by-cons, sum_by_more}
use Rattle.std.specs.List.{range_with_len}
use Rattle.std.proofs.lemmas.List.FromFn.{length-range_with_len}
use Rattle.lists.proofs.Ranges.{number_at}
use Rattle.cell_tree.specs.Spans.{is_leaf_cell, leaf_cells}
use Rattle.cell_tree.specs.Tree.{Made, cells_of, cell_at, no_cell, is_leaf, leaf_count, leaves_before, AreLeavesBelow, IsLeafCell, lies_in}
use Rattle.cell_geom.proofs.Nesting.{CubeContains-trans, CubeContains-sharing}
use Rattle.cell_tree.proofs.LeafCounts.{leaves_before-all}

module _ {X : Type 0} (p : X → Bool) where
  -- a first element that passes counts
  count_by-yes : (x : X) (xs : List X) → p x ≡ true → count_by p (x ∷ xs) ≡ suc (count_by p xs)
  count_by-yes x xs t = sum_by-cons (λ y. cond (p y) 1 0) x xs ∙ ap (λ b. cond b 1 0 + count_by p xs) t ∙ omega arith

  -- one that does not pass adds nothing
  count_by-no : (x : X) (xs : List X) → p x ≡ false → count_by p (x ∷ xs) ≡ count_by p xs
  count_by-no x xs f = sum_by-cons (λ y. cond (p y) 1 0) x xs ∙ ap (λ b. cond b 1 0 + count_by p xs) f ∙ omega arith

  -- an element that passes stands in the filtered list after as many as pass before it
  pub filter_place : (xs : List X) (i : ℕ) (d : X) → i < length xs → p (get_or xs i d) ≡ true → get_or (filter p xs) (count_by p (take i xs)) d ≡ get_or xs i d
  filter_place [] i d l t = absurd (omega arith)
  filter_place (x ∷ xs) zero d l t = ap (λ b. get_or (cond b (x ∷ filter p xs) (filter p xs)) 0 d) t
  filter_place (x ∷ xs) (suc i) d l t =
      let ih = filter_place xs i d (omega arith) t in
      elim (cases_Bool (p x)) [
        | inl y ↦
            ap (λ k. get_or (filter p (x ∷ xs)) k d) (count_by-yes x (take i xs) y)
            ∙ ap (λ b. get_or (cond b (x ∷ filter p xs) (filter p xs)) (suc (count_by p (take i xs))) d) y ∙ ih
        | inr n ↦
            ap (λ k. get_or (filter p (x ∷ xs)) k d) (count_by-no x (take i xs) n)
            ∙ ap (λ b. get_or (cond b (x ∷ filter p xs) (filter p xs)) (count_by p (take i xs)) d) n ∙ ih
      ]

  -- an element that passes, before which so many pass
  pub record PassesAfter (xs : List X) (number : ℕ) : Type 0 where
    pub place : ℕ
    pub within : place < length xs
    pub passes : (d : X) → p (get_or xs place d) ≡ true
    pub count : count_by p (take place xs) ≡ number

  -- each number below the count is that of an element that passes
  pub passes_after : (xs : List X) (number : ℕ) → number < count_by p xs → PassesAfter xs number
  passes_after [] number l = absurd (omega arith)
  passes_after (x ∷ xs) number l =
      elim (cases_Bool (p x)) [
        | inl t ↦ let e = count_by-yes x xs t in first t number (λ k m. passes_after xs k (omega arith))
        | inr f ↦
            let e = count_by-no x xs f in
            let w = passes_after xs number (omega arith) in
            record { place = suc w.place; within = let m = w.within in omega arith; passes = w.passes; count = count_by-no x (take w.place xs) f ∙ w.count }
      ]
    where
      first : p x ≡ true → (n : ℕ) → ((k : ℕ) → n ≡ suc k → PassesAfter xs k) → PassesAfter (x ∷ xs) n
      first t zero ih = record { place = 0; within = omega arith; passes = λ d. t; count = refl }
      first t (suc k) ih =
          let w = ih k refl in
          record { place = suc w.place; within = let m = w.within in omega arith; passes = w.passes; count = count_by-yes x (take w.place xs) t ∙ ap suc w.count }

-- what passes is counted by its places too
count_places : {X : Type 0} (p : X → Bool) (d : X) (xs : List X) (k : ℕ) → k ≤ length xs → count_by (λ i. p (get_or xs i d)) (take k (range_with_len 0 (length xs))) ≡ count_by p (take k xs)
count_places p d xs zero l = refl
count_places p d xs (suc k) l =
    let all = range_with_len 0 (length xs) in
    let e : suc k ≡ k + 1 = omega arith in
    let ih = count_places p d xs k (omega arith) in
    let n = length-range_with_len 0 (length xs) in
    let more = sum_by_more (λ i. cond (p (get_or xs i d)) 1 0) all k 0 (omega arith) in
    let more' = sum_by_more (λ x. cond (p x) 1 0) xs k d (omega arith) in
    let here = number_at (length xs) k 0 (omega arith) in
    rw e (
    more ∙ ap (λ m. m + cond (p (get_or xs (get_or all k 0) d)) 1 0) ih
    ∙ ap (λ i. count_by p (take k xs) + cond (p (get_or xs i d)) 1 0) here ∙ sym more'
    )

module _ (made : Made) where
  -- the leaves before a cell, counted by their numbers
  leaf_cells_before : (cell : ℕ) → cell ≤ length (cells_of made) → count_by (is_leaf_cell made) (take cell (range_with_len 0 (length (cells_of made)))) ≡ leaves_before made cell
  leaf_cells_before = count_places (is_leaf made) no_cell (cells_of made)

  -- each leaf is in the list
  pub length-leaf_cells : length (leaf_cells made) ≡ leaf_count made
  length-leaf_cells =
      let all = range_with_len 0 (length (cells_of made)) in
      length-filter (is_leaf_cell made) all
      ∙ ap (count_by (is_leaf_cell made)) (sym (take_all (length (cells_of made)) all (omega (arith, length-range_with_len 0 (length (cells_of made))))))
      ∙ leaf_cells_before (length (cells_of made)) (omega arith) ∙ leaves_before-all made

  -- the leaf of this number is the cell at its place
  pub get_or-leaf_cells : (leaf cell d : ℕ) → IsLeafCell made leaf cell → get_or (leaf_cells made) leaf d ≡ cell
  get_or-leaf_cells leaf cell d is =
      let all = range_with_len 0 (length (cells_of made)) in
      let here = number_at (length (cells_of made)) cell d is.within in
      let w = is.within in
      ap (λ k. get_or (leaf_cells made) k d) (sym is.number ∙ sym (leaf_cells_before cell (omega arith)))
      ∙ filter_place (is_leaf_cell made) all cell d (omega (arith, length-range_with_len 0 (length (cells_of made)))) (ap (is_leaf_cell made) here ∙ is.stands)
      ∙ here

  -- each number below the count is that of a leaf
  pub leaf_named : (leaf : ℕ) → leaf < leaf_count made → (cell : ℕ) × IsLeafCell made leaf cell
  leaf_named leaf l =
      let all = range_with_len 0 (length (cells_of made)) in
      let w = passes_after (is_leaf_cell made) all leaf (omega (arith, length-filter (is_leaf_cell made) all, length-leaf_cells)) in
      let m : w.place < length (cells_of made) = omega (arith, w.within, length-range_with_len 0 (length (cells_of made))) in (
        w.place,
        record {
          within = m;
          stands = ap (is_leaf_cell made) (sym (number_at (length (cells_of made)) w.place 0 m)) ∙ w.passes 0;
          number = sym (leaf_cells_before w.place (omega arith)) ∙ w.count;
        },
      )

  -- and stands at its place
  pub IsLeafCell-at : (leaf d : ℕ) → leaf < leaf_count made → IsLeafCell made leaf (get_or (leaf_cells made) leaf d)
  IsLeafCell-at leaf d l =
      let w = leaf_named leaf l in
      subst (IsLeafCell made leaf) (sym (get_or-leaf_cells leaf w.0 d w.1)) w.1

module _ (made : Made) (a b from to from' to' : ℕ) (below : AreLeavesBelow made a from to) (below' : AreLeavesBelow made b from' to') where
  -- no leaf lies below two cells of which neither contains the other
  pub apart_leaves : lies_in made a b ≡ false → lies_in made b a ≡ false → (leaf : ℕ) → from ≤ leaf → leaf < to → from' ≤ leaf → leaf < to' → ⊥
  apart_leaves apart turned leaf low high low' high' =
      let within = below.within in
      let w = leaf_named made leaf (omega arith) in
      let p = below.inside leaf w.0 w.1 low high in
      let q = below'.inside leaf w.0 w.1 low' high' in
      elim (cases_lt (cell_at made a).cube.level (cell_at made b).cube.level) [
        | inl l ↦ true≢false (sym (CubeContains-sharing (cell_at made a).cube (cell_at made b).cube (cell_at made w.0).cube (omega arith) p q) ∙ apart)
        | inr l ↦ true≢false (sym (CubeContains-sharing (cell_at made b).cube (cell_at made a).cube (cell_at made w.0).cube l q p) ∙ turned)
      ]

  -- so the leaves of the one come before those of the other
  pub ranges_apart : lies_in made a b ≡ false → lies_in made b a ≡ false → (to ≤ from') ⊎ (to' ≤ from)
  ranges_apart apart turned =
      let some = below.some in
      let some' = below'.some in
      elim (cases_lt from' to) [
        | inl l ↦ elim (cases_lt from to') [
          | inl l' ↦ elim (cases_lt from from') [
            | inl m ↦ absurd (apart_leaves apart turned from' (omega arith) l (omega arith) some')
            | inr m ↦ absurd (apart_leaves apart turned from (omega arith) some m l')
          ]
          | inr m ↦ inr m
        ]
        | inr m ↦ inl m
      ]

  -- the leaves below an inner cell lie below the outer one
  pub nested_ranges : lies_in made a b ≡ true → (from ≤ from') × (to' ≤ to)
  nested_ranges h = ((outer from' (omega arith) some').0, let w = (outer (to' - 1) (omega arith) (omega arith)).1 in omega arith)
    where
      some' : from' < to'
      some' = below'.some

      outer : (leaf : ℕ) → from' ≤ leaf → leaf < to' → (from ≤ leaf) × (leaf < to)
      outer leaf low high =
          let within = below'.within in
          let w = leaf_named made leaf (omega arith) in
          below.outside leaf w.0 w.1 (CubeContains-trans (cell_at made a).cube (cell_at made b).cube (cell_at made w.0).cube h (below'.inside leaf w.0 w.1 low high))
