-- Leaves by their numbers: which pass a test on their cells, on their lists of spans, or on the counts before them.
use Rattle.std.proofs.Common.{◌≡◌, ℕ, zero, suc, ◌+◌, ◌-◌, ◌<◌, ◌≤◌, Bool, true, false, cond, eqb, ltb, List, [], ◌∷◌, ◌++◌, length, take, get_or, map, filter, slice_index, append-nil, ◌||◌, refl, sym, ap, ◌∙◌, subst, inl, inr, arith}
use Rattle.std.specs.Prelude.{None}
use Rattle.std.specs.List.{Contains, list_any, range_with_len}
use Rattle.std.specs.List.Sorted.{IsStrictlyIncreasing}
use Rattle.std.proofs.lemmas.Bool.{cases_Bool, eqb-true, eqb-false, lt-ltb, le-ltb}
use Rattle.std.proofs.lemmas.List.{map-append, length-map, take_all, get_or-map}
use Rattle.std.proofs.lemmas.List.Elements.{filter-append, filter_more}
use Rattle.std.proofs.lemmas.List.Kept.{IsStrictlyIncreasing-filter}
use Rattle.lists.proofs.Ranges.{numbers_rise, below_from_numbers, range_push}
use Rattle.lists.proofs.Elements.{Contains-from_filter, Contains-head, Contains-later}
use Rattle.sph_num.specs.Ranges.{most_particles}
use Rattle.cell_tree.specs.declared.tree.Span.{Span}
use Rattle.cell_tree.specs.Due.{AreDueBefore, has_due}
use Rattle.cell_tree.specs.Laws.{CanBeMade}
use Rattle.cell_tree.specs.Spans.{leaf_cells}
use Rattle.cell_tree.specs.Tree.{Made, leaf_count}
use Rattle.cell_tree.proofs.LeafCells.{length-leaf_cells, get_or-leaf_cells}
use Rattle.cell_tree.proofs.LeafCounts.{leaves_few}
use Rattle.task_graph.specs.inner.LeafLists.{counts_more, has_span, is_filled}
use Rattle.task_graph.specs.inner.Parts.{AreLeavesOf, span_at, spans_above}
use Rattle.task_graph.specs.Tasks.{drifting_leaves, due_cells, is_below_span, spanned_leaves}

-- one number more to choose from
pub filter_numbers_more : (p : ℕ → Bool) (n : ℕ) → filter p (range_with_len 0 (n + 1)) ≡ filter p (range_with_len 0 n) ++ cond (p n) (n ∷ []) []
filter_numbers_more p n =
    let last : 0 + n ≡ n = omega arith in
    ap (filter p) (range_push 0 n ∙ ap (λ k. range_with_len 0 n ++ k ∷ []) last) ∙ filter-append p (range_with_len 0 n) (n ∷ [])

-- a number that passes is added, another one is not
pub filter_numbers_yes : (p : ℕ → Bool) (n : ℕ) → p n ≡ true → filter p (range_with_len 0 (n + 1)) ≡ filter p (range_with_len 0 n) ++ n ∷ []
filter_numbers_yes p n t = filter_numbers_more p n ∙ ap (λ b. filter p (range_with_len 0 n) ++ cond b (n ∷ []) []) t

pub filter_numbers_no : (p : ℕ → Bool) (n : ℕ) → p n ≡ false → filter p (range_with_len 0 (n + 1)) ≡ filter p (range_with_len 0 n)
filter_numbers_no p n f = filter_numbers_more p n ∙ ap (λ b. filter p (range_with_len 0 n) ++ cond b (n ∷ []) []) f ∙ append-nil (filter p (range_with_len 0 n))

-- two tests that agree on a list keep the same of it
filter_same : (p q : ℕ → Bool) (xs : List ℕ) → ((x : ℕ) → Contains xs x → p x ≡ q x) → filter p xs ≡ filter q xs
filter_same p q [] h = refl
filter_same p q (x ∷ xs) h =
    ap (λ b. cond b (x ∷ filter p xs) (filter p xs)) (h x (Contains-head x xs))
    ∙ ap (λ ys. cond (q x) (x ∷ ys) ys) (filter_same p q xs (λ y c. h y (Contains-later x xs y c)))

-- one element or none, read
map_one : {X : Type 0} (f : ℕ → X) (n : ℕ) (b : Bool) → map f (cond b (n ∷ []) []) ≡ cond b (f n ∷ []) []
map_one f n true = refl
map_one f n false = refl

module _ {X : Type 0} (p : X → Bool) (d : X) (xs : List X) where
  first_passes : (n : ℕ) → n ≤ length xs → map (λ k. get_or xs k d) (filter (λ k. p (get_or xs k d)) (range_with_len 0 n)) ≡ filter p (take n xs)
  first_passes zero l = refl
  first_passes (suc n) l =
      let at = λ (k : ℕ). get_or xs k d in
      let q = λ (k : ℕ). p (get_or xs k d) in
      let e : suc n ≡ n + 1 = omega arith in
      let ih = first_passes n (omega arith) in
      let more = filter_more p xs n d (omega arith) in
      subst (λ m. map at (filter q (range_with_len 0 m)) ≡ filter p (take m xs)) (sym e) (
      ap (map at) (filter_numbers_more q n) ∙ map-append at (filter q (range_with_len 0 n)) (cond (q n) (n ∷ []) [])
      ∙ ap (λ ys. ys ++ map at (cond (q n) (n ∷ []) [])) ih ∙ ap (λ ys. filter p (take n xs) ++ ys) (map_one at n (q n)) ∙ sym more
      )

  -- the elements of the numbers that pass are those that pass
  pub passes_by_number : map (λ k. get_or xs k d) (filter (λ k. p (get_or xs k d)) (range_with_len 0 (length xs))) ≡ filter p xs
  passes_by_number = first_passes (length xs) (omega arith) ∙ ap (filter p) (take_all (length xs) xs (omega arith))

-- leaves by their numbers are as many as by their cells
pub length-leaves_of : (made : Made) (cells numbers : List ℕ) → AreLeavesOf made cells numbers → length numbers ≡ length cells
length-leaves_of made cells numbers are = sym (length-map numbers (slice_index (leaf_cells made))) ∙ ap length are.cells_are

-- the leaves whose cells pass
pub AreLeavesOf-passing : (made : Made) (p : ℕ → Bool) (numbers : List ℕ) → numbers ≡ filter (λ leaf. p (slice_index (leaf_cells made) leaf)) (range_with_len 0 (leaf_count made)) → AreLeavesOf made (filter p (leaf_cells made)) numbers
AreLeavesOf-passing made p numbers e =
    let cells = leaf_cells made in
    let q = λ (leaf : ℕ). p (slice_index cells leaf) in
    record {
      rising = subst IsStrictlyIncreasing (sym e) (IsStrictlyIncreasing-filter q (range_with_len 0 (leaf_count made)) (numbers_rise (leaf_count made)));
      below = λ number c. below_from_numbers (leaf_count made) number (Contains-from_filter q (range_with_len 0 (leaf_count made)) number (subst (λ ns. Contains ns number) e c));
      cells_are = ap (map (slice_index cells)) e ∙ ap (λ n. map (slice_index cells) (filter q (range_with_len 0 n))) (sym (length-leaf_cells made)) ∙ passes_by_number p 0 cells;
    }

-- the same, where a test on numbers agrees
AreLeavesOf-agreeing : (made : Made) (p q : ℕ → Bool) (numbers : List ℕ) → ((leaf : ℕ) → leaf < leaf_count made → q leaf ≡ p (slice_index (leaf_cells made) leaf)) → numbers ≡ filter q (range_with_len 0 (leaf_count made)) → AreLeavesOf made (filter p (leaf_cells made)) numbers
AreLeavesOf-agreeing made p q numbers agree e =
    AreLeavesOf-passing made p numbers
    (e ∙ filter_same q (λ leaf. p (slice_index (leaf_cells made) leaf)) (range_with_len 0 (leaf_count made)) (λ leaf c. agree leaf (below_from_numbers (leaf_count made) leaf c)))

AreLeavesOf-none : (made : Made) → AreLeavesOf made [] []
AreLeavesOf-none made = record { rising = λ k l. absurd (omega arith); below = λ number c. absurd (let l = c.1 in omega arith); cells_are = refl }

module _ (made : Made) (spans : List Span) {drift : Bool} where
  -- with drift the leaves below the spans drift
  pub AreLeavesOf-drifting : {numbers drifting : List ℕ} → drift ≡ true → numbers ≡ drifting → AreLeavesOf made (spanned_leaves made spans) drifting → AreLeavesOf made (drifting_leaves made spans drift) numbers
  AreLeavesOf-drifting t is of = rw (is, t) of

  pub lists_drifting : {lists : List (List ℕ)} → drift ≡ true → lists ≡ map (spans_above made spans) (spanned_leaves made spans) → lists ≡ map (spans_above made spans) (drifting_leaves made spans drift)
  lists_drifting t is = rw t is

  -- and without none
  pub AreLeavesOf-still : {numbers : List ℕ} → drift ≡ false → numbers ≡ [] → AreLeavesOf made (drifting_leaves made spans drift) numbers
  AreLeavesOf-still f is = rw (is, f) (AreLeavesOf-none made)

  pub lists_still : {lists : List (List ℕ)} → drift ≡ false → lists ≡ [] → lists ≡ map (spans_above made spans) (drifting_leaves made spans drift)
  lists_still f is = rw f is

-- some element passes where the kept ones are not none
any_kept : {X : Type 0} (p : X → Bool) (xs : List X) → ltb 0 (length (filter p xs)) ≡ list_any p xs
any_kept p [] = refl
any_kept p (x ∷ xs) =
    elim (cases_Bool (p x)) [
      | inl t ↦ ap (λ b. ltb 0 (length (cond b (x ∷ filter p xs) (filter p xs)))) t ∙ lt-ltb 0 (length (x ∷ filter p xs)) (omega arith) ∙ ap (λ b. b || list_any p xs) (sym t)
      | inr f ↦ ap (λ b. ltb 0 (length (cond b (x ∷ filter p xs) (filter p xs)))) f ∙ any_kept p xs ∙ ap (λ b. b || list_any p xs) (sym f)
    ]

-- the lists that pass are those of the elements whose lists pass
filter-map : {X Y : Type 0} (p : Y → Bool) (f : X → Y) (xs : List X) → filter p (map f xs) ≡ map f (filter (λ x. p (f x)) xs)
filter-map p f [] = refl
filter-map p f (x ∷ xs) =
    elim (cases_Bool (p (f x))) [
      | inl t ↦
          ap (λ b. cond b (f x ∷ filter p (map f xs)) (filter p (map f xs))) t ∙ ap (λ ys. f x ∷ ys) (filter-map p f xs)
          ∙ ap (λ b. map f (cond b (x ∷ filter (λ y. p (f y)) xs) (filter (λ y. p (f y)) xs))) (sym t)
      | inr n ↦
          ap (λ b. cond b (f x ∷ filter p (map f xs)) (filter p (map f xs))) n ∙ filter-map p f xs
          ∙ ap (λ b. map f (cond b (x ∷ filter (λ y. p (f y)) xs) (filter (λ y. p (f y)) xs))) (sym n)
    ]

module _ (made : Made) (spans : List Span) where
  -- the list of a leaf is filled where it is below a cell of a span
  filled_is : (leaf : ℕ) → is_filled (spans_above made spans leaf) ≡ list_any (λ span. is_below_span made span leaf) spans
  filled_is leaf =
      let p = λ (span : Span). is_below_span made span leaf in
      let none : Span = record { first = 0; second = None } in
      ap (ltb 0) (sym (length-map (spans_above made spans leaf) (span_at spans)))
      ∙ ap (λ ss. ltb 0 (length ss)) (passes_by_number p none spans)
      ∙ any_kept p spans

  module _ (lists : List (List ℕ)) (are : lists ≡ map (spans_above made spans) (leaf_cells made)) where
    pub length_lists : length lists ≡ leaf_count made
    length_lists = ap length are ∙ length-map (leaf_cells made) (spans_above made spans) ∙ length-leaf_cells made

    has_span-is : (leaf : ℕ) → leaf < leaf_count made → has_span lists leaf ≡ list_any (λ span. is_below_span made span (slice_index (leaf_cells made) leaf)) spans
    has_span-is leaf l =
        ap (λ ls. has_span ls leaf) are
        ∙ ap is_filled (get_or-map (spans_above made spans) (leaf_cells made) leaf 0 [] (omega (arith, length-leaf_cells made)))
        ∙ filled_is (slice_index (leaf_cells made) leaf)

    -- the leaves with a span
    pub AreLeavesOf-spanned : (numbers : List ℕ) → numbers ≡ filter (has_span lists) (range_with_len 0 (length lists)) → AreLeavesOf made (spanned_leaves made spans) numbers
    AreLeavesOf-spanned numbers e =
        AreLeavesOf-agreeing made (λ cell. list_any (λ span. is_below_span made span cell) spans) (has_span lists) numbers has_span-is
        (e ∙ ap (λ n. filter (has_span lists) (range_with_len 0 n)) length_lists)

    -- and their lists
    pub filled_lists : filter is_filled lists ≡ map (spans_above made spans) (spanned_leaves made spans)
    filled_lists =
        ap (filter is_filled) are ∙ filter-map is_filled (spans_above made spans) (leaf_cells made)
        ∙ ap (map (spans_above made spans))
        (filter_same (λ leaf. is_filled (spans_above made spans leaf)) (λ leaf. list_any (λ span. is_below_span made span leaf) spans) (leaf_cells made) (λ leaf c. filled_is leaf))

-- the count after a leaf is greater where it counts
by_count : (a b : ℕ) (counts : Bool) → b ≡ a + cond counts 1 0 → ltb a b ≡ counts
by_count a b true e = lt-ltb a b (omega arith)
by_count a b false e = le-ltb a b (omega arith)

module _ (made : Made) (due : List Bool) (before : List ℕ) (are : AreDueBefore made due before) where
  counts_more-is : (leaf : ℕ) → leaf < leaf_count made → counts_more before leaf ≡ has_due made due (slice_index (leaf_cells made) leaf)
  counts_more-is leaf l =
      let w = are.each leaf l in
      by_count (slice_index before leaf) (slice_index before (leaf + 1)) (has_due made due w.cell) w.step
      ∙ ap (has_due made due) (sym (get_or-leaf_cells made leaf w.cell 0 w.is))

  -- the leaves with a due member
  pub AreLeavesOf-due : (numbers : List ℕ) → numbers ≡ filter (counts_more before) (range_with_len 0 (length before - 1)) → AreLeavesOf made (due_cells made due) numbers
  AreLeavesOf-due numbers e =
      let n : length before - 1 ≡ leaf_count made = omega (arith, are.long) in
      AreLeavesOf-agreeing made (has_due made due) (counts_more before) numbers counts_more-is (e ∙ ap (λ n. filter (counts_more before) (range_with_len 0 n)) n)

-- the leaf after those told so far is told where its list is not empty, and else not
pub spanned_yes : (lists : List (List ℕ)) (leaf : ℕ) (list leaves leaves' : List ℕ) (empty : Bool) → leaves ≡ filter (has_span lists) (range_with_len 0 leaf) → list ≡ get_or lists leaf [] → empty ≡ eqb (length list) 0 → empty ≡ false
    → leaves' ≡ leaves ++ leaf ∷ [] → leaves' ≡ filter (has_span lists) (range_with_len 0 (leaf + 1))
spanned_yes lists leaf list leaves leaves' empty is read test full put =
    let some = eqb-false (length list) 0 (sym test ∙ full) in
    let t : has_span lists leaf ≡ true = ap (λ xs. ltb 0 (length xs)) (sym read) ∙ lt-ltb 0 (length list) (omega arith) in
    put ∙ ap (λ ls. ls ++ leaf ∷ []) is ∙ sym (filter_numbers_yes (has_span lists) leaf t)

pub spanned_no : (lists : List (List ℕ)) (leaf : ℕ) (list leaves : List ℕ) (empty : Bool) → leaves ≡ filter (has_span lists) (range_with_len 0 leaf) → list ≡ get_or lists leaf [] → empty ≡ eqb (length list) 0 → empty ≡ true
    → leaves ≡ filter (has_span lists) (range_with_len 0 (leaf + 1))
spanned_no lists leaf list leaves empty is read test full =
    let none = eqb-true (length list) 0 (sym test ∙ full) in
    let t : has_span lists leaf ≡ false = ap (λ xs. ltb 0 (length xs)) (sym read) ∙ le-ltb 0 (length list) (omega arith) in
    is ∙ sym (filter_numbers_no (has_span lists) leaf t)

-- the leaf before the last place is told where more are counted at that place, and else not
pub counted_yes : (before : List ℕ) (leaf : ℕ) (leaves leaves' : List ℕ) → 1 ≤ leaf → leaves ≡ filter (counts_more before) (range_with_len 0 (leaf - 1)) → get_or before (leaf - 1) 0 < get_or before leaf 0
    → leaves' ≡ leaves ++ (leaf - 1) ∷ [] → leaves' ≡ filter (counts_more before) (range_with_len 0 (leaf + 1 - 1))
counted_yes before leaf leaves leaves' some is less put =
    let e : leaf + 1 - 1 ≡ leaf - 1 + 1 = omega arith in
    let f : leaf - 1 + 1 ≡ leaf = omega arith in
    let t : counts_more before (leaf - 1) ≡ true = ap (λ k. ltb (get_or before (leaf - 1) 0) (get_or before k 0)) f ∙ lt-ltb _ _ less in
    put ∙ ap (λ ls. ls ++ (leaf - 1) ∷ []) is ∙ sym (filter_numbers_yes (counts_more before) (leaf - 1) t) ∙ ap (λ n. filter (counts_more before) (range_with_len 0 n)) (sym e)

pub counted_no : (before : List ℕ) (leaf : ℕ) (leaves : List ℕ) → 1 ≤ leaf → leaves ≡ filter (counts_more before) (range_with_len 0 (leaf - 1)) → get_or before leaf 0 ≤ get_or before (leaf - 1) 0
    → leaves ≡ filter (counts_more before) (range_with_len 0 (leaf + 1 - 1))
counted_no before leaf leaves some is most =
    let e : leaf + 1 - 1 ≡ leaf - 1 + 1 = omega arith in
    let f : leaf - 1 + 1 ≡ leaf = omega arith in
    let t : counts_more before (leaf - 1) ≡ false = ap (λ k. ltb (get_or before (leaf - 1) 0) (get_or before k 0)) f ∙ le-ltb _ _ most in
    is ∙ sym (filter_numbers_no (counts_more before) (leaf - 1) t) ∙ ap (λ n. filter (counts_more before) (range_with_len 0 n)) (sym e)

-- how many leaves there are at most
pub leaves_most : (made : Made) → CanBeMade made → leaf_count made ≤ most_particles
leaves_most made can = omega (arith, leaves_few made can, can.not_too_many)
