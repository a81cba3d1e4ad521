-- The lists of spans at some leaves.
use Rattle.std.proofs.Common.{◌≡◌, ℕ, ◌+◌, ◌<◌, ◌≤◌, Bool, true, false, cond, ◌||◌, List, [], ◌∷◌, ◌++◌, length, get_or, map, filter, slice_index, slice_index_or, append-nil, refl, sym, ap, ◌∙◌, subst, inl, inr, arith}
use Rattle.std.specs.Prelude.{Some, None}
use Rattle.std.proofs.lemmas.Bool.{both_ways, cases_lt, false_from_ne_true}
use Rattle.std.proofs.lemmas.List.{get_or-map, get_or_default, length-map, same_lists}
use Rattle.std.specs.List.{range_with_len}
use Rattle.cell_geom.proofs.Nesting.{CubeContains-sharing}
use Rattle.cell_tree.specs.declared.tree.Span.{Span}
use Rattle.cell_tree.specs.Spans.{IsOtherCell, IsSpan}
use Rattle.cell_tree.specs.Tree.{Made, cell_at, lies_in}
use Rattle.task_graph.specs.inner.LeafLists.{AddsSpan, AddsWithin, AreInCell}
use Rattle.task_graph.specs.inner.Parts.{span_at, spans_above}
use Rattle.task_graph.specs.Tasks.{is_below_span, lies_in_some}
use Rattle.task_graph.proofs.LeafNumbers.{filter_numbers_more}

-- at most one of two additions is one addition
one_of_two : (xs : List ℕ) (n : ℕ) (a b : Bool) → (a ≡ true → b ≡ true → ⊥) → (xs ++ cond a (n ∷ []) []) ++ cond b (n ∷ []) [] ≡ xs ++ cond (a || b) (n ∷ []) []
one_of_two xs n true true h = absurd (h refl refl)
one_of_two xs n true false h = append-nil (xs ++ n ∷ [])
one_of_two xs n false true h = ap (λ ys. ys ++ n ∷ []) (append-nil xs)
one_of_two xs n false false h = append-nil (xs ++ [])

module _ (made : Made) where
  -- what lies in two cells lies in one of them that contains the other
  lies_in-apart : (a b x : ℕ) → lies_in made a b ≡ false → lies_in made b a ≡ false → lies_in made a x ≡ true → lies_in made b x ≡ true → ⊥
  lies_in-apart a b x apart turned s t =
      elim (cases_lt (cell_at made a).cube.level (cell_at made b).cube.level) [
        | inl l ↦ both_ways (lies_in made a b) apart (CubeContains-sharing _ _ (cell_at made x).cube (omega arith) s t)
        | inr l ↦ both_ways (lies_in made b a) turned (CubeContains-sharing _ _ (cell_at made x).cube l t s)
      ]

  module _ (cells : List ℕ) where
    -- the number is added where the leaf lies in the cell
    added_below : (cell from to number : ℕ) (lists lists' : List (List ℕ)) → AreInCell made cells cell from to → AddsWithin from to number lists lists' → (k : ℕ) → k < length cells
        → get_or lists' k [] ≡ get_or lists k [] ++ cond (lies_in made cell (get_or cells k 0)) (number ∷ []) []
    added_below cell from to number lists lists' are adds k l =
        elim (cases_lt k from) [
          | inl low ↦ adds.before k low ∙ none (outside (λ r. let m = r.0 in omega arith))
          | inr high ↦ elim (cases_lt k to) [
            | inl low ↦ adds.within k high low ∙ ap put (sym (are.passes k high low))
            | inr past ↦ adds.behind k past ∙ none (outside (λ r. let m = r.1 in omega arith))
          ]
        ]
      where
        put : Bool → List ℕ
        put b = get_or lists k [] ++ cond b (number ∷ []) []

        outside : ((from ≤ k) × (k < to) → ⊥) → lies_in made cell (get_or cells k 0) ≡ false
        outside h = false_from_ne_true _ (λ t. h (are.inside k l t))

        none : lies_in made cell (get_or cells k 0) ≡ false → get_or lists k [] ≡ put (lies_in made cell (get_or cells k 0))
        none f = sym (append-nil (get_or lists k [])) ∙ ap put (sym f)

    -- a span of one cell
    pub AddsSpan-one : (span : Span) (from to number : ℕ) (lists lists' : List (List ℕ)) → span.second ≡ None → AreInCell made cells span.first from to → AddsWithin from to number lists lists' → AddsSpan made cells span number lists lists'
    AddsSpan-one span from to number lists lists' none are adds = record {
      each = λ k l.
          let at = get_or cells k 0 in
          let a = lies_in made span.first at in
          let b = lies_in_some made span.second at in
          let old = get_or lists k [] in
          let off : b ≡ false = ap (λ s. lies_in_some made s at) none in
          added_below span.first from to number lists lists' are adds k l
          ∙ sym (append-nil (old ++ cond a (number ∷ []) []))
          ∙ ap (λ c. (old ++ cond a (number ∷ []) []) ++ cond c (number ∷ []) []) (sym off)
          ∙ one_of_two old number a b (λ s t. both_ways b off t);
    }

    -- a span of two cells
    pub AddsSpan-two : (span : Span) (second from to from' to' number : ℕ) (lists lists' lists'' : List (List ℕ)) → IsSpan made span → span.second ≡ Some second
        → AreInCell made cells span.first from to → AddsWithin from to number lists lists' → AreInCell made cells second from' to' → AddsWithin from' to' number lists' lists'' → AddsSpan made cells span number lists lists''
    AddsSpan-two span second from to from' to' number lists lists' lists'' is some are adds are' adds' = record {
      each = λ k l.
          let at = get_or cells k 0 in
          let a = lies_in made span.first at in
          let b = lies_in_some made span.second at in
          let old = get_or lists k [] in
          let other : IsOtherCell made span.first (Some second) = subst (IsOtherCell made span.first) some is.second in
          let same : b ≡ lies_in made second at = ap (λ s. lies_in_some made s at) some in
          added_below second from' to' number lists' lists'' are' adds' k l
          ∙ ap (λ list. list ++ cond (lies_in made second at) (number ∷ []) []) (added_below span.first from to number lists lists' are adds k l)
          ∙ ap (λ c. (old ++ cond a (number ∷ []) []) ++ cond c (number ∷ []) []) (sym same)
          ∙ one_of_two old number a b (λ s t. lies_in-apart span.first second at other.1 other.2 s (sym same ∙ t));
    }

-- the numbers of the first spans that have a leaf, by its cell, below a cell
abbrev pub first_spans_above : Made → List Span → ℕ → ℕ → List ℕ
first_spans_above made spans count leaf = filter (λ number. is_below_span made (span_at spans number) leaf) (range_with_len 0 count)

-- the lists of the first spans
pub record AreListsTo (made : Made) (cells : List ℕ) (spans : List Span) (count : ℕ) (lists : List (List ℕ)) : Type 0 where
  pub long : length lists ≡ length cells
  pub each : (k : ℕ) → k < length cells → slice_index_or lists k [] ≡ first_spans_above made spans count (slice_index cells k)

-- one span more
pub AreListsTo-more : (made : Made) (cells : List ℕ) (spans : List Span) (count : ℕ) (lists lists' : List (List ℕ)) → AreListsTo made cells spans count lists → AddsSpan made cells (span_at spans count) count lists lists' → length lists' ≡ length lists
    → AreListsTo made cells spans (count + 1) lists'
AreListsTo-more made cells spans count lists lists' a adds kept = record {
  long = kept ∙ a.long;
  each = λ k l.
      let p = λ (number : ℕ). is_below_span made (span_at spans number) (slice_index cells k) in
      adds.each k l ∙ ap (λ list. list ++ cond (p count) (count ∷ []) []) (a.each k l) ∙ sym (filter_numbers_more p count);
}

-- all spans
pub AreListsTo-all : (made : Made) (cells : List ℕ) (spans : List Span) (count : ℕ) (lists : List (List ℕ)) → AreListsTo made cells spans count lists → count ≡ length spans → lists ≡ map (spans_above made spans) cells
AreListsTo-all made cells spans count lists a e =
    let long : length lists ≡ length cells = a.long in
    same_lists lists (map (spans_above made spans) cells) (long ∙ sym (length-map cells (spans_above made spans)))
    (λ k d l.
    let m : k < length cells = omega arith in
    get_or_default lists k d [] l ∙ a.each k m ∙ ap (λ n. first_spans_above made spans n (slice_index cells k)) e
    ∙ sym (get_or-map (spans_above made spans) cells k 0 d m))
