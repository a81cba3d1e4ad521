-- The proper ancestors of cells, one after the other.
use Rattle.std.specs.Option.{IfSome}
use Rattle.std.proofs.lemmas.List.{get_or-map}
use Rattle.std.proofs.Common.{append_assoc, ◌≡◌, ℕ, ◌+◌, ◌<◌, ◌≤◌, List, [], ◌∷◌, ◌++◌, length, map, get_or, Option, Some, None, refl, sym, ap, ◌∙◌, subst, arith}
use Rattle.std.specs.List.{range_with_len}
use Rattle.std.proofs.lemmas.List.FromFn.{get_or-map-range_with_len, length-map-range_with_len}
use Rattle.std.proofs.lemmas.List.Elements.{All-get_or, All-head, All-tail}
use mathlib.Core.List.{map-append}
use Rattle.lists.proofs.Places.{slice_range-append, slice_range-end}
use Rattle.lists.proofs.Ranges.{range_push}
use Rattle.qs_core.specs.Shape.{Shape, IsShape, ancestors, parent_of}
use Rattle.qs_core.proofs.Ancestors.{parent_below}
use Rattle.qs_core.proofs.Walks.{ancestors-line_up, line_up}
use Rattle.qs_table.specs.inner.Lines.{AreCuts, cut, line_of}

-- a list that grows keeps its parts
pub cuts_longer : (above more : List ℕ) (lines : List (ℕ × ℕ)) → AreCuts above lines → map (cut (above ++ more)) lines ≡ map (cut above) lines
cuts_longer above more [] all = refl
cuts_longer above more (line ∷ lines) all =
    let first = All-head (λ (l : ℕ × ℕ). (l.0 ≤ l.1) × (l.1 ≤ length above)) line lines all in
    λ i. slice_range-append above more line.0 line.1 first.0 first.1 i ∷ cuts_longer above more lines (All-tail (λ (l : ℕ × ℕ). (l.0 ≤ l.1) × (l.1 ≤ length above)) line lines all) i

-- a line behind the others
pub line_pushed : (above above' : List ℕ) (lines lines' : List (ℕ × ℕ)) (line : List ℕ) (from to : ℕ) → AreCuts above lines → above' ≡ above ++ line → from ≡ length above → to ≡ length above' → lines' ≡ lines ++ (from, to) ∷ []
    → map (cut above') lines' ≡ map (cut above) lines ++ line ∷ []
line_pushed above above' lines lines' line from to all longer from_is to_is pushed =
    ap (map (cut above')) pushed
    ∙ map-append (cut above') lines ((from, to) ∷ [])
    ∙ ap (λ (xs : List ℕ). map (cut xs) lines ++ cut xs (from, to) ∷ []) longer
    ∙ λ i. cuts_longer above line lines all i ++ slice_range-end above line from to from_is (to_is ∙ ap length longer) i ∷ []

-- the line of a cell with a parent, from that of the parent
pub line_from : (above : List ℕ) (lines : List (ℕ × ℕ)) (parent : ℕ) (at : ℕ × ℕ) → AreCuts above lines → parent < length lines → at ≡ get_or lines parent (0, 0)
    → above ++ parent ∷ [] ++ cut (above ++ parent ∷ []) at ≡ above ++ line_of (map (cut above) lines) (Some parent)
line_from above lines parent at all within is =
    let part = subst (λ (l : ℕ × ℕ). (l.0 ≤ l.1) × (l.1 ≤ length above)) (sym is) (All-get_or (λ (l : ℕ × ℕ). (l.0 ≤ l.1) × (l.1 ≤ length above)) lines parent (0, 0) within all) in
    append_assoc above (parent ∷ []) (cut (above ++ parent ∷ []) at)
    ∙ ap (λ (xs : List ℕ). above ++ parent ∷ xs) (slice_range-append above (parent ∷ []) at.0 at.1 part.0 part.1 ∙ ap (cut above) is ∙ sym (get_or-map (cut above) lines parent (0, 0) [] within))

-- a cell's ancestors are its parent and the parent's ancestors
pub line_is : (shape : Shape) (cell count : ℕ) → cell < count → get_or (map (ancestors shape) (range_with_len 0 count)) cell [] ≡ ancestors shape cell
line_is shape cell count l = get_or-map-range_with_len (ancestors shape) 0 count cell cell [] l (omega arith)

pub next_line : (shape : Shape) → IsShape shape → (cell : ℕ) (parent : Option ℕ) → parent ≡ parent_of shape cell → line_of (map (ancestors shape) (range_with_len 0 cell)) parent ≡ ancestors shape cell
unfolding ancestors
next_line shape laws cell None is = sym (ancestors-line_up shape laws cell ∙ ap (line_up shape) (sym is))
next_line shape laws cell (Some parent) is =
    let below = parent_below shape laws cell parent (sym is) in
    ap (λ (xs : List ℕ). parent ∷ xs) (line_is shape parent cell below.0)
    ∙ sym (ancestors-line_up shape laws cell ∙ ap (line_up shape) (sym is))

pub parent_listed : (shape : Shape) → IsShape shape → (cell : ℕ) (parent : Option ℕ) (lines : List (List ℕ)) → parent ≡ parent_of shape cell → lines ≡ map (ancestors shape) (range_with_len 0 cell) → IfSome parent (λ p. p < length lines)
parent_listed shape laws cell None lines is was = tt
parent_listed shape laws cell (Some parent) lines is was =
    let below = parent_below shape laws cell parent (sym is) in
    let many : length lines ≡ cell = ap length was ∙ length-map-range_with_len (ancestors shape) 0 cell in
    let first = below.0 in
    omega (arith, first, many)

pub lines_more : (shape : Shape) → IsShape shape → (cell : ℕ) (parent : Option ℕ) (lines after : List (List ℕ)) → parent ≡ parent_of shape cell → lines ≡ map (ancestors shape) (range_with_len 0 cell)
    → after ≡ lines ++ line_of lines parent ∷ [] → after ≡ map (ancestors shape) (range_with_len 0 (cell + 1))
lines_more shape laws cell parent lines after is was pushed =
    pushed
    ∙ ap (λ (ls : List (List ℕ)). ls ++ line_of ls parent ∷ []) was
    ∙ ap (λ (line : List ℕ). map (ancestors shape) (range_with_len 0 cell) ++ line ∷ []) (next_line shape laws cell parent is)
    ∙ sym (ap (map (ancestors shape)) (range_push 0 cell ∙ ap (λ (k : ℕ). range_with_len 0 cell ++ k ∷ []) (omega arith)) ∙ map-append (ancestors shape) (range_with_len 0 cell) (cell ∷ []))
