-- How the cells of a cell's subtree lie in it and in each other.
use Rattle.std.proofs.Common.{◌≡◌, ℕ, zero, suc, ◌+◌, ◌<◌, ◌≤◌, true, false, cond, eqb, List, [], ◌∷◌, ◌++◌, length, get_or, refl, sym, ap, subst, ◌⊎◌, inl, inr, length-append, arith}
use Rattle.std.proofs.lemmas.List.{get_or_append_left, get_or-append-add}
use Rattle.std.proofs.lemmas.Bool.{cases_Bool, eqb-false}
use Rattle.cell_geom.specs.Cube.{child_of, CubeContains, is_octant_of}
use Rattle.cell_geom.proofs.Nesting.{CubeContains-child_of, CubeContains-self, CubeContains-trans, child_apart, level_within, octant_from_within}
use Rattle.cell_tree.specs.Tree.{Made, Cell, child_cell, no_cell}
use Rattle.cell_tree.specs.inner.Under.{cells_under, cells_in, cells_of_octants}
use Rattle.cell_tree.proofs.Nest.{IsNested, IsNested-nil, IsNested-cons, IsNested-append, each_of_both, cases_place}
use Rattle.cell_tree.proofs.Under.{IsSplit, IsSplit-from_test, cells_under-leaf, cells_under-split, cells_under_induction}

-- the cell of the list at a place
abbrev pub at : List Cell → ℕ → Cell
at cells i = get_or cells i no_cell

-- what holds of the cells below the octants that have members holds of all cells of the octants
cells_in-each : (made : Made) (cell : Cell) (octant : ℕ) (Q : Cell → Type 0)
    → (0 < length (child_cell made.points cell octant).members → (i : ℕ) → i < length (cells_under made (child_cell made.points cell octant)) → Q (at (cells_under made (child_cell made.points cell octant)) i))
    → (i : ℕ) → i < length (cells_in made cell octant) → Q (at (cells_in made cell octant) i)
cells_in-each made cell octant Q h =
    elim (cases_Bool (eqb (length (child_cell made.points cell octant).members) 0)) [
      | inl t ↦ subst (λ b. (i : ℕ) → i < length (cond b [] (cells_under made (child_cell made.points cell octant))) → Q (at (cond b [] (cells_under made (child_cell made.points cell octant))) i)) (sym t) (λ i l. absurd (omega arith))
      | inr f ↦ let e = eqb-false _ _ f in
          subst (λ b. (i : ℕ) → i < length (cond b [] (cells_under made (child_cell made.points cell octant))) → Q (at (cond b [] (cells_under made (child_cell made.points cell octant))) i)) (sym f) (h (omega arith))
    ]

-- what holds of the cells below each octant with members holds of all cells of the octants
pub octants_each : (made : Made) (cell : Cell) (Q : Cell → Type 0) (first n : ℕ)
    → ((octant : ℕ) → first ≤ octant → octant < first + n → 0 < length (child_cell made.points cell octant).members → (i : ℕ) → i < length (cells_under made (child_cell made.points cell octant)) → Q (at (cells_under made (child_cell made.points cell octant)) i))
    → (i : ℕ) → i < length (cells_of_octants made cell first n) → Q (at (cells_of_octants made cell first n) i)
octants_each made cell Q first zero h = λ i l. absurd (omega arith)
octants_each made cell Q first (suc n) h =
    each_of_both Q no_cell (cells_in made cell first) (cells_of_octants made cell (first + 1) n)
    (cells_in-each made cell first Q (h first (omega arith) (omega arith)))
    (octants_each made cell Q (first + 1) n (λ octant low high. h octant (omega arith) (omega arith)))

-- what the octants of a cell take from it holds of all cells below
pub each_below : (made : Made) (Q : Cell → Type 0)
    → ((cell : Cell) (octant : ℕ) → Q cell → IsSplit made cell → octant < 8 → 0 < length (child_cell made.points cell octant).members → Q (child_cell made.points cell octant))
    → (cell : Cell) → Q cell → (i : ℕ) → i < length (cells_under made cell) → Q (at (cells_under made cell) i)
each_below made Q down cell =
    cells_under_induction made (λ cell cells. Q cell → (i : ℕ) → i < length cells → Q (at cells i))
    (λ cell t q. one cell q)
    (λ cell f ih q. more cell q _ (octants_each made cell Q 0 8 (λ octant low high some. ih octant (down cell octant q (IsSplit-from_test made cell f) (omega arith) some))))
    cell
  where
    one : (cell : Cell) → Q cell → (i : ℕ) → i < length (cell ∷ []) → Q (at (cell ∷ []) i)
    one cell q zero l = q
    one cell q (suc i) l = absurd (omega arith)

    more : (cell : Cell) → Q cell → (cells : List Cell) → ((i : ℕ) → i < length cells → Q (at cells i)) → (i : ℕ) → i < length (cell ∷ cells) → Q (at (cell ∷ cells) i)
    more cell q cells h zero l = q
    more cell q cells h (suc i) l = h i (omega arith)

-- a cell contains all cells below it
pub contains_below : (made : Made) (cell : Cell) (i : ℕ) → i < length (cells_under made cell) → CubeContains cell.cube (at (cells_under made cell) i).cube
contains_below made cell =
    each_below made (λ c. CubeContains cell.cube c.cube) (λ c octant q s l some. CubeContains-trans cell.cube c.cube (child_of c.cube octant) q (CubeContains-child_of c.cube octant)) cell (CubeContains-self cell.cube)

-- the cell lies in one of n octants from the first on
abbrev IsInOctants : Cell → ℕ → ℕ → Cell → Type 0
IsInOctants cell first n c = (octant : ℕ) × (first ≤ octant) × (octant < first + n) × CubeContains (child_of cell.cube octant) c.cube

-- the cells of some octants lie in them
octants_lie : (made : Made) (cell : Cell) (first n i : ℕ) → i < length (cells_of_octants made cell first n) → IsInOctants cell first n (at (cells_of_octants made cell first n) i)
octants_lie made cell first n =
    octants_each made cell (IsInOctants cell first n) first n (λ octant low high some i l. (octant, low, high, contains_below made (child_cell made.points cell octant) i l))

-- the cells of an octant lie in it
octant_lie : (made : Made) (cell : Cell) (octant i : ℕ) → i < length (cells_in made cell octant) → CubeContains (child_of cell.cube octant) (at (cells_in made cell octant) i).cube
octant_lie made cell octant =
    cells_in-each made cell octant (λ c. CubeContains (child_of cell.cube octant) c.cube) (λ some. contains_below made (child_cell made.points cell octant))

-- how many cells the subtree of the cell has
abbrev pub size_in : Made → Cell → ℕ
size_in made cell = length (cells_under made cell)

-- the one cell contains the other
abbrev pub Holds : Cell → Cell → Type 0
Holds a b = CubeContains a.cube b.cube

-- each cell of the list heads the run of its subtree
abbrev pub NestedCells : Made → List Cell → Type 0
NestedCells made = IsNested no_cell (size_in made) Holds

-- the cells of an octant nest
cells_in-nested : (made : Made) (cell : Cell) (octant : ℕ) → NestedCells made (cells_under made (child_cell made.points cell octant)) → NestedCells made (cells_in made cell octant)
cells_in-nested made cell octant h =
    elim (eqb (length (child_cell made.points cell octant).members) 0) as (λ b. NestedCells made (cond b [] (cells_under made (child_cell made.points cell octant)))) [
      | true ↦ IsNested-nil no_cell (size_in made) Holds
      | false ↦ h
    ]

-- the cells of some octants nest
octants-nested : (made : Made) (cell : Cell) (first n : ℕ) → first + n ≤ 8 → ((octant : ℕ) → NestedCells made (cells_under made (child_cell made.points cell octant)))
    → NestedCells made (cells_of_octants made cell first n)
octants-nested made cell first zero l h = IsNested-nil no_cell (size_in made) Holds
octants-nested made cell first (suc n) l h =
    IsNested-append no_cell (size_in made) Holds (cells_in made cell first) (cells_of_octants made cell (first + 1) n)
    (cells_in-nested made cell first (h first)) (octants-nested made cell (first + 1) n (omega arith) h) apart turned
  where
    other : (c : Cell) → CubeContains (child_of cell.cube first) c.cube → IsInOctants cell (first + 1) n c → ⊥
    other c p w = let e = child_apart cell.cube c.cube first w.0 (omega arith) (omega arith) p w.3 in let lo = w.1 in omega arith

    apart : (i j : ℕ) → i < length (cells_in made cell first) → j < length (cells_of_octants made cell (first + 1) n)
        → Holds (at (cells_in made cell first) i) (at (cells_of_octants made cell (first + 1) n) j) → ⊥
    apart i j p q r = let a = at (cells_in made cell first) i in let b = at (cells_of_octants made cell (first + 1) n) j in other b (CubeContains-trans (child_of cell.cube first) a.cube b.cube (octant_lie made cell first i p) r) (octants_lie made cell (first + 1) n j q)

    turned : (i j : ℕ) → i < length (cells_in made cell first) → j < length (cells_of_octants made cell (first + 1) n)
        → Holds (at (cells_of_octants made cell (first + 1) n) j) (at (cells_in made cell first) i) → ⊥
    turned i j p q r =
        let w = octants_lie made cell (first + 1) n j q in
        let a = at (cells_in made cell first) i in
        let b = at (cells_of_octants made cell (first + 1) n) j in
        other a (octant_lie made cell first i p) (w.0, w.1, w.2, CubeContains-trans (child_of cell.cube w.0) b.cube a.cube w.3 r)

-- the cells of a subtree nest
pub cells_under-nested : (made : Made) (cell : Cell) → NestedCells made (cells_under made cell)
cells_under-nested made =
    cells_under_induction made (λ cell cells. NestedCells made cells)
    (λ cell t. IsNested-cons no_cell (size_in made) Holds cell [] (ap length (cells_under-leaf made cell t)) (CubeContains-self cell.cube) (λ i l. absurd (omega arith)) (λ i l. absurd (omega arith)) (IsNested-nil no_cell (size_in made) Holds))
    (λ cell f ih. IsNested-cons no_cell (size_in made) Holds cell (cells_of_octants made cell 0 8) (ap length (cells_under-split made cell f)) (CubeContains-self cell.cube)
    (λ i l. lower cell (at (cells_of_octants made cell 0 8) i) (octants_lie made cell 0 8 i l)) (λ i l r. higher cell (at (cells_of_octants made cell 0 8) i) (octants_lie made cell 0 8 i l) r) (octants-nested made cell 0 8 (omega arith) ih))
  where
    lower : (cell c : Cell) → IsInOctants cell 0 8 c → Holds cell c
    lower cell c w = CubeContains-trans cell.cube (child_of cell.cube w.0) c.cube (CubeContains-child_of cell.cube w.0) w.3

    higher : (cell c : Cell) → IsInOctants cell 0 8 c → Holds c cell → ⊥
    higher cell c w r = let l = level_within (child_of cell.cube w.0) c.cube w.3 in let m = level_within c.cube cell.cube r in omega arith

-- the first cell of a subtree is the cell
pub record BeginsWith (cell : Cell) (cells : List Cell) : Type 0 where
  pub some : 0 < length cells
  pub first : at cells 0 ≡ cell

-- a subtree begins with its cell
pub cells_under-first : (made : Made) (cell : Cell) → BeginsWith cell (cells_under made cell)
cells_under-first made =
    cells_under_induction made BeginsWith (λ cell t. record { some = omega arith; first = refl }) (λ cell f ih. record { some = omega arith; first = refl })

-- a cell of the list, before this one, is the parent of this one
pub record HasParent (cells : List Cell) (parent i : ℕ) : Type 0 where
  pub before : parent < i
  pub octant : is_octant_of (at cells parent).cube (at cells i).cube ≡ true

-- the cell is a child of this one, or has its parent in the list
abbrev IsChildOrHasParent : Cell → List Cell → ℕ → Type 0
IsChildOrHasParent cell cells i =
    (is_octant_of cell.cube (at cells i).cube ≡ true) ⊎ ((parent : ℕ) × HasParent cells parent i)

-- in lists joined the parents stay
IsChildOrHasParent-append : (cell : Cell) (xs ys : List Cell) → ((i : ℕ) → i < length xs → IsChildOrHasParent cell xs i) → ((i : ℕ) → i < length ys → IsChildOrHasParent cell ys i)
    → (i : ℕ) → i < length (xs ++ ys) → IsChildOrHasParent cell (xs ++ ys) i
IsChildOrHasParent-append cell xs ys p q i h = both (cases_place (length xs) (length ys) i (omega (arith, length-append xs ys)))
  where
    left : (k : ℕ) → k < length xs → at (xs ++ ys) k ≡ at xs k
    left k l = get_or_append_left xs ys no_cell k l

    right : (j : ℕ) → at (xs ++ ys) (length xs + j) ≡ at ys j
    right j = get_or-append-add xs ys j no_cell

    both : (i < length xs) ⊎ ((j : ℕ) × (i ≡ length xs + j) × (j < length ys)) → IsChildOrHasParent cell (xs ++ ys) i
    both (inl l) =
        elim (p i l) [
          | inl w ↦ inl (rw (left i l) w)
          | inr w ↦ let b = w.1.before in let l' : w.0 < length xs = omega arith in
              inr (w.0, record { before = b; octant = rw (left i l, left w.0 l') w.1.octant })
        ]
    both (inr v) =
        elim (q v.0 v.2) [
          | inl w ↦ inl (rw (v.1, right v.0) w)
          | inr w ↦ let b = w.1.before in
              inr (length xs + w.0, record { before = let e = v.1 in omega arith; octant = rw (v.1, right v.0, right w.0) w.1.octant })
        ]

-- in an octant the first cell is a child, and the others have parents
cells_in-parents : (made : Made) (cell : Cell) (octant : ℕ)
    → ((i : ℕ) → 0 < i → i < length (cells_under made (child_cell made.points cell octant)) → (parent : ℕ) × HasParent (cells_under made (child_cell made.points cell octant)) parent i)
    → (i : ℕ) → i < length (cells_in made cell octant) → IsChildOrHasParent cell (cells_in made cell octant) i
cells_in-parents made cell octant h =
    elim (eqb (length (child_cell made.points cell octant).members) 0) as (λ b. (i : ℕ) → i < length (cond b [] (cells_under made (child_cell made.points cell octant))) → IsChildOrHasParent cell (cond b [] (cells_under made (child_cell made.points cell octant))) i) [
      | true ↦ λ i l. absurd (omega arith)
      | false ↦ lie
    ]
  where
    lie : (i : ℕ) → i < length (cells_under made (child_cell made.points cell octant)) → IsChildOrHasParent cell (cells_under made (child_cell made.points cell octant)) i
    lie zero l = let e = (cells_under-first made (child_cell made.points cell octant)).first in inl (rw e (octant_from_within cell.cube (child_of cell.cube octant) (omega arith) (CubeContains-child_of cell.cube octant)))
    lie (suc i) l = inr (h (suc i) (omega arith) l)

-- so they have in some octants
octants-parents : (made : Made) (cell : Cell) (first n : ℕ)
    → ((octant i : ℕ) → 0 < i → i < length (cells_under made (child_cell made.points cell octant)) → (parent : ℕ) × HasParent (cells_under made (child_cell made.points cell octant)) parent i)
    → (i : ℕ) → i < length (cells_of_octants made cell first n) → IsChildOrHasParent cell (cells_of_octants made cell first n) i
octants-parents made cell first zero h = λ i l. absurd (omega arith)
octants-parents made cell first (suc n) h =
    IsChildOrHasParent-append cell (cells_in made cell first) (cells_of_octants made cell (first + 1) n)
    (cells_in-parents made cell first (h first)) (octants-parents made cell (first + 1) n h)

-- each cell of a subtree but its first has its parent there
pub cells_under-parents : (made : Made) (cell : Cell) (i : ℕ) → 0 < i → i < length (cells_under made cell) → (parent : ℕ) × HasParent (cells_under made cell) parent i
cells_under-parents made =
    cells_under_induction made (λ cell cells. (i : ℕ) → 0 < i → i < length cells → (parent : ℕ) × HasParent cells parent i)
    (λ cell t i low l. absurd (omega arith)) (λ cell f ih. later cell (cells_of_octants made cell 0 8) (octants-parents made cell 0 8 ih))
  where
    later : (cell : Cell) (cells : List Cell) → ((i : ℕ) → i < length cells → IsChildOrHasParent cell cells i) → (i : ℕ) → 0 < i → i < length (cell ∷ cells) → (parent : ℕ) × HasParent (cell ∷ cells) parent i
    later cell cells h zero low l = absurd (omega arith)
    later cell cells h (suc i) low l =
        elim (h i (omega arith)) [
          | inl w ↦ (0, record { before = omega arith; octant = w })
          | inr v ↦ (suc v.0, record { before = let b = v.1.before in omega arith; octant = v.1.octant })
        ]
