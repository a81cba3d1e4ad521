-- The children of a cell, as the list of its definition.
use Rattle.std.proofs.Common.{◌≡◌, ℕ, suc, ◌<◌, ◌≤◌, ◌↔◌, List, length, get_or, inl, inr, ap, arith}
use Rattle.std.specs.List.{Contains, range_with_len}
use Rattle.std.specs.List.Sorted.{IsStrictlyIncreasing}
use Rattle.std.proofs.lemmas.Bool.{cases_eq}
use Rattle.std.proofs.lemmas.List.Elements.{Contains-get_or}
use Rattle.std.proofs.lemmas.List.Kept.{AllPairs-filter, AllPairs-from_increasing}
use Rattle.lists.proofs.Elements.{Contains-filter, Contains-from_filter, passes_from_filter}
use Rattle.lists.proofs.Ranges.{below_from_numbers, Contains-numbers}
use Rattle.lists.proofs.Rising.{Rises, same_rising, Rises-range}
use Rattle.cell_geom.specs.Cube.{deepest_level, is_octant_of}
use Rattle.cell_geom.proofs.Nesting.{octant_within}
use Rattle.cell_tree.specs.Laws.{CanBeMade}
use Rattle.cell_tree.specs.Tree.{Made, cells_of, cell_at, IsParent}
use Rattle.cell_tree.proofs.Family.{child_level, run_outside}
use Rattle.pair_cover.specs.inner.Steps.{level_at}
use Rattle.pair_cover.specs.Looks.{children_of}
use Rattle.pair_cover.proofs.LookSteps.{level_most}

module _ (made : Made) (cell : ℕ) where
  -- the children rise
  pub children_rise : Rises (children_of made cell)
  unfolding children_of
  children_rise =
      AllPairs-filter (λ x y. x < y) (λ k. is_octant_of (cell_at made cell).cube (cell_at made k).cube) (range_with_len 0 (length (cells_of made))) (Rises-range 0 (length (cells_of made)))

  module _ (within : cell < length (cells_of made)) where
    -- what the list has is a child
    pub IsParent-from_children : (child : ℕ) → Contains (children_of made cell) child → IsParent made cell child
    unfolding children_of
    IsParent-from_children child c =
        let test = λ (k : ℕ). is_octant_of (cell_at made cell).cube (cell_at made k).cube in
        let all = range_with_len 0 (length (cells_of made)) in
        let l = below_from_numbers (length (cells_of made)) child (Contains-from_filter test all child c) in
        let t = passes_from_filter test all child c in
        let w = octant_within (cell_at made cell).cube (cell_at made child).cube t in
        let order = (run_outside made cell child within l w.1).0 in
        let next = w.0 in
        elim (cases_eq cell child) [
          | inl e ↦ let same = ap (λ k. (cell_at made k).cube.level) e in absurd (omega arith)
          | inr ne ↦ record { before = omega arith; within = l; octant = t }
        ]

    -- and each child is in it
    pub children-from_IsParent : (child : ℕ) → IsParent made cell child → Contains (children_of made cell) child
    unfolding children_of
    children-from_IsParent child p =
        Contains-filter (λ k. is_octant_of (cell_at made cell).cube (cell_at made k).cube) (range_with_len 0 (length (cells_of made))) child p.octant
        (Contains-numbers (length (cells_of made)) child p.within)

    -- a rising list of just the children is that list
    pub children_are : (numbers : List ℕ) → IsStrictlyIncreasing numbers → ((child : ℕ) → Contains numbers child ↔ IsParent made cell child) → numbers ≡ children_of made cell
    children_are numbers r just =
        same_rising numbers (children_of made cell) (AllPairs-from_increasing numbers r) children_rise
        (λ child c. children-from_IsParent child ((just child).0 c)) (λ child c. (just child).1 (IsParent-from_children child c))

-- a child is a cell one level down
pub record IsBelow (made : Made) (cell child : ℕ) : Type 0 where
  pub within : child < length (cells_of made)
  pub deeper : level_at made child ≡ suc (level_at made cell)
  pub most : level_at made child ≤ deepest_level

child_below : (made : Made) (cell child : ℕ) → CanBeMade made → IsParent made cell child → IsBelow made cell child
child_below made cell child can p = record { within = p.within; deeper = child_level made cell child p; most = level_most made can child p.within }

-- so is what the list of the children has, and what is read from a list of just the children
pub child_listed : (made : Made) (cell child : ℕ) → CanBeMade made → cell < length (cells_of made) → Contains (children_of made cell) child → IsBelow made cell child
child_listed made cell child can l c = child_below made cell child can (IsParent-from_children made cell l child c)

pub child_read : (made : Made) (cell : ℕ) (numbers : List ℕ) → CanBeMade made → ((child : ℕ) → Contains numbers child ↔ IsParent made cell child) → (k : ℕ) → k < length numbers → IsBelow made cell (get_or numbers k 0)
child_read made cell numbers can just k l =
    let child = get_or numbers k 0 in
    child_below made cell child can ((just child).0 (Contains-get_or numbers k 0 l))
