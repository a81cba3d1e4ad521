-- How many leaves come before a cell, and which come below it.
use Rattle.std.proofs.Common.{◌≡◌, ℕ, zero, suc, ◌+◌, ◌-◌, ◌<◌, ◌≤◌, Bool, true, false, cond, List, [], ◌∷◌, ◌++◌, length, length-append, take, get_or, sym, ap, ◌∙◌, subst, inl, inr, count_by, arith}
use Rattle.std.proofs.lemmas.Bool.{cases_Bool, cases_lt}
use Rattle.std.proofs.lemmas.List.{take-take, take_all, take_more, append-nil, length_push}
use Rattle.std.proofs.lemmas.List.Concat.{flat_map-append}
use Rattle.std.proofs.lemmas.List.Folds.{length-flat_map-take}
use Rattle.std.proofs.lemmas.List.Sums.{sum_by-take-le, count_by_more_yes, count_by_more_no}
use Rattle.cell_tree.specs.Laws.{CanBeMade}
use Rattle.cell_tree.specs.Tree.{Made, cells_of, cell_at, no_cell, is_leaf, leaf_count, leaves_before, IsLeafCell, AreLeavesBelow, lies_in}
use Rattle.cell_tree.specs.declared.leaves.Leaf.{Leaf}
use Rattle.cell_tree.specs.inner.Nodes.{leaf_members, members_in}
use Rattle.cell_tree.specs.inner.Parts.{IsLeafAt}
use Rattle.cell_tree.proofs.Nest.{indexed_push}
use Rattle.cell_tree.proofs.Members.{sound_at}
use Rattle.cell_tree.proofs.Orders.{length-order}
use Rattle.cell_tree.proofs.Family.{size_at, size_some, run_within, run_inside, run_outside, last_leaf}
use Rattle.sph_num.specs.Ranges.{most_particles}

-- a longer front has no fewer that pass
pub count_by-take : {X : Type 0} (p : X → Bool) (xs : List X) (i j : ℕ) → i ≤ j → count_by p (take i xs) ≤ count_by p (take j xs)
count_by-take p xs i j l =
    let e = take-take i j xs l in
    subst (λ ys. count_by p ys ≤ count_by p (take j xs)) e (sum_by-take-le (λ x. cond (p x) 1 0) (take j xs) i)

module _ (made : Made) where
  -- there are no fewer leaves before a later cell
  pub leaves_before-le : (i j : ℕ) → i ≤ j → leaves_before made i ≤ leaves_before made j
  leaves_before-le i j l = count_by-take (is_leaf made) (cells_of made) i j l

  -- before the end all leaves are counted
  pub leaves_before-all : leaves_before made (length (cells_of made)) ≡ leaf_count made
  leaves_before-all = ap (count_by (is_leaf made)) (take_all (length (cells_of made)) (cells_of made) (omega arith))

  -- a leaf adds one
  pub leaves_before-leaf : (cell : ℕ) → cell < length (cells_of made) → is_leaf made (cell_at made cell) ≡ true → leaves_before made (cell + 1) ≡ leaves_before made cell + 1
  leaves_before-leaf cell l h = count_by_more_yes (is_leaf made) (cells_of made) cell no_cell l h

  -- a split cell adds none
  pub leaves_before-other : (cell : ℕ) → cell < length (cells_of made) → is_leaf made (cell_at made cell) ≡ false → leaves_before made (cell + 1) ≡ leaves_before made cell
  leaves_before-other cell l h = count_by_more_no (is_leaf made) (cells_of made) cell no_cell l h

  -- the leaves of a cell's run are those below it
  pub leaves_of_run : CanBeMade made → (cell : ℕ) → cell < length (cells_of made) → AreLeavesBelow made cell (leaves_before made cell) (leaves_before made (cell + size_at made cell))
  leaves_of_run can cell l = record { some = some; within = within; inside = inside; outside = outside }
    where
      some : leaves_before made cell < leaves_before made (cell + size_at made cell)
      some =
          let s = size_some made cell in
          let r = run_within made cell l in
          let a = leaves_before-leaf (cell + size_at made cell - 1) (omega arith) (last_leaf made can cell l) in
          let b = leaves_before-le cell (cell + size_at made cell - 1) (omega arith) in
          let e : cell + size_at made cell - 1 + 1 ≡ cell + size_at made cell = omega arith in
          let f = ap (leaves_before made) e in
          omega arith

      within : leaves_before made (cell + size_at made cell) ≤ leaf_count made
      within =
          let r = run_within made cell l in
          let a = leaves_before-le (cell + size_at made cell) (length (cells_of made)) r in
          omega (arith, leaves_before-all)

      place : (at : ℕ) → at < length (cells_of made) → is_leaf made (cell_at made at) ≡ true → leaves_before made cell ≤ leaves_before made at → cell ≤ at
      place at w h low =
          elim (cases_lt at cell) [
            | inl m ↦ let a = leaves_before-leaf at w h in let b = leaves_before-le (at + 1) cell (omega arith) in absurd (omega arith)
            | inr m ↦ m
          ]

      inside : (leaf at : ℕ) → IsLeafCell made leaf at → leaves_before made cell ≤ leaf → leaf < leaves_before made (cell + size_at made cell) → lies_in made cell at ≡ true
      inside leaf at h low high =
          let n = h.number in
          elim (cases_lt at (cell + size_at made cell)) [
            | inl m ↦ run_inside made cell at l (place at h.within h.stands (omega arith)) m
            | inr m ↦ let b = leaves_before-le (cell + size_at made cell) at m in absurd (omega arith)
          ]

      outside : (leaf at : ℕ) → IsLeafCell made leaf at → lies_in made cell at ≡ true → (leaves_before made cell ≤ leaf) × (leaf < leaves_before made (cell + size_at made cell))
      outside leaf at h r =
          let w = run_outside made cell at l h.within r in
          let n = h.number in
          let a = leaves_before-leaf at h.within h.stands in
          let b = leaves_before-le cell at w.0 in
          let c = leaves_before-le (at + 1) (cell + size_at made cell) (let m = w.1 in omega arith) in
          (omega arith, omega arith)

-- a cell adds its members if it is a leaf
members_more : (made : Made) (cell : ℕ) → cell < length (cells_of made)
    → length (members_in made (take (cell + 1) (cells_of made))) ≡ length (members_in made (take cell (cells_of made))) + length (leaf_members made (cell_at made cell))
members_more made cell l =
    ap (λ cells. length (members_in made cells)) (take_more (cells_of made) cell no_cell l)
    ∙ ap length (flat_map-append (leaf_members made) (take cell (cells_of made)) (cell_at made cell ∷ []))
    ∙ length-append (members_in made (take cell (cells_of made))) (leaf_members made (cell_at made cell) ++ [])
    ∙ ap (λ xs. length (members_in made (take cell (cells_of made))) + length xs) (append-nil (leaf_members made (cell_at made cell)))

module _ (made : Made) (can : CanBeMade made) where
  -- no leaf is empty, so the leaves before a cell have as many members at least
  leaves_before-members : (k : ℕ) → k ≤ length (cells_of made) → leaves_before made k ≤ length (members_in made (take k (cells_of made)))
  leaves_before-members zero l = omega arith
  leaves_before-members (suc k) l =
      let e : suc k ≡ k + 1 = omega arith in
      let below = leaves_before-members k (omega arith) in
      let low : k < length (cells_of made) = omega arith in
      let more = members_more made k low in
      elim (cases_Bool (is_leaf made (cell_at made k))) [
        | inl t ↦
            let here : leaf_members made (cell_at made k) ≡ (cell_at made k).members = ap (λ b. cond b (cell_at made k).members []) t in
            let some = (sound_at made can k low).some in
            let step = leaves_before-leaf made k low t in
            rw e (omega (arith, ap length here))
        | inr f ↦ let step = leaves_before-other made k low f in rw e (omega arith)
      ]

  -- there are no more leaves than points
  pub leaves_few : leaf_count made ≤ length made.points
  leaves_few =
      let all = leaves_before-members (length (cells_of made)) (omega arith) in
      let whole = ap (λ cells. length (members_in made cells)) (take_all (length (cells_of made)) (cells_of made) (omega arith)) in
      omega (arith, leaves_before-all made, length-order made)

-- the leaves among the cells before this one, and where the next leaf's members start
pub record AreLeavesTo (made : Made) (cell : ℕ) (leaves : List Leaf) (start : ℕ) : Type 0 where
  pub long : length leaves ≡ leaves_before made cell
  pub start_is : start ≡ length (members_in made (take cell (cells_of made)))
  pub each : (number : ℕ) (d : Leaf) → number < length leaves → IsLeafAt made number (get_or leaves number d)

-- one leaf more
pub AreLeavesTo-leaf : (made : Made) (cell : ℕ) (leaves leaves' : List Leaf) (start start' : ℕ) → AreLeavesTo made cell leaves start → cell < length (cells_of made) → is_leaf made (cell_at made cell) ≡ true
    → leaves' ≡ leaves ++ record { cell = cell; start = start } ∷ [] → start' ≡ start + length (cell_at made cell).members → AreLeavesTo made (cell + 1) leaves' start'
AreLeavesTo-leaf made cell leaves leaves' start start' a l h e s =
    let m : leaf_members made (cell_at made cell) ≡ (cell_at made cell).members = ap (λ b. cond b (cell_at made cell).members []) h in
    let leaf : Leaf = record { cell = cell; start = start } in
    record {
      long = ap length e ∙ length_push leaves leaf ∙ ap (λ n. n + 1) a.long ∙ sym (leaves_before-leaf made cell l h);
      start_is = omega (arith, members_more made cell l, ap length m, a.start_is);
      each = subst (λ ls. (number : ℕ) (d : Leaf) → number < length ls → IsLeafAt made number (get_or ls number d)) (sym e)
          (indexed_push (IsLeafAt made) leaves leaf a.each (record { cell = record { within = l; stands = h; number = sym a.long }; start = a.start_is }));
    }

-- one split cell more
pub AreLeavesTo-other : (made : Made) (cell : ℕ) (leaves leaves' : List Leaf) (start start' : ℕ) → AreLeavesTo made cell leaves start → cell < length (cells_of made) → is_leaf made (cell_at made cell) ≡ false
    → leaves' ≡ leaves → start' ≡ start → AreLeavesTo made (cell + 1) leaves' start'
AreLeavesTo-other made cell leaves leaves' start start' a l h e s =
    let m : leaf_members made (cell_at made cell) ≡ [] = ap (λ b. cond b (cell_at made cell).members []) h in
    record {
      long = ap length e ∙ a.long ∙ sym (leaves_before-other made cell l h);
      start_is = omega (arith, members_more made cell l, ap length m, a.start_is);
      each = subst (λ ls. (number : ℕ) (d : Leaf) → number < length ls → IsLeafAt made number (get_or ls number d)) (sym e) a.each;
    }

-- the members of the leaves up to a leaf are no more than the points
pub start_fits : (made : Made) → CanBeMade made → (cell : ℕ) → cell < length (cells_of made) → is_leaf made (cell_at made cell) ≡ true
    → length (members_in made (take cell (cells_of made))) + length (cell_at made cell).members ≤ most_particles
start_fits made can cell l h =
    let m : leaf_members made (cell_at made cell) ≡ (cell_at made cell).members = ap (λ b. cond b (cell_at made cell).members []) h in
    let b = length-flat_map-take (leaf_members made) (cells_of made) cell no_cell l in
    let n = can.not_too_many in
    omega (arith, ap length m, length-order made)
