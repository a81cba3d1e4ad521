-- Cells that lie in cells, and the leaves that tasks touch.
use Rattle.std.proofs.Common.{◌≡◌, ℕ, ◌<◌, ◌≤◌, Bool, true, false, ◌&&◌, List, Contains, length, get_or, refl, sym, ap, ◌∙◌, inl, inr, arith}
use Rattle.std.specs.List.{list_any, range_with_len}
use Rattle.std.proofs.lemmas.Bool.{cases_Bool, and_parts, or_cases, or_left, false≢true, false_from_ne_true}
use Rattle.std.proofs.lemmas.List.Folds.{list_any_at, list_any_none}
use Rattle.lists.proofs.Ranges.{below_from_numbers}
use Rattle.lists.proofs.Elements.{All-from_Contains, Contains-from_filter, passes_from_filter}
use Rattle.sph_num.specs.declared.kind.Kind.{Kind}
use Rattle.cell_geom.proofs.Nesting.{CubeContains-self}
use Rattle.cell_tree.specs.Spans.{is_leaf_cell, leaf_cells}
use Rattle.cell_tree.specs.Tree.{Made, AreLeavesBelow, cells_of, cell_at, is_leaf, leaf_count, lies_in}
use Rattle.cell_tree.proofs.LeafCells.{IsLeafCell-at}
use Rattle.cell_tree.proofs.Partition.{leaf_alone}
use Rattle.task_graph.specs.declared.task.Task.{Task}
use Rattle.task_graph.specs.Tasks.{cell_task, touches}

-- a test that only one element of a list may pass
pub list_any-of_one : {X : Type 0} (p : X → Bool) (xs : List X) (x : X) → Contains xs x → ((y : X) → Contains xs y → p y ≡ true → x ≡ y) → list_any p xs ≡ p x
list_any-of_one p xs x c one =
    elim (cases_Bool (p x)) [
      | inl t ↦ list_any_at p xs c.0 x c.1 (ap p c.2 ∙ t) ∙ sym t
      | inr f ↦
          list_any_none p xs (All-from_Contains (λ y. p y ≡ false) xs (λ y d. false_from_ne_true (p y) (λ t. false≢true (sym f ∙ ap p (one y d t) ∙ t))))
          ∙ sym f
    ]

module _ (made : Made) where
  -- a leaf is a cell of the tree
  pub leaf_within : (cell : ℕ) → Contains (leaf_cells made) cell → cell < length (cells_of made)
  leaf_within cell c = below_from_numbers (length (cells_of made)) cell (Contains-from_filter (is_leaf_cell made) (range_with_len 0 (length (cells_of made))) cell c)

  pub leaf_stands : (cell : ℕ) → Contains (leaf_cells made) cell → is_leaf made (cell_at made cell) ≡ true
  leaf_stands cell c = passes_from_filter (is_leaf_cell made) (range_with_len 0 (length (cells_of made))) cell c

  pub lies_in-self : (cell : ℕ) → lies_in made cell cell ≡ true
  lies_in-self cell = CubeContains-self (cell_at made cell).cube

  -- a leaf's number is in a cell's range just where the leaf lies in the cell
  pub in_range_from_lies : (cell from to leaf : ℕ) → AreLeavesBelow made cell from to → leaf < leaf_count made → lies_in made cell (get_or (leaf_cells made) leaf 0) ≡ true → (from ≤ leaf) × (leaf < to)
  in_range_from_lies cell from to leaf below l t = below.outside leaf (get_or (leaf_cells made) leaf 0) (IsLeafCell-at made leaf 0 l) t

  pub lies_from_in_range : (cell from to leaf : ℕ) → AreLeavesBelow made cell from to → from ≤ leaf → leaf < to → lies_in made cell (get_or (leaf_cells made) leaf 0) ≡ true
  lies_from_in_range cell from to leaf below low high =
      let most = below.within in
      below.inside leaf (get_or (leaf_cells made) leaf 0) (IsLeafCell-at made leaf 0 (omega arith)) low high

  -- no leaf lies in another
  pub same_from_lies_in : (outer inner : ℕ) → Contains (leaf_cells made) outer → Contains (leaf_cells made) inner → lies_in made outer inner ≡ true → outer ≡ inner
  same_from_lies_in outer inner c d t =
      leaf_alone made outer inner (leaf_within outer c) (leaf_within inner d) (leaf_stands outer c) t

  -- a task on a leaf touches it, and no other
  touches_own : (kind : Kind) (cell : ℕ) → touches made (cell_task kind cell) cell ≡ true
  touches_own kind cell = or_left (lies_in made cell cell) false (lies_in-self cell)

  touches_just_own : (kind : Kind) (cell leaf : ℕ) → Contains (leaf_cells made) cell → Contains (leaf_cells made) leaf → touches made (cell_task kind cell) leaf ≡ true → cell ≡ leaf
  touches_just_own kind cell leaf c d t =
      elim (or_cases (lies_in made cell leaf) false t) [
        | inl u ↦ same_from_lies_in cell leaf c d u
        | inr u ↦ absurd (false≢true u)
      ]

  -- the leaves that two tasks touch
  abbrev pub share_leaf : Task → Task → Bool
  share_leaf before after = list_any (λ leaf. touches made before leaf && touches made after leaf) (leaf_cells made)

  -- a task on a leaf shares a leaf with the tasks that touch its own
  pub leaf_shares : (kind : Kind) (cell : ℕ) (after : Task) → Contains (leaf_cells made) cell → share_leaf (cell_task kind cell) after ≡ touches made after cell
  leaf_shares kind cell after c =
      let before = cell_task kind cell in
      list_any-of_one (λ leaf. touches made before leaf && touches made after leaf) (leaf_cells made) cell c
      (λ leaf d t. touches_just_own kind cell leaf c d (and_parts (touches made before leaf) (touches made after leaf) t).0)
      ∙ ap (λ b. b && touches made after cell) (touches_own kind cell)

  pub shares_leaf : (before : Task) (kind : Kind) (cell : ℕ) → Contains (leaf_cells made) cell → share_leaf before (cell_task kind cell) ≡ touches made before cell
  shares_leaf before kind cell c =
      let after = cell_task kind cell in
      list_any-of_one (λ leaf. touches made before leaf && touches made after leaf) (leaf_cells made) cell c
      (λ leaf d t. touches_just_own kind cell leaf c d (and_parts (touches made before leaf) (touches made after leaf) t).1)
      ∙ ap (λ b. touches made before cell && b) (touches_own kind cell) ∙ and_true (touches made before cell)
    where
      and_true : (b : Bool) → (b && true) ≡ b
      and_true true = refl
      and_true false = refl
