-- The points of a tree in the order of its leaves.
use Rattle.std.proofs.Common.{◌≡◌, ℕ, zero, suc, ◌+◌, ◌<◌, ◌≤◌, true, cond, eqb, List, [], ◌++◌, length, get_or, take, drop, refl, sym, ap, ◌∙◌, inl, inr, length-append, arith}
use Rattle.std.specs.List.{flat_map}
use Rattle.std.proofs.lemmas.Bool.{cases_Bool, eqb-true}
use Rattle.std.proofs.lemmas.List.{append-nil, take-append-drop, take_at, drop_at, drop_more, get_or-map, length-map}
use Rattle.std.proofs.lemmas.List.Folds.{length-flat_map-take}
use Rattle.std.proofs.lemmas.List.Concat.{flat_map-append}
use Rattle.std.proofs.lemmas.List.FromFn.{length-range_with_len}
use Rattle.cell_tree.specs.Laws.{CanBeMade, most_cells}
use Rattle.cell_tree.specs.declared.node.Node.{Node}
use Rattle.cell_tree.specs.inner.Parts.{IsGrown}
use Rattle.cell_tree.specs.inner.Nodes.{node_of, leaf_members, members_in, in_octant, in_octants}
use Rattle.cell_tree.specs.Tree.{Made, Cell, child_cell, cells_of, cell_at, no_cell, is_leaf}
use Rattle.cell_tree.specs.inner.Under.{cells_under, cells_in, cells_of_octants}
use Rattle.cell_tree.proofs.Growth.{size_fits}
use Rattle.cell_tree.proofs.Members.{root, IsSound-root}
use Rattle.cell_tree.proofs.OctantLists.{length-in_octants}
use Rattle.cell_tree.proofs.Shape.{cells_under-first}
use Rattle.cell_tree.proofs.Under.{cells_under_induction}

-- a list's piece in the lists joined
pub flat_map_run : {X A : Type 0} (f : X → List A) (xs : List X) (i : ℕ) (d : X) → i < length xs
    → take (length (f (get_or xs i d))) (drop (length (flat_map f (take i xs))) (flat_map f xs)) ≡ f (get_or xs i d)
flat_map_run f xs i d l =
    let parts : flat_map f xs ≡ flat_map f (take i xs) ++ (f (get_or xs i d) ++ flat_map f (drop (i + 1) xs)) =
    ap (flat_map f) (sym (take-append-drop i xs)) ∙ flat_map-append f (take i xs) (drop i xs) ∙ ap (λ ys. flat_map f (take i xs) ++ flat_map f ys) (drop_more xs i d l) in
    ap (λ ys. take (length (f (get_or xs i d))) (drop (length (flat_map f (take i xs))) ys)) parts
    ∙ ap (take (length (f (get_or xs i d)))) (drop_at (flat_map f (take i xs)) (f (get_or xs i d) ++ flat_map f (drop (i + 1) xs)) (length (flat_map f (take i xs))) refl)
    ∙ take_at (f (get_or xs i d)) (flat_map f (drop (i + 1) xs)) (length (f (get_or xs i d))) refl

-- the leaves of an octant have as many members as the octant
cells_in-members : (made : Made) (cell : Cell) (octant : ℕ) → length (members_in made (cells_under made (child_cell made.points cell octant))) ≡ length (child_cell made.points cell octant).members
    → length (members_in made (cells_in made cell octant)) ≡ length (in_octant made.points cell.cube.level cell.members octant)
cells_in-members made cell octant h =
    elim (cases_Bool (eqb (length (child_cell made.points cell octant).members) 0)) [
      | inl t ↦ rw t (sym (eqb-true _ _ t))
      | inr f ↦ rw f h
    ]

-- the leaves of some octants have as many members as the octants
octants-members : (made : Made) (cell : Cell) (first n : ℕ)
    → ((octant : ℕ) → length (members_in made (cells_under made (child_cell made.points cell octant))) ≡ length (child_cell made.points cell octant).members)
    → length (members_in made (cells_of_octants made cell first n)) ≡ length (in_octants made.points cell.cube.level cell.members first n)
octants-members made cell first zero h = refl
octants-members made cell first (suc n) h =
    let a = cells_in-members made cell first (h first) in
    let b = octants-members made cell (first + 1) n h in
    let e = ap length (flat_map-append (leaf_members made) (cells_in made cell first) (cells_of_octants made cell (first + 1) n)) in
    let f = length-append (members_in made (cells_in made cell first)) (members_in made (cells_of_octants made cell (first + 1) n)) in
    let g = length-append (in_octant made.points cell.cube.level cell.members first) (in_octants made.points cell.cube.level cell.members (first + 1) n) in
    e ∙ f ∙ (let s : length (members_in made (cells_in made cell first)) + length (members_in made (cells_of_octants made cell (first + 1) n)) ≡ length (in_octant made.points cell.cube.level cell.members first) + length (in_octants made.points cell.cube.level cell.members (first + 1) n) = omega arith in s) ∙ sym g

-- the leaves below a cell have as many members as the cell
pub length-members_in : (made : Made) (cell : Cell) → length (members_in made (cells_under made cell)) ≡ length cell.members
length-members_in made =
    cells_under_induction made (λ cell cells. length (members_in made cells) ≡ length cell.members)
    (λ cell t. ap (λ b. length (cond b cell.members [] ++ [])) t ∙ ap length (append-nil cell.members))
    (λ cell f ih. ap (λ b. length (cond b cell.members [] ++ members_in made (cells_of_octants made cell 0 8))) f ∙ octants-members made cell 0 8 ih ∙ length-in_octants made.points cell.cube.level cell.members)

-- the order has each point once
pub length-order : (made : Made) → length (members_in made (cells_of made)) ≡ length made.points
length-order made = length-members_in made (root made) ∙ length-range_with_len 0 (length made.points)

-- the members of a leaf stand in the order after those of the leaves before it
pub leaf_run : (made : Made) (cell : ℕ) → cell < length (cells_of made) → is_leaf made (cell_at made cell) ≡ true
    → take (length (cell_at made cell).members) (drop (length (members_in made (take cell (cells_of made)))) (members_in made (cells_of made))) ≡ (cell_at made cell).members
leaf_run made cell l h =
    let e : leaf_members made (cell_at made cell) ≡ (cell_at made cell).members = ap (λ b. cond b (cell_at made cell).members []) h in
    ap (λ k. take k (drop (length (members_in made (take cell (cells_of made)))) (members_in made (cells_of made)))) (ap length (sym e))
    ∙ flat_map_run (leaf_members made) (cells_of made) cell no_cell l ∙ e

-- how many cells a tree has at most
pub cells_few : (made : Made) → CanBeMade made → length (cells_of made) ≤ most_cells
cells_few made can = size_fits made (root made) (IsSound-root made can) (let m = can.not_too_many in omega (arith, length-range_with_len 0 (length made.points)))

-- a tree has a cell
pub cells_some : (made : Made) → 0 < length (cells_of made)
cells_some made = (cells_under-first made (root made)).some

-- what is read at a cell's place is what is kept of the cell
pub node_at : (made : Made) (nodes : List Node) (order : List ℕ) → IsGrown made nodes order → (cell : ℕ) → cell < length (cells_of made) → (x : Node) → x ≡ get_or nodes cell x → x ≡ node_of made (cell_at made cell)
node_at made nodes order g cell l x e = e ∙ ap (λ ns. get_or ns cell x) g.nodes_are ∙ get_or-map (node_of made) (cells_of made) cell no_cell x l

-- there is a node for each cell
pub length-nodes : (made : Made) (nodes : List Node) (order : List ℕ) → IsGrown made nodes order → length nodes ≡ length (cells_of made)
length-nodes made nodes order g = ap length g.nodes_are ∙ length-map (cells_of made) (node_of made)

-- a leaf's members end within the order
pub leaf_run_end : (made : Made) (nodes : List Node) (order : List ℕ) → IsGrown made nodes order → (cell : ℕ) → cell < length (cells_of made) → is_leaf made (cell_at made cell) ≡ true
    → length (members_in made (take cell (cells_of made))) + length (cell_at made cell).members ≤ length order
leaf_run_end made nodes order g cell l h =
    let e : leaf_members made (cell_at made cell) ≡ (cell_at made cell).members = ap (λ b. cond b (cell_at made cell).members []) h in
    let b = length-flat_map-take (leaf_members made) (cells_of made) cell no_cell l in
    omega (arith, ap length e, ap length g.order_is)
