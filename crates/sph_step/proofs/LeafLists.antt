-- The lists of the members of a tree's leaves: each point stands in just one of them.
use Rattle.std.proofs.Common.{◌≡◌, ℕ, ◌+◌, ◌<◌, List, [], length, get_or, refl, sym, ap, ◌∙◌, subst, arith}
use Rattle.std.specs.List.{All, Contains}
use Rattle.std.specs.List.Sorted.{IsStrictlyIncreasing}
use Rattle.std.proofs.lemmas.List.{length-map, get_or-map}
use Rattle.std.proofs.lemmas.List.Elements.{All-map}
use Rattle.std.proofs.lemmas.Option.{get_or_from_slice_get, slice_get-get_or, slice_get_within}
use Rattle.lists.proofs.Elements.{All-from_Contains}
use Rattle.sph_num.specs.Cover.{JustOne}
use Rattle.cell_block.specs.declared.scene.Scene.{Scene}
use Rattle.cell_block.specs.Scene.{AreLeaves}
use Rattle.cell_tree.specs.Laws.{CanBeMade, HasMember}
use Rattle.cell_tree.specs.Spans.{leaf_cells}
use Rattle.cell_tree.specs.Tree.{Made, IsLeafCell, cell_at, cells_of, leaf_count}
use Rattle.cell_tree.proofs.Bounds.{members_rise}
use Rattle.cell_tree.proofs.LeafCells.{IsLeafCell-at, get_or-leaf_cells, length-leaf_cells}
use Rattle.cell_tree.proofs.LeafCounts.{leaves_before-all, leaves_before-le, leaves_before-leaf}
use Rattle.cell_tree.proofs.Partition.{IsPartition-from_CanBeMade}
use Rattle.cell_tree.proofs.TreeLists.{members_are_points}
use Rattle.task_graph.proofs.Touching.{leaf_within}
use Rattle.sph_step.specs.Made.{leaves_in}

module _ (made : Made) where
  -- the cell of the leaf of this number
  abbrev pub leaf_cell : ℕ → ℕ
  leaf_cell leaf = get_or (leaf_cells made) leaf 0

  abbrev members_at : ℕ → List ℕ
  members_at cell = (cell_at made cell).members

  pub length-leaves_in : length (leaves_in made) ≡ leaf_count made
  length-leaves_in = length-map (leaf_cells made) members_at ∙ length-leaf_cells made

  -- the members of a leaf are those of its cell
  pub leaf_members_are : (leaf : ℕ) → leaf < leaf_count made → get_or (leaves_in made) leaf [] ≡ members_at (leaf_cell leaf)
  leaf_members_are leaf l = get_or-map members_at (leaf_cells made) leaf 0 [] (omega (arith, length-leaf_cells made))

  -- who stands in the list of a leaf is a member of the leaf, and turned
  pub has_from_leaf : (leaf i : ℕ) → leaf < leaf_count made → Contains (get_or (leaves_in made) leaf []) i → HasMember made leaf (leaf_cell leaf) i
  has_from_leaf leaf i l c = record { is_leaf = IsLeafCell-at made leaf 0 l; member = subst (λ members. Contains members i) (leaf_members_are leaf l) c }

  -- a leaf that has a member is one of the tree's
  leaf_below : (leaf cell : ℕ) → IsLeafCell made leaf cell → leaf < leaf_count made
  leaf_below leaf cell is =
      let within = is.within in
      omega (arith, is.number, leaves_before-leaf made cell within is.stands, leaves_before-le made (cell + 1) (length (cells_of made)) (omega arith), leaves_before-all made)

  pub leaf_from_has : (leaf cell i : ℕ) → HasMember made leaf cell i → Contains (get_or (leaves_in made) leaf []) i
  leaf_from_has leaf cell i has =
      subst (λ members. Contains members i)
      (ap members_at (sym (get_or-leaf_cells made leaf cell 0 has.is_leaf)) ∙ sym (leaf_members_are leaf (leaf_below leaf cell has.is_leaf)))
      has.member

module _ (made : Made) (can : CanBeMade made) where
  -- each point stands in just one list
  one_leaf : (i : ℕ) → i < length made.points → JustOne (leaves_in made) (λ members. Contains members i)
  one_leaf i l =
      let law = IsPartition-from_CanBeMade made can in
      let w = law.leaf_of_point i l in
      let inside = leaf_below made w.0 w.1 w.2.is_leaf in
      let long = length-leaves_in made in
      record {
        index = w.0;
        element = get_or (leaves_in made) w.0 [];
        stands = slice_get-get_or (leaves_in made) w.0 [] (omega arith);
        it_does = leaf_from_has made w.0 w.1 i w.2;
        no_other = λ other members s c.
            let within = slice_get_within (leaves_in made) other members s in
            let c' = subst (λ ms. Contains ms i) (sym (get_or_from_slice_get (leaves_in made) other members [] s)) c in
            law.just_one i other w.0 (leaf_cell made other) w.1 (has_from_leaf made other i (omega arith) c') w.2;
      }

  -- what holds of the members of each cell holds of those of each leaf
  each_cell : (P : List ℕ → Type 0) → ((cell : ℕ) → cell < length (cells_of made) → P (members_at made cell)) → All P (leaves_in made)
  each_cell P each =
      All-map P (members_at made) (leaf_cells made) (All-from_Contains (λ cell. P (members_at made cell)) (leaf_cells made) (λ cell c. each cell (leaf_within made cell c)))

  -- the leaves of a scene with as many particles as the tree has points
  pub are_leaves : (scene : Scene) → scene.leaves ≡ leaves_in made → length scene.start ≡ length made.points → AreLeaves scene
  are_leaves scene is long = record {
    one_leaf = λ i l. subst (λ leaves. JustOne leaves (λ members. Contains members i)) (sym is) (one_leaf i (omega arith));
    members = subst (All (All (λ i. i < length scene.start))) (sym is)
        (each_cell (All (λ i. i < length scene.start))
        (λ cell l. subst (λ n. All (λ i. i < n) (members_at made cell)) (sym long) (members_are_points made can cell l (members_at made cell) refl)));
    rising = subst (All IsStrictlyIncreasing) (sym is) (each_cell IsStrictlyIncreasing (members_rise made));
  }
