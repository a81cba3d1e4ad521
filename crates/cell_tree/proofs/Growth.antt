-- A cell's subtree, grown octant by octant.
use Rattle.std.proofs.Common.{◌≡◌, ℕ, suc, ◌+◌, ◌-◌, ◌<◌, ◌≤◌, true, false, cond, List, [], ◌∷◌, ◌++◌, length, get_or, take, drop, set, map, refl, sym, ap, ◌∙◌, subst, append_assoc, length-append, arith}
use Rattle.std.proofs.lemmas.Bool.{eq-eqb, ne_eqb}
use Rattle.std.proofs.lemmas.List.{append-nil, nil_from_length, map-append, take_at, drop_at, set_at, get_or_at, length_push, length-map}
use Rattle.std.proofs.lemmas.List.Concat.{flat_map-append}
use Rattle.std.proofs.lemmas.List.Elements.{Contains-get_or}
use Rattle.lists.proofs.Ranges.{flat_map_range_more}
use borrow.Rule.Slice.PartMut.{put_mid}
use Rattle.cell_geom.specs.declared.cube.Cube.{Cube}
use Rattle.cell_geom.specs.Cube.{child_of}
use Rattle.cell_tree.specs.declared.node.Node.{Node}
use Rattle.cell_tree.specs.Tree.{Made, Cell, child_cell, is_leaf, reach_of}
use Rattle.cell_tree.specs.Laws.{CanBeMade, most_cells}
use Rattle.cell_tree.specs.inner.Nodes.{node_of, cell_over, leaf_members, members_in, in_octant, in_octants, IsSound}
use Rattle.cell_tree.specs.inner.Under.{cells_under, cells_in, cells_of_octants, cells_below}
use Rattle.cell_tree.proofs.Counts.{cells_under-bound}
use Rattle.cell_tree.proofs.Members.{IsSound-child}
use Rattle.cell_tree.proofs.Under.{IsSplit, cells_under-leaf, cells_under-split}
use Rattle.cell_tree.proofs.OctantLists.{in_octants_more}
use Rattle.sph_num.specs.Ranges.{most_particles}

module _ (made : Made) (cell : Cell) where
  -- the members of the octants before this one, in the order of the leaves
  abbrev pub done : ℕ → List ℕ
  done n = members_in made (cells_of_octants made cell 0 n)

  -- those of this octant and the later ones, sorted by octant
  abbrev pub todo : ℕ → List ℕ
  todo n = in_octants made.points cell.cube.level cell.members n (8 - n)

  -- the members of one octant
  abbrev pub part : ℕ → List ℕ
  part n = in_octant made.points cell.cube.level cell.members n

  -- the cells of one octant more
  cells_more : (n : ℕ) → cells_of_octants made cell 0 (n + 1) ≡ cells_of_octants made cell 0 n ++ cells_in made cell n
  cells_more n = flat_map_range_more (cells_in made cell) 0 n ∙ ap (λ k. cells_of_octants made cell 0 n ++ cells_in made cell k) (omega arith)

  -- its members in the order of the leaves
  done_more : (n : ℕ) → done (n + 1) ≡ done n ++ members_in made (cells_in made cell n)
  done_more n = ap (members_in made) (cells_more n) ∙ flat_map-append (leaf_members made) (cells_of_octants made cell 0 n) (cells_in made cell n)

  -- one octant less to do
  todo_more : (n : ℕ) → n < 8 → todo n ≡ part n ++ todo (n + 1)
  todo_more n l =
      let e : 8 - n ≡ suc (8 - (n + 1)) = omega arith in
      ap (in_octants made.points cell.cube.level cell.members n) e

  -- the nodes of one octant more
  nodes_more : (n : ℕ) → map (node_of made) (cells_of_octants made cell 0 (n + 1)) ≡ map (node_of made) (cells_of_octants made cell 0 n) ++ map (node_of made) (cells_in made cell n)
  nodes_more n = ap (map (node_of made)) (cells_more n) ∙ map-append (node_of made) (cells_of_octants made cell 0 n) (cells_in made cell n)

  -- an octant with no member has no cell
  skipped : (n : ℕ) → length (part n) ≡ 0 → cells_in made cell n ≡ []
  skipped n e = let t = eq-eqb (length (part n)) 0 e in rw t refl

  -- an octant with members has its child's cells
  taken : (n : ℕ) → 0 < length (part n) → cells_in made cell n ≡ cells_under made (child_cell made.points cell n)
  taken n l = let f = ne_eqb (length (part n)) 0 (λ e. omega arith) in rw f refl

  -- the first n octants are grown: where their members end, and what the lists hold then
  pub record IsGrownTo (before : List Node) (n : ℕ) (members : List ℕ) (start : ℕ) (nodes : List Node) : Type 0 where
    pub members_are : members ≡ done n ++ todo n
    pub start_is : start ≡ length (done n)
    pub sorted : start ≡ length (in_octants made.points cell.cube.level cell.members 0 n)
    pub nodes_are : nodes ≡ before ++ map (node_of made) (cells_of_octants made cell 0 n)

  -- an octant ends where it starts, and its members
  part_length : (n start end : ℕ) → start ≡ length (in_octants made.points cell.cube.level cell.members 0 n) → end ≡ length (in_octants made.points cell.cube.level cell.members 0 (n + 1))
      → end ≡ start + length (part n)
  part_length n start end s e =
      e ∙ ap length (in_octants_more made.points cell.cube.level cell.members n) ∙ length-append (in_octants made.points cell.cube.level cell.members 0 n) (part n)
      ∙ ap (λ k. k + length (part n)) (sym s)

  -- an octant with no member is passed over
  pub IsGrownTo-skip : (before : List Node) (n : ℕ) (members members' : List ℕ) (start end : ℕ) (nodes nodes' : List Node) → IsGrownTo before n members start nodes → n < 8
      → end ≡ length (in_octants made.points cell.cube.level cell.members 0 (n + 1)) → end ≤ start → members' ≡ members → nodes' ≡ nodes → IsGrownTo before (n + 1) members' end nodes'
  IsGrownTo-skip before n members members' start end nodes nodes' g l e none same_members same_nodes =
      let p = part_length n start end g.sorted e in
      let empty : length (part n) ≡ 0 = omega arith in
      let same : end ≡ start = omega arith in
      let d : done (n + 1) ≡ done n = done_more n ∙ ap (λ cells. done n ++ members_in made cells) (skipped n empty) ∙ append-nil (done n) in
      record {
        members_are = same_members ∙ g.members_are ∙ ap (λ xs. done n ++ xs) (todo_more n l ∙ ap (λ xs. xs ++ todo (n + 1)) (nil_from_length (part n) empty)) ∙ ap (λ xs. xs ++ todo (n + 1)) (sym d);
        start_is = same ∙ g.start_is ∙ ap length (sym d);
        sorted = e;
        nodes_are = same_nodes ∙ g.nodes_are ∙ ap (λ ns. before ++ ns) (sym (nodes_more n ∙ ap (λ cells. map (node_of made) (cells_of_octants made cell 0 n) ++ map (node_of made) cells) (skipped n empty) ∙ append-nil _));
      }

  -- this octant's members stand from the start on
  pub part_stands : (before : List Node) (n : ℕ) (members : List ℕ) (start end : ℕ) (nodes : List Node) → IsGrownTo before n members start nodes → n < 8
      → end ≡ length (in_octants made.points cell.cube.level cell.members 0 (n + 1)) → take (end - start) (drop start members) ≡ part n
  part_stands before n members start end nodes g l e =
      let p = part_length n start end g.sorted e in
      ap (λ xs. take (end - start) (drop start xs)) (g.members_are ∙ ap (λ xs. done n ++ xs) (todo_more n l))
      ∙ ap (take (end - start)) (drop_at (done n) (part n ++ todo (n + 1)) start (sym g.start_is)) ∙ take_at (part n) (todo (n + 1)) (end - start) (omega arith)

  -- an octant's members end within the list
  pub end_within : (before : List Node) (n : ℕ) (members : List ℕ) (start end : ℕ) (nodes : List Node) → IsGrownTo before n members start nodes → n < 8
      → end ≡ length (in_octants made.points cell.cube.level cell.members 0 (n + 1)) → end ≤ length members
  end_within before n members start end nodes g l e =
      let p = part_length n start end g.sorted e in
      let m = ap length (g.members_are ∙ ap (λ xs. done n ++ xs) (todo_more n l)) in
      omega (arith, m, g.start_is, length-append (done n) (part n ++ todo (n + 1)), length-append (part n) (todo (n + 1)))

  -- an octant's members are written back in their place
  put_back : (start k : ℕ) (members ys : List ℕ) (n : ℕ) → members ≡ done n ++ (part n ++ todo (n + 1)) → start ≡ length (done n) → k ≡ length (part n)
      → put_mid start k members ys ≡ (done n ++ ys) ++ todo (n + 1)
  put_back start k members ys n e s m =
      rw (e, take_at (done n) (part n ++ todo (n + 1)) start (sym s), drop_at (done n) (part n ++ todo (n + 1)) start (sym s), drop_at (part n) (todo (n + 1)) k (sym m))
      (sym (append_assoc (done n) ys (todo (n + 1))))

  -- an octant with members is grown
  pub IsGrownTo-take : (before : List Node) (n : ℕ) (members members' : List ℕ) (start end : ℕ) (nodes nodes' : List Node) (ys : List ℕ) → IsGrownTo before n members start nodes → n < 8
      → end ≡ length (in_octants made.points cell.cube.level cell.members 0 (n + 1)) → start < end → ys ≡ members_in made (cells_under made (child_cell made.points cell n)) → length ys ≡ end - start
      → nodes' ≡ nodes ++ map (node_of made) (cells_under made (child_cell made.points cell n)) → members' ≡ put_mid start (end - start) members ys → IsGrownTo before (n + 1) members' end nodes'
  IsGrownTo-take before n members members' start end nodes nodes' ys g l e some y len news put =
      let p = part_length n start end g.sorted e in
      let t = taken n (omega arith) in
      let d : done (n + 1) ≡ done n ++ ys = done_more n ∙ ap (λ cells. done n ++ members_in made cells) t ∙ ap (λ xs. done n ++ xs) (sym y) in
      record {
        members_are = put ∙ put_back start (end - start) members ys n (g.members_are ∙ ap (λ xs. done n ++ xs) (todo_more n l)) g.start_is (omega arith) ∙ ap (λ xs. xs ++ todo (n + 1)) (sym d);
        start_is = omega (arith, ap length d, length-append (done n) ys, g.start_is);
        sorted = e;
        nodes_are = news ∙ ap (λ ns. ns ++ map (node_of made) (cells_under made (child_cell made.points cell n))) g.nodes_are ∙ append_assoc before _ _
            ∙ ap (λ ns. before ++ ns) (sym (nodes_more n ∙ ap (λ cells. map (node_of made) (cells_of_octants made cell 0 n) ++ map (node_of made) cells) t));
      }

  -- the cube and the members of an octant are its cell
  pub child_is : (n : ℕ) (cube : Cube) (ms : List ℕ) → cube ≡ child_of cell.cube n → ms ≡ part n → cell_over cube ms ≡ child_cell made.points cell n
  child_is n cube ms e f = rw (e, f) refl

  -- the cell of an octant with members is sound
  pub child_sound : (before : List Node) (n : ℕ) (members : List ℕ) (start end : ℕ) (nodes : List Node) (cube : Cube) → IsGrownTo before n members start nodes → n < 8
      → end ≡ length (in_octants made.points cell.cube.level cell.members 0 (n + 1)) → start < end → IsSound made cell → IsSplit made cell → cube ≡ child_of cell.cube n
      → IsSound made (cell_over cube (take (end - start) (drop start members)))
  child_sound before n members start end nodes cube g l e some sound split same =
      let p = part_length n start end g.sorted e in
      subst (IsSound made) (sym (child_is n cube _ same (part_stands before n members start end nodes g l e))) (IsSound-child made cell n sound split l (omega arith))

  -- as many members as stand between start and end
  pub part_long : (before : List Node) (n : ℕ) (members : List ℕ) (start end : ℕ) (nodes : List Node) → IsGrownTo before n members start nodes → n < 8
      → end ≡ length (in_octants made.points cell.cube.level cell.members 0 (n + 1)) → length (take (end - start) (drop start members)) ≡ end - start
  part_long before n members start end nodes g l e =
      let p = part_length n start end g.sorted e in
      ap length (part_stands before n members start end nodes g l e) ∙ omega arith

-- a length for each member
pub lengths_of_members : (made : Made) (cell : Cell) → CanBeMade made → IsSound made cell → (k : ℕ) → k < length cell.members → get_or cell.members k 0 < length made.lengths
lengths_of_members made cell can s k l =
    let w = (s.held.each (get_or cell.members k 0) (Contains-get_or cell.members k 0 l)).0 in
    omega (arith, can.one_length_each)

-- the members of a leaf are in their order already
pub leaf_members_all : (made : Made) (cell : Cell) → is_leaf made cell ≡ true → cell.members ≡ members_in made (cells_under made cell)
leaf_members_all made cell h = sym (ap (members_in made) (cells_under-leaf made cell h) ∙ ap (λ b. cond b cell.members [] ++ []) h ∙ append-nil cell.members)

-- a leaf is one node
pub leaf_nodes_all : (made : Made) (cell : Cell) (before nodes : List Node) (reach : ℕ) → is_leaf made cell ≡ true → reach ≡ reach_of made cell
    → nodes ≡ before ++ record { cube = cell.cube; count = length cell.members; reach = reach; size = 1 } ∷ [] → nodes ≡ before ++ map (node_of made) (cells_under made cell)
leaf_nodes_all made cell before nodes reach h r e =
    let one = ap length (cells_under-leaf made cell h) in
    e ∙ ap (λ (n : ℕ). before ++ record { cube = cell.cube; count = length cell.members; reach = n; size = 1 } ∷ []) r
    ∙ ap (λ (n : ℕ). before ++ record { cube = cell.cube; count = length cell.members; reach = reach_of made cell; size = n } ∷ []) (sym one)
    ∙ ap (λ cells. before ++ map (node_of made) cells) (sym (cells_under-leaf made cell h))

-- a split cell adds no members of its own
pub split_members_all : (made : Made) (cell : Cell) (members : List ℕ) → is_leaf made cell ≡ false → members ≡ members_in made (cells_below made cell) → members ≡ members_in made (cells_under made cell)
split_members_all made cell members h e = e ∙ sym (ap (members_in made) (cells_under-split made cell h) ∙ ap (λ b. cond b cell.members [] ++ members_in made (cells_below made cell)) h)

module _ (made : Made) (cell : Cell) (split : is_leaf made cell ≡ false) (before nodes : List Node) (x : Node) (grown : nodes ≡ (before ++ x ∷ []) ++ map (node_of made) (cells_below made cell)) where
  -- the lists grow by the cells of the subtree
  pub grown_length : length nodes ≡ length before + length (cells_under made cell)
  grown_length =
      let e = ap length (cells_under-split made cell split) in
      omega (arith, ap length grown, length-append (before ++ x ∷ []) (map (node_of made) (cells_below made cell)), length_push before x, length-map (cells_below made cell) (node_of made))

  -- the cell stands before the cells below it
  grown_split : nodes ≡ before ++ x ∷ map (node_of made) (cells_below made cell)
  grown_split = grown ∙ append_assoc before (x ∷ []) (map (node_of made) (cells_below made cell))

  -- the cell stands where the list ended
  pub grown_at : (i : ℕ) (d : Node) → i ≡ length before → get_or nodes i d ≡ x
  grown_at i d e = ap (λ ns. get_or ns i d) grown_split ∙ get_or_at before x (map (node_of made) (cells_below made cell)) d i (sym e)

  -- once its size is set, the cell is as it is kept
  pub grown_set : (i : ℕ) (y : Node) → i ≡ length before → y ≡ node_of made cell → set nodes i y ≡ before ++ map (node_of made) (cells_under made cell)
  grown_set i y e s =
      ap (λ ns. set ns i y) grown_split ∙ set_at before x (map (node_of made) (cells_below made cell)) y i (sym e)
      ∙ ap (λ n. before ++ n ∷ map (node_of made) (cells_below made cell)) s ∙ ap (λ cells. before ++ map (node_of made) cells) (sym (cells_under-split made cell split))

-- the subtree of a cell has so few cells that their number fits
pub size_fits : (made : Made) (cell : Cell) → IsSound made cell → length cell.members ≤ most_particles → length (cells_under made cell) ≤ most_cells
size_fits made cell s short = let b = cells_under-bound made cell s.held.in_box.level s.some in omega arith
