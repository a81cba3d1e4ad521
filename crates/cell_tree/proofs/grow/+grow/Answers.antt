use Rattle.std.proofs.Common.{◌≡◌, ℕ, ◌+◌, ◌-◌, ◌≤◌, [], ◌∷◌, ◌++◌, false, map, take, drop, length, get_or, sym, ap, ◌∙◌, arith, rules}
use borrow.Rule.Slice.PartMut.{put_mid}
use Rattle.cell_geom.specs.declared.cube.Cube.{Cube}
use Rattle.cell_tree.specs.declared.node.Node.{Node}
use Rattle.cell_tree.specs.Tree.{made_of, is_leaf, reach_of}
use Rattle.cell_tree.specs.inner.Nodes.{cell_over, node_of, members_in, in_octants}
use Rattle.cell_tree.specs.inner.Under.{cells_under, cells_below}
use Rattle.cell_tree.proofs.Growth.{IsGrownTo-skip, IsGrownTo-take, end_within, part_stands, part_long, child_is, child_sound, lengths_of_members, leaf_members_all, leaf_nodes_all, split_members_all, grown_length, grown_at, grown_set, size_fits}
use Rattle.cell_tree.proofs.grow.+grow.Goals as goal
use Rattle.cell_tree.proofs.grow.+grow.Goals.{grow-After-len, grow_octants-then-start-end+in_ok-grow, grow_octants-else-start-end}
use Rattle.sph_num.specs.Ranges.{most_particles}

pub grow-reach-requires : goal.grow-reach-requires
grow-reach-requires t c = lengths_of_members (made_of c.args.points.now c.args.lengths.now c.args.leaf) (cell_over c.args.cube c.args.members.now) c.requires.can c.requires.sound

is_split : (t : ℕ) (c : goal.grow-After-len t) → is_leaf (made_of c.args.points.now c.args.lengths.now c.args.leaf) (cell_over c.args.cube c.args.members.now) ≡ false
is_split t c = sym c.is_leaf.ensures ∙ c.if-not-is_leaf.true

grown : (t : ℕ) (c : goal.grow-After-len t) → c.grow_octants.new.nodes.items
    ≡ (c.args.nodes.now.items ++ record { cube = c.args.cube; count = length c.args.members.now; reach = c.reach.result; size = 1 } ∷ [])
    ++ map (node_of (made_of c.args.points.now c.args.lengths.now c.args.leaf)) (cells_below (made_of c.args.points.now c.args.lengths.now c.args.leaf) (cell_over c.args.cube c.args.members.now))
grown t c = c.in_ok-grow_octants.ensures.nodes ∙ ap (λ ns. ns ++ map (node_of (made_of c.args.points.now c.args.lengths.now c.args.leaf)) (cells_below (made_of c.args.points.now c.args.lengths.now c.args.leaf) (cell_over c.args.cube c.args.members.now))) c.in_ok-push.ensures.items

size_is : (t : ℕ) (c : goal.grow-After-len t) → c.len.result - c.len-at.result ≡ length (cells_under (made_of c.args.points.now c.args.lengths.now c.args.leaf) (cell_over c.args.cube c.args.members.now))
size_is t c =
    let e : length c.grow_octants.new.nodes.items ≡ length c.args.nodes.now.items + length (cells_under (made_of c.args.points.now c.args.lengths.now c.args.leaf) (cell_over c.args.cube c.args.members.now)) =
    grown_length (made_of c.args.points.now c.args.lengths.now c.args.leaf) (cell_over c.args.cube c.args.members.now) (is_split t c) c.args.nodes.now.items c.grow_octants.new.nodes.items
    (record { cube = c.args.cube; count = length c.args.members.now; reach = c.reach.result; size = 1 }) (grown t c) in
    let l : c.len.result ≡ length c.grow_octants.new.nodes.items = c.len.ensures ∙ c.grow_octants.new.nodes.ok.0 in
    let m : c.len-at.result ≡ length c.args.nodes.now.items = c.len-at.ensures ∙ c.args.nodes.now.ok.0 in
    omega arith

pub grow-overflow_cast-len : goal.grow-overflow_cast-len
grow-overflow_cast-len t c =
    let made = made_of c.args.points.now c.args.lengths.now c.args.leaf in
    let cell = cell_over c.args.cube c.args.members.now in
    let b = size_fits made cell c.requires.sound c.requires.short in
    let e = size_is t c in
    omega arith

pub grow-returns-in_ok-grow_octants-clause-members : goal.grow-returns-in_ok-grow_octants-clause-members
grow-returns-in_ok-grow_octants-clause-members t c =
    let made = made_of c.args.points.now c.args.lengths.now c.args.leaf in
    let cell = cell_over c.args.cube c.args.members.now in
    split_members_all made cell c.grow_octants.new.members (sym c.is_leaf.ensures ∙ c.if-not-is_leaf.true) c.in_ok-grow_octants.ensures.members

pub grow-returns-in_ok-grow_octants-clause-nodes : goal.grow-returns-in_ok-grow_octants-clause-nodes
grow-returns-in_ok-grow_octants-clause-nodes t c =
    let made = made_of c.args.points.now c.args.lengths.now c.args.leaf in
    let cell = cell_over c.args.cube c.args.members.now in
    let d : grow-After-len t = (goal.at.grow-returns-in_ok-grow_octants-clause-nodes t c).After-len in
    let x : Node = record { cube = c.args.cube; count = length c.args.members.now; reach = c.reach.result; size = 1 } in
    let at : c.len-at.result ≡ length c.args.nodes.now.items = c.len-at.ensures ∙ c.args.nodes.now.ok.0 in
    let here : c.index_mut.result.now ≡ x =
    c.index_mut.ensures.value ∙ grown_at made cell (is_split t d) c.args.nodes.now.items c.grow_octants.new.nodes.items x (grown t d) c.len-at.result c.index_mut.result.now at in
    grown_set made cell (is_split t d) c.args.nodes.now.items c.grow_octants.new.nodes.items x (grown t d) c.len-at.result _ at
    (ap (λ (n : Node). record { cube = n.cube; count = n.count; reach = n.reach; size = c.len.result - c.len-at.result }) here
    ∙ ap (λ (r : ℕ). record { cube = c.args.cube; count = length c.args.members.now; reach = r; size = c.len.result - c.len-at.result }) c.reach.ensures
    ∙ ap (λ (n : ℕ). record { cube = c.args.cube; count = length c.args.members.now; reach = reach_of made cell; size = n }) (size_is t d))

pub grow-returns-else-not-is_leaf-clause-members : goal.grow-returns-else-not-is_leaf-clause-members
grow-returns-else-not-is_leaf-clause-members t c =
    leaf_members_all (made_of c.args.points.now c.args.lengths.now c.args.leaf) (cell_over c.args.cube c.args.members.now) (sym c.is_leaf.ensures ∙ c.if-not-is_leaf.false)

pub grow-returns-else-not-is_leaf-clause-nodes : goal.grow-returns-else-not-is_leaf-clause-nodes
grow-returns-else-not-is_leaf-clause-nodes t c =
    leaf_nodes_all (made_of c.args.points.now c.args.lengths.now c.args.leaf) (cell_over c.args.cube c.args.members.now) c.args.nodes.now.items c.push.new.self.items c.reach.result
    (sym c.is_leaf.ensures ∙ c.if-not-is_leaf.false) c.reach.ensures c.in_ok-push.ensures.items

pub grow_octants-slice_bounds-part-end : goal.grow_octants-slice_bounds-part-end
grow_octants-slice_bounds-part-end t c =
    let made = made_of c.args.points.now c.args.lengths.now c.args.leaf in
    let cell = cell_over c.args.cube c.args.members.now in
    let l = end_within made cell c.args.nodes.now.items c.loop-number.number c.loop-number.members c.loop-number.start _ c.loop-number.nodes.items c.loop-number.invariant c.loop-number-test.true (c.in_ok-ends.ensures.ends c.loop-number.number c.loop-number-test.true) in
    search rules

pub grow_octants-grow-requires : goal.grow_octants-grow-requires
grow_octants-grow-requires t c =
    let made = made_of c.args.points.now c.args.lengths.now c.args.leaf in
    let cell = cell_over c.args.cube c.args.members.now in
    let end = get_or c.in_ok-ends.ends c.loop-number.number 0 in
    let ends : end ≡ length (in_octants c.args.points.now c.args.cube.level c.args.members.now 0 (c.loop-number.number + 1)) = c.in_ok-ends.ensures.ends c.loop-number.number c.loop-number-test.true in
    let long = part_long made cell c.args.nodes.now.items c.loop-number.number c.loop-number.members c.loop-number.start end c.loop-number.nodes.items c.loop-number.invariant c.loop-number-test.true ends in
    let within = end_within made cell c.args.nodes.now.items c.loop-number.number c.loop-number.members c.loop-number.start end c.loop-number.nodes.items c.loop-number.invariant c.loop-number-test.true ends in
    let deeper : c.child.result.level ≡ c.args.cube.level + 1 = ap (λ (q : Cube). q.level) c.child.ensures.value in
    let kept : length c.loop-number.members ≡ length c.args.members.now = c.loop-number.auto.members ∙ c.sort_by_octant.auto.members in (
      search rules,
      (
        c.requires.can,
        (
          child_sound made cell c.args.nodes.now.items c.loop-number.number c.loop-number.members c.loop-number.start end c.loop-number.nodes.items c.child.result c.loop-number.invariant c.loop-number-test.true ends c.if-start-end.true
              c.requires.sound (record { many = c.requires.many; level = c.requires.splits }) c.child.ensures.value,
          (let l : length (take (end - c.loop-number.start) (drop c.loop-number.start c.loop-number.members)) ≤ most_particles = omega (arith, c.requires.short) in l),
        ),
      ),
    )

pub grow_octants-loop-number-preserved : goal.grow_octants-loop-number-preserved
grow_octants-loop-number-preserved t c =
    let made = made_of c.args.points.now c.args.lengths.now c.args.leaf in
    let cell = cell_over c.args.cube c.args.members.now in
    let end = get_or c.in_ok-ends.ends c.loop-number.number 0 in
    let start = c.loop-number.start in
    let ends : end ≡ length (in_octants c.args.points.now c.args.cube.level c.args.members.now 0 (c.loop-number.number + 1)) = c.in_ok-ends.ensures.ends c.loop-number.number c.loop-number-test.true in
    let stands = part_stands made cell c.args.nodes.now.items c.loop-number.number c.loop-number.members start end c.loop-number.nodes.items c.loop-number.invariant c.loop-number-test.true ends in
    let long = part_long made cell c.args.nodes.now.items c.loop-number.number c.loop-number.members start end c.loop-number.nodes.items c.loop-number.invariant c.loop-number-test.true ends in
    elim c.if-start-end.branch [
      | grow_octants-then-start-end+in_ok-grow w ↦
          let same = child_is made cell c.loop-number.number w.child.result (take (end - start) (drop start c.loop-number.members)) w.child.ensures.value stands in
          let put : c.if-start-end.members ≡ put_mid start (end - start) c.loop-number.members w.grow.new.members = w.members-is in
          let nodes : c.if-start-end.nodes ≡ w.grow.new.nodes = w.nodes-is in
          IsGrownTo-take made cell c.args.nodes.now.items c.loop-number.number c.loop-number.members c.if-start-end.members start end c.loop-number.nodes.items c.if-start-end.nodes.items w.grow.new.members
          c.loop-number.invariant c.loop-number-test.true ends w.if-start-end.true
          (w.in_ok-grow.ensures.members ∙ ap (λ q. members_in made (cells_under made q)) same)
          (let e : length w.grow.new.members ≡ length (take (end - start) (drop start c.loop-number.members)) = w.grow.auto.members in e ∙ long)
          (ap (λ v. v.items) nodes ∙ w.in_ok-grow.ensures.nodes ∙ ap (λ q. c.loop-number.nodes.items ++ map (node_of made) (cells_under made q)) same) put
      | grow_octants-else-start-end w ↦
          IsGrownTo-skip made cell c.args.nodes.now.items c.loop-number.number c.loop-number.members c.if-start-end.members start end c.loop-number.nodes.items c.if-start-end.nodes.items
          c.loop-number.invariant c.loop-number-test.true ends w.if-start-end.false w.members-is (ap (λ v. v.items) w.nodes-is)
    ]
