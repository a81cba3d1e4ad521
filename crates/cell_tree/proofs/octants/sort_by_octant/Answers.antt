use Rattle.std.proofs.Common.{◌≡◌, ◌+◌, ◌++◌, length, sym, ap, ◌∙◌, arith, rules}
use Rattle.cell_tree.specs.inner.Nodes.{in_octant, in_octants}
use Rattle.cell_tree.proofs.OctantLists.{in_octants_more, length-in_octants, ends_more}
use Rattle.cell_tree.proofs.octants.sort_by_octant.Goals as goal

sorted_more : (c : goal.After-len) → c.append_octant.new.sorted.items ≡ in_octants c.args.points.now c.args.cube.level c.args.members.now 0 (c.loop-number.number + 1)
sorted_more c =
    c.in_ok-append_octant.ensures ∙ ap (λ xs. xs ++ in_octant c.args.points.now c.args.cube.level c.args.members.now c.loop-number.number) c.loop-number.invariant.sorted
    ∙ sym (in_octants_more c.args.points.now c.args.cube.level c.args.members.now c.loop-number.number)

pub loop-number-preserved : goal.loop-number-preserved
loop-number-preserved c = record {
  sorted = sorted_more c;
  long = search rules;
  ends = ends_more c.args.points.now c.args.cube.level c.args.members.now c.loop-number.ends c.loop-number.number c.len.result
      (omega (arith, c.loop-number.invariant.long)) (c.len.ensures ∙ c.append_octant.new.sorted.ok.0 ∙ ap length (sorted_more c)) c.loop-number.invariant.ends;
}

pub copy_from_slice-requires : goal.copy_from_slice-requires
copy_from_slice-requires c =
    let last : c.loop-number.number ≡ 8 = omega arith in
    sym (ap length c.as_slice.ensures.value ∙ ap length c.loop-number.invariant.sorted ∙ ap (λ n. length (in_octants c.args.points.now c.args.cube.level c.args.members.now 0 n)) last ∙ length-in_octants c.args.points.now c.args.cube.level c.args.members.now)
