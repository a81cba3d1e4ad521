use Rattle.std.proofs.Common.{◌++◌, sym, ap, ◌∙◌}
use Rattle.std.proofs.lemmas.List.Elements.{Contains-get_or}
use Rattle.std.proofs.lemmas.Slice.{pushed}
use Rattle.cell_tree.proofs.OctantLists.{append_octant_yes, in_octant_more_no}
use Rattle.cell_tree.proofs.octants.append_octant.Goals as goal
use Rattle.cell_tree.proofs.octants.append_octant.Goals.{then-octant-number+in_ok-push, else-octant-number}

pub bounds-points-i : goal.bounds-points-i
bounds-points-i c = (c.requires.held.each _ (Contains-get_or c.args.members.now c.loop-i.i-index 0 c.loop-i-test.true)).0

pub octant-requires-clause-held : goal.octant-requires-clause-held
octant-requires-clause-held c = (c.requires.held.each _ (Contains-get_or c.args.members.now c.loop-i.i-index 0 c.loop-i-test.true)).1

pub loop-i-preserved : goal.loop-i-preserved
loop-i-preserved c =
    elim c.if-octant-number.branch [
      | then-octant-number+in_ok-push w ↦
          ap (λ v. v.items) w.sorted-is ∙ pushed _ c.loop-i.invariant w.in_ok-push.was w.push.ensures.items
          ∙ append_octant_yes c.args.sorted.now.items c.args.points.now c.args.cube.level c.args.members.now c.args.number c.loop-i.i-index c.loop-i-test.true (sym c.octant.ensures.value ∙ w.if-octant-number.true)
      | else-octant-number w ↦
          ap (λ v. v.items) w.sorted-is ∙ c.loop-i.invariant
          ∙ ap (λ ks. c.args.sorted.now.items ++ ks) (sym (in_octant_more_no c.args.points.now c.args.cube.level c.args.members.now c.args.number c.loop-i.i-index c.loop-i-test.true (λ e. w.if-octant-number.false (c.octant.ensures.value ∙ e))))
    ]
