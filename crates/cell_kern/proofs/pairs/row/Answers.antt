use Rattle.std.proofs.Common.{◌≡◌, ◌<◌, true, false, length, get_or, sym, ap, ◌∙◌, arith}
use Rattle.cell_kern.specs.declared.members.Member.{Member}
use Rattle.cell_kern.specs.inner.Gathered.{list_of, no_member}
use Rattle.cell_kern.proofs.Lists.{length-list_of, member_at, sound_at}
use Rattle.cell_kern.proofs.Passed.{given_more, passed_kept, passed_more}
use Rattle.cell_kern.proofs.Reach.{far, near}
use Rattle.cell_kern.proofs.Rooms.{room_row}
use Rattle.cell_kern.proofs.pairs.row.Goals as goal
use Rattle.cell_kern.proofs.pairs.row.Goals.{then-r2-reach, else-r2-reach}

pub dist2-r2-requires-clause-b_in_box : goal.dist2-r2-requires-clause-b_in_box
dist2-r2-requires-clause-b_in_box g c =
    let others = c.args.others.now in
    let k = c.loop-j.j in
    rw (member_at others k no_member.spot no_member.pull false c.requires.others c.loop-j-test.true) at (sound_at others k c.requires.others c.loop-j-test.true).place

pub add_pair-requires-clause-other : goal.add_pair-requires-clause-other
add_pair-requires-clause-other g c =
    let others = c.args.others.now in
    let k = c.loop-j.j in
    rw (member_at others k no_member.spot c.index-others-j.result false c.requires.others c.loop-j-test.true) at (sound_at others k c.requires.others c.loop-j-test.true)

pub add_pair-requires-clause-near : goal.add_pair-requires-clause-near
add_pair-requires-clause-near g c =
    let others = c.args.others.now in
    let k = c.loop-j.j in
    let sound = rw (member_at others k no_member.spot c.index-others-j.result false c.requires.others c.loop-j-test.true) at (sound_at others k c.requires.others c.loop-j-test.true) in
    near c.args.one.now _ _ _ c.from-reach.result c.dist2-r2.result c.requires.one sound (c.from-reach.ensures ∙ c.max.ensures) c.if-r2-reach.true

pub add_pair-requires-clause-room : goal.add_pair-requires-clause-room
add_pair-requires-clause-room g c =
    let others = c.args.others.now in
    let list = list_of others in
    let long = length-list_of others c.requires.others in
    λ due. room_row g.P.Pairing.given g.P.Pairing.has_room c.requires.laws c.args.one.now list c.args.from c.loop-j.j c.args.sum.now c.loop-j.sum c.requires.one c.requires.others.sound (omega (arith, c.requires.others.few)) c.loop-j.auto.j (omega arith)
    (c.requires.room due) c.loop-j.invariant.own

pub add_pair-requires-clause-other_room : goal.add_pair-requires-clause-other_room
add_pair-requires-clause-other_room g c =
    let others = c.args.others.now in
    let k = c.loop-j.j in
    let d = c.index-sums-j.result in
    let is = member_at others k no_member.spot no_member.pull false c.requires.others c.loop-j-test.true in
    λ due. rw (c.loop-j.invariant.others.last k d (omega arith)) (c.requires.rooms k d (omega (arith, length-list_of others c.requires.others)) (ap (λ (m : Member). m.due) is ∙ due))

pub loop-j-preserved : goal.loop-j-preserved
loop-j-preserved g c =
    let given = g.P.Pairing.given in
    let laws = c.requires.laws in
    let one = c.args.one.now in
    let others = c.args.others.now in
    let list = list_of others in
    let k = c.loop-j.j in
    let sum = c.loop-j.sum in
    let low : k < length others.spots.now = c.loop-j-test.true in
    let long = length-list_of others c.requires.others in
    let inside : k < length list = omega arith in
    let within : k < length c.args.sums.now = omega (arith, c.requires.count) in
    let other = get_or list k no_member in
    let sound = sound_at others k c.requires.others low in
    let so_far = c.loop-j.invariant.others in
    elim c.if-r2-reach.branch [
      | then-r2-reach w ↦
          let d = w.index-sums-j.result in
          let is = member_at others k no_member.spot w.index-others-j.result false c.requires.others low in
          record {
            own = w.sum-is ∙ given_more (given one) c.args.sum.now list c.args.from k sum w.add_pair.new.sum c.loop-j.auto.j inside c.loop-j.invariant.own
                (w.add_pair.ensures.one ∙ ap (given one sum) (sym is));
            others = passed_more given one list c.args.from k c.args.sums.now c.loop-j.sums _ d w.add_pair.new.other_sum c.loop-j.auto.j within so_far
                (w.add_pair.ensures.other ∙ ap (λ (m : Member). given m (get_or c.loop-j.sums k d) one) (sym is) ∙ ap (λ x. given other x one) (so_far.last k d (omega arith)))
                w.sums-is;
          }
      | else-r2-reach w ↦
          let is = member_at others k no_member.spot no_member.pull false c.requires.others low in
          let apart = far one other _ _ _ c.from-reach.result c.dist2-r2.result is c.requires.one sound (c.from-reach.ensures ∙ c.max.ensures) c.dist2-r2.ensures.value w.if-r2-reach.false in
          let room = λ (due : one.due ≡ true). laws.fewer 0 1 sum (omega arith)
          (room_row given g.P.Pairing.has_room laws one list c.args.from k c.args.sum.now sum c.requires.one c.requires.others.sound (omega (arith, c.requires.others.few)) c.loop-j.auto.j inside (c.requires.room due) c.loop-j.invariant.own) in
          record {
            own = w.sum-is ∙ given_more (given one) c.args.sum.now list c.args.from k sum sum c.loop-j.auto.j inside c.loop-j.invariant.own (sym (laws.kept one other sum apart.own room));
            others = rw w.sums-is (passed_kept given one list c.args.from k c.args.sums.now c.loop-j.sums sum c.loop-j.auto.j within so_far
                (laws.kept other one (get_or c.args.sums.now k sum) apart.others (λ due. laws.fewer 0 1 (get_or c.args.sums.now k sum) (omega arith) (c.requires.rooms k sum inside due))));
          }
    ]
