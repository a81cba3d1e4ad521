use Rattle.std.proofs.Common.{◌<◌, if◌then◌else◌, get_or, length, ap, ◌∙◌, sym, arith}
use Rattle.std.proofs.lemmas.List.{get_or_default}
use Rattle.cell_block.specs.Reading.{no_moving}
use Rattle.cell_kick.specs.inner.Written.{force_at_index, kick_at, kicked_by}
use Rattle.cell_kick.proofs.Loops.{all_each, next_each, next_same, none_each}
use Rattle.cell_kick.proofs.members.kick_members.Goals as goal
use Rattle.cell_kick.proofs.members.kick_members.Goals.{then-is_due, else-is_due}

pub kicked-requires-clause-ready : goal.kicked-requires-clause-ready
kicked-requires-clause-ready c =
    let k = c.loop-k.k in
    let inside : k < length c.loop-k.moving = omega (arith, c.loop-k.invariant.same_length, c.loop-k-test.true) in
    rw (get_or_default c.loop-k.moving k _ no_moving inside, c.loop-k.invariant.rest k no_moving (omega arith)) (c.requires.ready k c.loop-k-test.true c.if-is_due.true)

pub loop-k-init : goal.loop-k-init
loop-k-init c = none_each (kick_at c.args.scene.now c.args.summed.now) c.args.moving.now

pub loop-k-preserved : goal.loop-k-preserved
loop-k-preserved c =
    let scene = c.args.scene.now in
    let summed = c.args.summed.now in
    let k = c.loop-k.k in
    let made = kick_at scene summed in
    let moving = c.loop-k.moving in
    let inside : k < length moving = omega (arith, c.loop-k.invariant.same_length, c.loop-k-test.true) in
    let p = get_or moving k no_moving in
    elim c.if-is_due.branch [
      | then-is_due w ↦
          rw w.moving-is
          (next_each made k c.args.moving.now moving w.kicked.result no_moving c.loop-k-test.true c.loop-k.invariant
          (w.kicked.ensures ∙ ap (kicked_by scene (force_at_index summed k)) (get_or_default moving k _ no_moving inside) ∙ sym (ap (λ b. if b then kicked_by scene (force_at_index summed k) p else p) w.if-is_due.true)))
      | else-is_due w ↦
          rw w.moving-is
          (next_same made k c.args.moving.now moving no_moving c.loop-k-test.true c.loop-k.invariant (ap (λ b. if b then kicked_by scene (force_at_index summed k) p else p) w.if-is_due.false))
    ]

pub returns : goal.returns
returns c = all_each (kick_at c.args.scene.now c.args.summed.now) c.loop-k.k c.args.moving.now c.loop-k.moving c.loop-k-test.false c.loop-k.invariant
