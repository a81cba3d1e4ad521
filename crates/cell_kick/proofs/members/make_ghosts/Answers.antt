use Rattle.std.proofs.Common.{◌<◌, length, get_or, ap, ◌∙◌, sym, arith}
use Rattle.std.proofs.lemmas.List.{get_or_default}
use Rattle.sph_num.specs.Force.{ghost_value}
use Rattle.sph_num.specs.Pull.{Puller, puller}
use Rattle.cell_kick.specs.inner.Written.{ghosted, ghosts_at}
use Rattle.cell_kick.proofs.Loops.{all_each, next_each, next_same, none_each}
use Rattle.cell_kick.proofs.members.make_ghosts.Goals as goal
use Rattle.cell_kick.proofs.members.make_ghosts.Goals.{then-is_due, else-is_due}

pub loop-k-init : goal.loop-k-init
loop-k-init c = none_each (ghosts_at c.args.sound c.args.due.now c.args.rhos.now) c.args.pulls.now

pub loop-k-preserved : goal.loop-k-preserved
loop-k-preserved c =
    let sound = c.args.sound in
    let rho = get_or c.args.rhos.now c.loop-k.k 0 in
    let made = ghosts_at sound c.args.due.now c.args.rhos.now in
    let k = c.loop-k.k in
    let pulls = c.loop-k.pulls in
    let inside : k < length pulls = omega (arith, c.loop-k.invariant.same_length, c.loop-k-test.true) in
    let pull = get_or pulls k (puller 0 0 0) in
    elim c.if-is_due.branch [
      | then-is_due w ↦
          rw w.pulls-is
          (next_each made k c.args.pulls.now pulls w.with_ghost.result (puller 0 0 0) c.loop-k-test.true c.loop-k.invariant
          (w.with_ghost.ensures ∙ ap (λ (p : Puller). puller p.h p.mass (ghost_value sound rho)) (get_or_default pulls k w.index-pulls-k.result (puller 0 0 0) inside) ∙ sym (ap (λ b. ghosted sound b rho pull) w.if-is_due.true)))
      | else-is_due w ↦
          rw w.pulls-is
          (next_same made k c.args.pulls.now pulls (puller 0 0 0) c.loop-k-test.true c.loop-k.invariant (ap (λ b. ghosted sound b rho pull) w.if-is_due.false))
    ]

pub returns : goal.returns
returns c = all_each (ghosts_at c.args.sound c.args.due.now c.args.rhos.now) c.loop-k.k c.args.pulls.now c.loop-k.pulls c.loop-k-test.false c.loop-k.invariant
