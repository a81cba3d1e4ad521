use Rattle.std.proofs.Common.{◌∙◌, arith, true}
use Rattle.sph_num.proofs.PastEnd.{no_particle}
use Rattle.sph_plain.specs.inner.Bodies.{with_density}
use Rattle.sph_plain.specs.Run.{before}
use Rattle.sph_plain.proofs.Passes.{inside_map, read_map, with_density_bin, due_with_density, rho_of_due, ghost_given, ghost_left}
use Rattle.sph_plain.proofs.Soundness.{sound}
use Rattle.sph_plain.proofs.step.find_ghosts.Goals as goal
use Rattle.sph_plain.proofs.step.find_ghosts.Goals.{then-due, else-due}

pub due-requires : goal.due-requires
due-requires c =
    let deck = c.args.deck.now in
    let list = before deck c.args.t in
    let dense = with_density deck.params c.args.t list in
    let inside = inside_map dense list c.args.particles.now c.loop-i.i c.requires.particles (omega arith) in
    let read = read_map dense list c.args.particles.now c.loop-i.i no_particle no_particle c.requires.particles inside in
    rw (read, with_density_bin) (sound deck c.args.t deck.accepted c.requires.tick c.loop-i.i no_particle inside).bin

pub ghost_of-g-requires : goal.ghost_of-g-requires
ghost_of-g-requires c =
    let deck = c.args.deck.now in
    let list = before deck c.args.t in
    let dense = with_density deck.params c.args.t list in
    let inside = inside_map dense list c.args.particles.now c.loop-i.i c.requires.particles (omega arith) in
    let is = due_with_density deck.params c.args.t list c.args.particles.now c.loop-i.i c.due.result true inside c.requires.particles c.due.ensures c.if-due.true in
    rw (rho_of_due deck.params c.args.t list c.args.particles.now c.loop-i.i inside c.requires.particles is)
    (sound deck c.args.t deck.accepted c.requires.tick c.loop-i.i no_particle inside).density_low

pub loop-i-preserved : goal.loop-i-preserved
loop-i-preserved c =
    let deck = c.args.deck.now in
    let list = before deck c.args.t in
    let inside = inside_map (with_density deck.params c.args.t list) list c.args.particles.now c.loop-i.i c.requires.particles (omega arith) in
    elim c.if-due.branch [
      | then-due w ↦
          w.bodies-is ∙ ghost_given deck.params c.args.t list c.args.particles.now c.loop-i.bodies c.loop-i.i w.ghost_of-g.result w.with_ghost.result w.index-bodies-i.result c.due.result
          inside c.loop-i.invariant c.requires.particles c.due.ensures w.if-due.true w.ghost_of-g.ensures.value w.with_ghost.ensures
      | else-due w ↦ w.bodies-is ∙ ghost_left deck.params c.args.t list c.args.particles.now c.loop-i.bodies c.loop-i.i c.due.result inside c.loop-i.invariant c.requires.particles c.due.ensures w.if-due.false
    ]
