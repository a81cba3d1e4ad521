use Rattle.std.proofs.Common.{refl, sym, ap, subst, ◌∙◌, arith, length, sum_by}
use Rattle.std.proofs.lemmas.List.{length-map, get_or_read}
use Rattle.sph_num.proofs.PastEnd.{no_particle}
use Rattle.sph_plain.specs.inner.Bodies.{IsInRange, body_at, density_from, with_density}
use Rattle.sph_plain.specs.Run.{before}
use Rattle.sph_plain.proofs.Mapped.{read_next}
use Rattle.sph_plain.proofs.Passes.{no_body, inside_map, density_given, density_left}
use Rattle.sph_plain.proofs.Spots.{spots_of_kept}
use Rattle.sph_plain.proofs.Soundness.{sound, count-le, All-body_at}
use Rattle.sph_plain.proofs.step.find_densities.Goals as goal
use Rattle.sph_plain.proofs.step.find_densities.Goals.{then-due, else-due}

pub due-requires : goal.due-requires
due-requires c =
    let deck = c.args.deck.now in
    let list = before deck c.args.t in
    let inside = inside_map (body_at deck.params c.args.t) list c.args.bodies.now c.loop-i.i c.requires.bodies (omega arith) in
    let read = read_next (with_density deck.params c.args.t list) list list c.loop-i.particles c.loop-i.i no_particle refl inside c.loop-i.invariant in
    rw read (sound deck c.args.t deck.accepted c.requires.tick c.loop-i.i no_particle inside).bin

pub density-requires-clause-bodies : goal.density-requires-clause-bodies
density-requires-clause-bodies c = rw c.requires.bodies (All-body_at c.args.deck.now c.args.t c.args.deck.now.accepted c.requires.tick)

pub density-requires-clause-spots : goal.density-requires-clause-spots
density-requires-clause-spots c =
    spots_of_kept c.args.deck.now.params c.args.t (before c.args.deck.now c.args.t) c.args.bodies.now c.args.spots.now c.requires.bodies c.requires.spots

pub density-requires-clause-body : goal.density-requires-clause-body
density-requires-clause-body c =
    subst IsInRange (sym c.index-bodies-i.is) (density-requires-clause-bodies c c.loop-i.i c.index-bodies-i.result (omega arith))

pub density-requires-clause-count : goal.density-requires-clause-count
density-requires-clause-count c =
    let list = before c.args.deck.now c.args.t in
    omega (arith, ap length c.requires.bodies, length-map list (body_at c.args.deck.now.params c.args.t), count-le c.args.deck.now c.args.t c.args.deck.now.accepted c.requires.tick)

pub loop-i-preserved : goal.loop-i-preserved
loop-i-preserved c =
    let deck = c.args.deck.now in
    let list = before deck c.args.t in
    let inside = inside_map (body_at deck.params c.args.t) list c.args.bodies.now c.loop-i.i c.requires.bodies (omega arith) in
    let body = get_or_read c.args.bodies.now c.loop-i.i c.index-bodies-i.result (omega arith) c.index-bodies-i.is no_body in
    elim c.if-due.branch [
      | then-due w ↦ w.particles-is ∙ density_given deck.params c.args.t list c.loop-i.particles c.args.bodies.now c.loop-i.i w.density.result c.due.result inside c.loop-i.invariant c.requires.bodies c.due.ensures w.if-due.true (w.density.ensures.value ∙ ap (λ b. sum_by (density_from b) c.args.bodies.now) body)
      | else-due w ↦ w.particles-is ∙ density_left deck.params c.args.t list c.loop-i.particles c.loop-i.i c.due.result inside c.loop-i.invariant c.due.ensures w.if-due.false
    ]
