use Rattle.std.proofs.Common.{◌≤◌, ap, length, map, get_or, ◌∙◌, sym, subst, arith}
use Rattle.std.proofs.lemmas.List.{length-map, get_or_read}
use Rattle.sph_num.specs.declared.particle.Particle.{Particle}
use Rattle.sph_num.specs.Motion.{IsMomentum}
use Rattle.sph_num.proofs.PastEnd.{no_particle}
use Rattle.sph_bins.specs.Kick.{density_at, kicked_with, place_at}
use Rattle.sph_plain.specs.declared.body.Body.{Body}
use Rattle.sph_plain.specs.inner.Bodies.{IsInRange, force_on, ghost_body, next_particle, with_density}
use Rattle.sph_plain.specs.Run.{before, after}
use Rattle.sph_plain.proofs.Mapped.{written_all}
use Rattle.sph_plain.proofs.Passes.{no_body, inside_map, read_dense, dense_due, with_density_bin, body_with_ghost, force_is, place_with_rho, kick_given, kick_left, all_kicked}
use Rattle.sph_plain.proofs.Spots.{spots_of_given}
use Rattle.sph_plain.proofs.Soundness.{sound, count-le, All-ghost_body}
use Rattle.sph_plain.proofs.step.kick_due.Goals as goal
use Rattle.sph_plain.proofs.step.kick_due.Goals.{then-due, else-due}

pub due-requires : goal.due-requires
due-requires c =
    let deck = c.args.deck.now in
    let list = before deck c.args.t in
    let inside = inside_map (ghost_body deck.params c.args.t list) list c.args.bodies.now c.loop-i.i c.requires.bodies (omega arith) in
    let read = read_dense deck.params c.args.t list c.loop-i.particles c.loop-i.i inside c.loop-i.invariant in
    rw (read, with_density_bin) (sound deck c.args.t deck.accepted c.requires.tick c.loop-i.i no_particle inside).bin

pub force-f-requires-clause-bodies : goal.force-f-requires-clause-bodies
force-f-requires-clause-bodies c = rw c.requires.bodies (All-ghost_body c.args.deck.now c.args.t c.args.deck.now.accepted c.requires.tick)

pub force-f-requires-clause-spots : goal.force-f-requires-clause-spots
force-f-requires-clause-spots c =
    spots_of_given c.args.deck.now.params c.args.t (before c.args.deck.now c.args.t) c.args.bodies.now c.args.spots.now c.requires.bodies c.requires.spots

pub force-f-requires-clause-body : goal.force-f-requires-clause-body
force-f-requires-clause-body c =
    subst IsInRange (sym c.index-bodies-i.is) (force-f-requires-clause-bodies c c.loop-i.i c.index-bodies-i.result (omega arith))

pub force-f-requires-clause-count : goal.force-f-requires-clause-count
force-f-requires-clause-count c =
    let list = before c.args.deck.now c.args.t in
    omega (arith, ap length c.requires.bodies, length-map list (ghost_body c.args.deck.now.params c.args.t list), count-le c.args.deck.now c.args.t c.args.deck.now.accepted c.requires.tick)

pub kick-requires : goal.kick-requires
kick-requires c =
    let deck = c.args.deck.now in
    let list = before deck c.args.t in
    let i = c.loop-i.i in
    let inside = inside_map (ghost_body deck.params c.args.t list) list c.args.bodies.now i c.requires.bodies (omega arith) in
    let p = get_or list i no_particle in
    let is = sound deck c.args.t deck.accepted c.requires.tick i no_particle inside in
    let here = dense_due deck.params c.args.t list c.loop-i.particles i c.due.result inside c.loop-i.invariant c.due.ensures c.if-due.true in
    let body = get_or_read c.args.bodies.now i c.index-bodies-i.result (omega arith) c.index-bodies-i.is no_body in
    let place = ap (λ (b : Body). b.place) (body ∙ body_with_ghost deck.params c.args.t list c.args.bodies.now i inside c.requires.bodies) in
    record {
      bins = deck.accepted.bins;
      bin_max = deck.accepted.in_range.params_in_range.bin_max;
      tick = c.requires.tick.due;
      bin = subst (λ (q : Particle). q.bin ≤ 10) (sym here) is.bin;
      place = place ∙ sym (place_with_rho deck.params c.args.t p (density_at deck.params c.args.t list p)) ∙ ap (place_at deck.params c.args.t) (sym here);
      force = subst IsMomentum (sym (force_is deck.params c.args.t list c.args.bodies.now i c.force-f.result inside c.requires.bodies (c.force-f.ensures.value ∙ ap (λ b. force_on b c.args.bodies.now) body))) is.force;
      momentum = subst (λ (q : Particle). IsMomentum q.p) (sym here) is.near.momentum;
    }

pub loop-i-preserved : goal.loop-i-preserved
loop-i-preserved c =
    let deck = c.args.deck.now in
    let list = before deck c.args.t in
    let inside = inside_map (ghost_body deck.params c.args.t list) list c.args.bodies.now c.loop-i.i c.requires.bodies (omega arith) in
    let body = get_or_read c.args.bodies.now c.loop-i.i c.index-bodies-i.result (omega arith) c.index-bodies-i.is no_body in
    elim c.if-due.branch [
      | then-due w ↦ w.particles-is ∙ kick_given deck.params c.args.t list c.loop-i.particles c.args.bodies.now c.loop-i.i w.force-f.result w.kick.new.particle c.due.result inside c.loop-i.invariant c.requires.bodies c.due.ensures w.if-due.true (w.force-f.ensures.value ∙ ap (λ b. force_on b c.args.bodies.now) body)
          (w.kick.ensures ∙ ap (λ g. kicked_with deck.params c.args.t (get_or c.loop-i.particles c.loop-i.i no_particle) (get_or c.loop-i.particles c.loop-i.i no_particle).rho g w.force-f.result) w.g.ensures.value ∙ ap (λ (b : Body). kicked_with deck.params c.args.t (get_or c.loop-i.particles c.loop-i.i no_particle) (get_or c.loop-i.particles c.loop-i.i no_particle).rho b.pull.g w.force-f.result) body)
      | else-due w ↦ w.particles-is ∙ kick_left deck.params c.args.t list c.loop-i.particles c.loop-i.i c.due.result inside c.loop-i.invariant c.due.ensures w.if-due.false
    ]

pub returns : goal.returns
unfolding after
returns c =
    let deck = c.args.deck.now in
    let list = before deck c.args.t in
    let dense = with_density deck.params c.args.t list in
    let next = next_particle deck.params c.args.t list in
    let all : length list ≤ c.loop-i.i = omega (arith, ap length c.requires.bodies, length-map list (ghost_body deck.params c.args.t list)) in
    c.loop-i.invariant ∙ written_all next list (map dense list) c.loop-i.i (length-map list dense) all ∙ all_kicked deck.params c.args.t list
