use Rattle.std.proofs.Common.{arith}
use Rattle.sph_num.proofs.PastEnd.{no_particle}
use Rattle.sph_plain.proofs.Soundness.{sound_of}
use Rattle.sph_plain.proofs.step.bodies_at.Goals as goal

pub position-place-requires-clause-since : goal.position-place-requires-clause-since
position-place-requires-clause-since c =
    (sound_of c.args.deck.now c.args.t c.args.particles.now c.args.deck.now.accepted c.requires.tick c.requires.particles c.loop-particle.particle-index no_particle (omega arith)).near.since

pub position-place-requires-clause-soon : goal.position-place-requires-clause-soon
position-place-requires-clause-soon c =
    (sound_of c.args.deck.now c.args.t c.args.particles.now c.args.deck.now.accepted c.requires.tick c.requires.particles c.loop-particle.particle-index no_particle (omega arith)).near.soon

pub position-place-requires-clause-momentum : goal.position-place-requires-clause-momentum
position-place-requires-clause-momentum c =
    (sound_of c.args.deck.now c.args.t c.args.particles.now c.args.deck.now.accepted c.requires.tick c.requires.particles c.loop-particle.particle-index no_particle (omega arith)).near.momentum

pub position-place-requires-clause-mass : goal.position-place-requires-clause-mass
position-place-requires-clause-mass c =
    (sound_of c.args.deck.now c.args.t c.args.particles.now c.args.deck.now.accepted c.requires.tick c.requires.particles c.loop-particle.particle-index no_particle (omega arith)).mass

pub position-place-requires-clause-place : goal.position-place-requires-clause-place
position-place-requires-clause-place c =
    (sound_of c.args.deck.now c.args.t c.args.particles.now c.args.deck.now.accepted c.requires.tick c.requires.particles c.loop-particle.particle-index no_particle (omega arith)).place

pub new-requires : goal.new-requires
new-requires c =
    (sound_of c.args.deck.now c.args.t c.args.particles.now c.args.deck.now.accepted c.requires.tick c.requires.particles c.loop-particle.particle-index no_particle (omega arith)).h

pub new-pull-requires-clause-mass : goal.new-pull-requires-clause-mass
new-pull-requires-clause-mass c =
    (sound_of c.args.deck.now c.args.t c.args.particles.now c.args.deck.now.accepted c.requires.tick c.requires.particles c.loop-particle.particle-index no_particle (omega arith)).mass

pub new-pull-requires-clause-ghost_term : goal.new-pull-requires-clause-ghost_term
new-pull-requires-clause-ghost_term c =
    (sound_of c.args.deck.now c.args.t c.args.particles.now c.args.deck.now.accepted c.requires.tick c.requires.particles c.loop-particle.particle-index no_particle (omega arith)).kept_ghost
