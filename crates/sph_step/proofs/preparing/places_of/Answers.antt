use Rattle.std.proofs.Common.{arith}
use Rattle.sph_num.proofs.PastEnd.{no_particle}
use Rattle.sph_num.specs.Bound.{bounds_of}
use Rattle.sph_bins.proofs.Sound.{sound}
use Rattle.sph_step.proofs.preparing.places_of.Goals as goal

pub position-requires-clause-since : goal.position-requires-clause-since
position-requires-clause-since c =
    let deck = c.args.deck.now in
    let is = sound deck.params (bounds_of deck.particles) c.args.t c.args.particles.now c.requires c.loop-particle.particle-index no_particle (omega arith) in
    omega (arith, is.near.since)

pub position-requires-clause-soon : goal.position-requires-clause-soon
position-requires-clause-soon c =
    let deck = c.args.deck.now in
    let is = sound deck.params (bounds_of deck.particles) c.args.t c.args.particles.now c.requires c.loop-particle.particle-index no_particle (omega arith) in
    omega (arith, is.near.soon)

pub position-requires-clause-momentum : goal.position-requires-clause-momentum
position-requires-clause-momentum c =
    let deck = c.args.deck.now in
    (sound deck.params (bounds_of deck.particles) c.args.t c.args.particles.now c.requires c.loop-particle.particle-index no_particle (omega arith)).near.momentum

pub position-requires-clause-mass : goal.position-requires-clause-mass
position-requires-clause-mass c =
    let deck = c.args.deck.now in
    (sound deck.params (bounds_of deck.particles) c.args.t c.args.particles.now c.requires c.loop-particle.particle-index no_particle (omega arith)).mass

pub position-requires-clause-place : goal.position-requires-clause-place
position-requires-clause-place c =
    let deck = c.args.deck.now in
    (sound deck.params (bounds_of deck.particles) c.args.t c.args.particles.now c.requires c.loop-particle.particle-index no_particle (omega arith)).place

pub position-requires-clause-shift : goal.position-requires-clause-shift
position-requires-clause-shift c = c.requires.params_in_range.shift
