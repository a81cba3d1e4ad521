use Rattle.std.proofs.Common.{arith}
use Rattle.sph_num.proofs.PastEnd.{no_particle}
use Rattle.sph_num.specs.Bound.{bounds_of}
use Rattle.sph_bins.proofs.Sound.{sound}
use Rattle.sph_step.proofs.preparing.dues_of.Goals as goal

pub due-requires : goal.due-requires
due-requires c =
    let deck = c.args.deck.now in
    let is = sound deck.params (bounds_of deck.particles) c.args.t c.args.particles.now c.requires c.loop-particle.particle-index no_particle (omega arith) in
    omega (arith, is.bin)
