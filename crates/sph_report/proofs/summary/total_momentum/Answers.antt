use Rattle.std.proofs.Common.{[], to_z, arith}
use Rattle.std.specs.Int.{w128}
use Rattle.sph_num.specs.declared.particle.Particle.{Particle}
use Rattle.sph_report.proofs.SignedSums.{IsNextSum, next_sum}
use Rattle.sph_report.proofs.summary.total_momentum.Goals as goal

-- what stands past the end of a slice of particles
no_particle : Particle
no_particle = record { mass = 0; h = 0; x0 = []; t0 = 0; p = []; q = []; f = []; rho = 0; g = 0; bin = 0 }

pub loop-particle-preserved : goal.loop-particle-preserved
unfolding no_particle
loop-particle-preserved c =
    let next = next_sum c.args.axis c.args.particles.now c.loop-particle.particle-index no_particle (to_z w128 c.loop-particle.total-bits) (omega arith) c.requires.few c.requires.momenta
    c.loop-particle.invariant.sum c.loop-particle.invariant.narrow in
    record { sum = next.sum; narrow = next.narrow }
