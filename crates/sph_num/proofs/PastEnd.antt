-- What a read past the end of a list would give.
use Rattle.std.proofs.Common.{[]}
use Rattle.sph_num.specs.declared.particle.Particle.{Particle}

abbrev pub no_particle : Particle
no_particle = record { mass = 0; h = 0; x0 = []; t0 = 0; p = []; q = []; f = []; rho = 0; g = 0; bin = 0 }
