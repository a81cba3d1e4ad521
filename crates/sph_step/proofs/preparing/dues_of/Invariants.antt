use Rattle.std.proofs.Common.{◌≡◌, take}
use Rattle.sph_step.specs.Made.{dues_at}
use Rattle.sph_step.proofs.preparing.dues_of.Given as goal

abbrev pub invariant-loop-particle : goal.invariant-loop-particle
invariant-loop-particle l = l.dues.items ≡ dues_at l.t (take l.particle-index l.particles)
