use Rattle.std.proofs.Common.{◌≡◌, ◌*◌, ◌^◌, ◌≤◌, take}
use Rattle.std.specs.Prelude.{sum_by}
use Rattle.sph_num.specs.declared.particle.Particle.{Particle}
use Rattle.sph_report.proofs.summary.total_density.Given as goal

abbrev pub invariant-loop-particle : goal.invariant-loop-particle
invariant-loop-particle l = (l.total ≡ sum_by (λ (p : Particle). p.rho) (take l.particle-index l.particles)) × (l.total ≤ l.particle-index * 2 ^ 64)
