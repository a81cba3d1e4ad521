use Rattle.std.proofs.Common.{◌≡◌}
use Rattle.sph_plain.specs.Run.{before}
use Rattle.sph_plain.proofs.Passes.{particles_with_densities}
use Rattle.sph_plain.proofs.step.find_densities.Given as goal

abbrev pub invariant-loop-i : goal.invariant-loop-i
invariant-loop-i l = l.particles ≡ particles_with_densities l.deck.params l.t (before l.deck l.t) l.i
