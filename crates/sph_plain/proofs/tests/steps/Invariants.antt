use Rattle.std.proofs.Common.{◌≡◌}
use Rattle.sph_plain.specs.Run.{before}
use Rattle.sph_plain.proofs.tests.steps.Given as goal

abbrev pub invariant-loop-t : goal.invariant-loop-t
invariant-loop-t l = l.particles.items ≡ before l.deck l.t
