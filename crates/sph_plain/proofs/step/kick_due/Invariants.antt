use Rattle.std.proofs.Common.{◌≡◌}
use Rattle.sph_plain.specs.Run.{before}
use Rattle.sph_plain.proofs.Passes.{kicked_particles}
use Rattle.sph_plain.proofs.step.kick_due.Given as goal

abbrev pub invariant-loop-i : goal.invariant-loop-i
invariant-loop-i l = l.particles ≡ kicked_particles l.deck.params l.t (before l.deck l.t) l.i
