use Rattle.std.proofs.Common.{◌≡◌}
use Rattle.sph_plain.specs.Run.{before}
use Rattle.sph_plain.proofs.Passes.{bodies_with_ghosts}
use Rattle.sph_plain.proofs.step.find_ghosts.Given as goal

abbrev pub invariant-loop-i : goal.invariant-loop-i
invariant-loop-i l = l.bodies ≡ bodies_with_ghosts l.deck.params l.t (before l.deck l.t) l.i
