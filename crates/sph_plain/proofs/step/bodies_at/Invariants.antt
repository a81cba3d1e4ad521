use Rattle.std.proofs.Common.{◌≡◌, map, take}
use Rattle.sph_plain.specs.inner.Bodies.{body_at}
use Rattle.sph_plain.proofs.step.bodies_at.Given as goal

abbrev pub invariant-loop-particle : goal.invariant-loop-particle
invariant-loop-particle l = l.bodies.items ≡ map (body_at l.deck.params l.t) (take l.particle-index l.particles)
