use Rattle.std.proofs.Common.{◌≡◌, map, take}
use Rattle.sph_bins.specs.Kick.{place_at}
use Rattle.sph_step.proofs.preparing.places_of.Given as goal

abbrev pub invariant-loop-particle : goal.invariant-loop-particle
invariant-loop-particle l = l.places.items ≡ map (place_at l.deck.params l.t) (take l.particle-index l.particles)
