use Rattle.std.proofs.Common.{◌≡◌, min, max, map, take}
use Rattle.std.specs.Prelude.{fold}
use Rattle.sph_num.specs.declared.particle.Particle.{Particle}
use Rattle.sph_deck.proofs.bound.bounds_of.Given as goal

abbrev pub invariant-loop-particle : goal.invariant-loop-particle
invariant-loop-particle l = record {
  least_mass : l.mass.0 ≡ fold min l.initial.mass.0 (map (λ (p : Particle). p.mass) (take l.particle-index l.particles));
  greatest_mass : l.mass.1 ≡ fold max 0 (map (λ (p : Particle). p.mass) (take l.particle-index l.particles));
  least_h : l.h.0 ≡ fold min l.initial.h.0 (map (λ (p : Particle). p.h) (take l.particle-index l.particles));
  greatest_h : l.h.1 ≡ fold max 0 (map (λ (p : Particle). p.h) (take l.particle-index l.particles));
}
