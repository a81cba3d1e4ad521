use Rattle.std.proofs.Common.{◌≡◌, map, None, take}
use Rattle.toml.specs.View.{view}
use Rattle.sph_deck.specs.inner.Meets.{Meets}
use Rattle.sph_deck.specs.inner.Rows.{AreElementsRead, HasElementFault}
use Rattle.sph_deck.proofs.particle.read_particles.Given as goal

abbrev pub invariant-loop-i : goal.invariant-loop-i
invariant-loop-i l = record {
  met : Meets (HasElementFault (map view (take l.i l.array))) l.fn.faults.first l.faults.first;
  read : l.faults.first ≡ None → AreElementsRead (take l.i l.array) l.particles.items;
}
