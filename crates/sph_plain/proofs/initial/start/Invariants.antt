use Rattle.std.proofs.Common.{◌≡◌, map, take}
use Rattle.sph_plain.specs.Run.{started}
use Rattle.sph_plain.proofs.initial.start.Given as goal

abbrev pub invariant-loop-particle : goal.invariant-loop-particle
invariant-loop-particle l = l.list.items ≡ map started (take l.particle-index l.particle-items)
