-- So many particles were drawn, with seven draws each.
use Rattle.std.proofs.Common.{◌≡◌, ◌*◌, map}
use Rattle.std.specs.List.{range_with_len}
use Rattle.sph_lattice.specs.Lattice.{sequence}
use Rattle.sph_lattice.specs.inner.Sites.{particle_numbered}
use Rattle.sph_lattice.proofs.sites.lattice_particles.Given as goal

abbrev pub invariant-loop-number : goal.invariant-loop-number
invariant-loop-number l = record {
  particles : l.particles.items ≡ map (particle_numbered l.side l.seed) (range_with_len 0 l.number);
  drawn : l.draws.number ≡ sequence l.seed (7 * l.number);
}
