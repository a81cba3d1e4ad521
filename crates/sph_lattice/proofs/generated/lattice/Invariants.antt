-- The parameters' lines and those of so many particles are written.
use Rattle.std.proofs.Common.{◌≡◌, ◌++◌, take}
use Rattle.std.specs.Prelude.{flat_map, string_bytes}
use Rattle.sph_lattice.specs.Lattice.{lattice_params}
use Rattle.sph_lattice.specs.LatticeText.{params_lines, particle_lines}
use Rattle.sph_lattice.proofs.generated.lattice.Given as goal

abbrev pub invariant-loop-particle : goal.invariant-loop-particle
invariant-loop-particle l =
    string_bytes l.text ≡ params_lines (lattice_params l.seed) ++ flat_map particle_lines (take l.particle-index l.particle-items)
