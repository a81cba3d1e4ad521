use Rattle.sph_lattice.proofs.Sparse.{AreAccepted-lattice}
use Rattle.sph_lattice.proofs.generated.lattice_deck.Goals as goal

pub invariant_of-result : goal.invariant_of-result
invariant_of-result c = record {
  accepted = rw (c.lattice_params.ensures, c.from_vec.ensures, c.in_ok-particles.ensures) (AreAccepted-lattice c.args.side c.args.seed c.requires);
}
