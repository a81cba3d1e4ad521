use Rattle.sph_bins.proofs.Vectors.{greatest_size-lt}
use Rattle.sph_bins.proofs.leapfrog.kick.Goals as goal

pub choose-bin-requires-clause-force : goal.choose-bin-requires-clause-force
choose-bin-requires-clause-force c = rw c.greatest_size.ensures (greatest_size-lt c.args.f c.requires.force)
