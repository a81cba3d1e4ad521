use Rattle.sph_run.proofs.Momentum.{snapshots_keep_momentum}
use Rattle.sph_run.proofs.laws.snapshots_keep_momentum.Goals as goal

pub returns : goal.returns
returns c = snapshots_keep_momentum
