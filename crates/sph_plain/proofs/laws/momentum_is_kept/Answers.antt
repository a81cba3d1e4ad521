use Rattle.sph_plain.proofs.Balance.{momentum_is_kept}
use Rattle.sph_plain.proofs.laws.momentum_is_kept.Goals as goal

pub returns : goal.returns
returns c = momentum_is_kept
