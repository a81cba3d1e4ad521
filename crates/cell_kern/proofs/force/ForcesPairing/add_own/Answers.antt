use Rattle.std.proofs.Common.{sym}
use Rattle.cell_kern.proofs.Forces.{force_of_itself}
use Rattle.cell_kern.proofs.force.ForcesPairing.add_own.Goals as goal

pub returns : goal.returns
returns c = sym (force_of_itself c.args._one.now c.args._force.now (λ due. (c.requires.room due).three))
