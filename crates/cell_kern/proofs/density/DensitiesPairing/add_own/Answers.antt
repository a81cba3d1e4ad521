use Rattle.std.proofs.Common.{arith}
use Rattle.cell_kern.proofs.Densities.{rho_of_itself}
use Rattle.cell_kern.proofs.density.DensitiesPairing.add_own.Goals as goal

pub given-requires : goal.given-requires
given-requires c = record { room = λ due. omega (arith, c.requires.room due) }

pub returns : goal.returns
returns c = rho_of_itself c.args.one.now c.args.rho.now c.given.result c.given.ensures
