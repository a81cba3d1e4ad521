use Rattle.cell_block.proofs.WholeSums.{densities_are_whole, forces_are_whole}
use Rattle.cell_block.proofs.laws.sums_are_whole.Goals as goal

pub returns : goal.returns
returns c = record { densities = densities_are_whole; forces = forces_are_whole }
