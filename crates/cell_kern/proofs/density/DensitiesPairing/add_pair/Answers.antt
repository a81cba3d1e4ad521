use Rattle.std.proofs.Common.{refl, arith}
use Rattle.cell_kern.specs.inner.Gathered.{of_other}
use Rattle.cell_kern.proofs.Densities.{rho_of_one, rho_of_other}
use Rattle.cell_kern.proofs.density.DensitiesPairing.add_pair.Goals as goal

pub given-requires : goal.given-requires
given-requires c = record { room = λ due. omega (arith, c.requires.room due) }

pub given-requires-2 : goal.given-requires-2
given-requires-2 c = record { room = λ due. omega (arith, c.requires.other_room due) }

pub returns-clause-one : goal.returns-clause-one
returns-clause-one c = rho_of_one c.args.one.now (of_other c.args.other.now) _ _ _ c.args.rho.now c.args.r2 c.given.result refl c.requires.distance c.given.ensures

pub returns-clause-other : goal.returns-clause-other
returns-clause-other c =
    rho_of_other c.args.one.now (of_other c.args.other.now) _ _ _ c.args.other_rho.now c.args.r2 c.given-2.result refl c.requires.distance c.requires.one c.requires.other c.given-2.ensures
