use Rattle.std.proofs.Common.{arith}
use Rattle.sph_num.proofs.Pulls.{fifth_power-is, fifth_power_high}
use Rattle.sph_num.proofs.Slopes.{fifth_power_low}
use Rattle.sph_num.proofs.pull.fifth_power.Goals as goal

pub overflow_mul-result-2 : goal.overflow_mul-result-2
overflow_mul-result-2 c = rw (c.from-length.ensures, fifth_power-is) (omega (arith, fifth_power_high c.args.h c.requires))

pub returns-clause-low : goal.returns-clause-low
returns-clause-low c = rw (c.from-length.ensures, fifth_power-is) (fifth_power_low c.args.h c.requires)

pub returns-clause-high : goal.returns-clause-high
returns-clause-high c = rw (c.from-length.ensures, fifth_power-is) (fifth_power_high c.args.h c.requires)
