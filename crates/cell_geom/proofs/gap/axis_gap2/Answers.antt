use Rattle.std.proofs.Common.{◌^◌, arith}
use Rattle.std.proofs.lemmas.Nat.{mul-le}
use Rattle.cell_geom.proofs.gap.axis_gap2.Goals as goal

pub returns-clause-small : goal.returns-clause-small
returns-clause-small c =
    omega (arith, mul-le c.from-gap.result c.from-gap.result (2 ^ 19) (2 ^ 19) (omega arith) (omega arith))
