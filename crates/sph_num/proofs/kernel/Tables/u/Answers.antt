use Rattle.std.proofs.Common.{arith}
use Rattle.std.proofs.lemmas.List.{get_or_read}
use Rattle.sph_num.proofs.Slopes.{kernel_u-le}
use Rattle.sph_num.proofs.kernel.Tables.u.Goals as goal

pub returns-clause-below : goal.returns-clause-below
returns-clause-below c =
    let table = c.args.self.now.u_is_slope in
    let read = get_or_read c.args.self.now.u.items c.args.s _ (omega (arith, table.length, c.requires)) c.index.ensures 0 in
    omega (arith, kernel_u-le c.args.s, table.at c.args.s (omega arith), read)
