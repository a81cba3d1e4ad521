use Rattle.std.proofs.Common.{◌*◌, ◌^◌, arith}
use Rattle.sph_num.proofs.Divisions.{div-lt}
use Rattle.sph_num.proofs.Parts.{volume_low}
use Rattle.sph_num.proofs.length.Length.new.Goals as goal

pub overflow_cast-result-2 : goal.overflow_cast-result-2
overflow_cast-result-2 c =
    rw c.from-length.ensures
    (omega (arith, div-lt (2 ^ 93) (c.args.h * c.args.h * c.args.h) (2 ^ 30) (2 ^ 64) (omega arith) (volume_low c.args.h c.requires) (omega arith)))
