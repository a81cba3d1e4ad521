use Rattle.std.proofs.Common.{◌≡◌, ◌*◌, ◌%◌, ◌^◌, sym, arith}
use Rattle.sph_num.proofs.Lengths.{root_of_share}
use Rattle.sph_num.proofs.Parts.{square_high}
use Rattle.sph_num.proofs.distance.root.Goals as goal

pub returns-clause-value : goal.returns-clause-value
returns-clause-value c =
    let whole : (c.args.r2 * 1048576) % 2 ^ 64 ≡ c.args.r2 * 1048576 = omega (arith, c.requires.in_reach, square_high c.args.h c.requires.h) in
    let within = rw (whole, c.from-length.ensures) at c.isqrt.ensures.square_le in
    let above = rw (whole, c.from-length.ensures) at c.isqrt.ensures.next_square_gt in
    sym (root_of_share c.args.r2 c.args.h c.isqrt.result (omega (arith, c.requires.h.low)) within above)
