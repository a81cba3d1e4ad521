use Rattle.std.proofs.Common.{◌≡◌, ◌<◌, ◌*◌, ◌%◌, ◌^◌, arith}
use Rattle.std.proofs.lemmas.Nat.{mul-le}
use Rattle.sph_num.specs.Bound.{greatest_ghost}
use Rattle.sph_num.proofs.Sums.{greatest_factor_numerator-lt}
use Rattle.sph_deck.proofs.bound.greatest_factor.Goals as goal

pub overflow_mul-result-8 : goal.overflow_mul-result-8
overflow_mul-result-8 c =
    let h = c.from-h.result in
    let square = mul-le h h (2 ^ 17) (2 ^ 17) (omega arith) (omega arith) in
    let cube = mul-le (h * h) h (2 ^ 34) (2 ^ 17) square (omega arith) in
    let fourth = mul-le (h * h * h) h (2 ^ 51) (2 ^ 17) cube (omega arith) in
    omega (arith, mul-le (h * h * h * h) h (2 ^ 68) (2 ^ 17) fourth (omega arith))

pub returns : goal.returns
returns c =
    let numerator = c.from-mass.result * c.from-mass.result * c.greatest_ghost-ghost_term.result * 166886 * 12288 * 1048576 in
    let same : numerator ≡ c.args.bounds.mass.1 * c.args.bounds.mass.1 * greatest_ghost c.args.sound c.args.bounds * 166886 * 12288 * 1048576 = cc in
    let fits : numerator < 2 ^ 128 = omega (arith, greatest_factor_numerator-lt c.args.sound c.args.bounds c.requires.sound c.requires.bounds) in
    let whole : numerator % 2 ^ 128 ≡ numerator = omega arith in
    cc
