use Rattle.std.proofs.Common.{◌≡◌, ◌*◌, ◌^◌, arith}
use Rattle.std.proofs.lemmas.Nat.{mul-le}
use Rattle.sph_num.specs.Bound.{greatest_force}
use Rattle.sph_num.proofs.Sums.{greatest_factor-lt, greatest_force-lt}
use Rattle.sph_deck.proofs.bound.greatest_force.Goals as goal

pub overflow_mul-result-2 : goal.overflow_mul-result-2
overflow_mul-result-2 c =
    let factor = greatest_factor-lt c.args.sound c.args.bounds c.requires.sound c.requires.bounds in
    omega (arith, mul-le (2 * c.from.result) c.greatest_factor.result 65536 (2 ^ 75) (omega arith) (omega arith))

pub overflow_mul-result-3 : goal.overflow_mul-result-3
overflow_mul-result-3 c =
    let force : 2 * c.from.result * c.greatest_factor.result * c.from-2.result ≡ greatest_force c.args.sound c.args.bounds = cc in
    omega (arith, greatest_force-lt c.args.sound c.args.bounds c.requires.sound c.requires.bounds)
