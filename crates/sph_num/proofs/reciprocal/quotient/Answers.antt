use Rattle.std.proofs.Common.{◌^◌}
use Rattle.std.proofs.lemmas.Nat.{pow_pos}
use Rattle.sph_num.proofs.Reciprocals.{quotient_between}
use Rattle.sph_num.proofs.reciprocal.quotient.Goals as goal

pub returns-then-least-greatest : goal.returns-then-least-greatest
returns-then-least-greatest c = λ scale divisor some is.
    let same = rw (c.from.ensures, c.from-2.ensures, c.from-3.ensures) at c.if-least-greatest.true in
    rw (c.from.ensures, c.from-2.ensures) (quotient_between c.args.n scale divisor (2 ^ c.args.shift) c.args.reciprocal some (pow_pos c.args.shift) is same)
