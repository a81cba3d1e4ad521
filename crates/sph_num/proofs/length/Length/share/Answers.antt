use Rattle.std.proofs.Common.{◌≡◌, ℕ, ◌*◌, ◌%◌, ◌^◌, ◌<◌, subst, arith}
use Rattle.sph_num.specs.inner.Parts.{AreReciprocals}
use Rattle.sph_num.proofs.Lengths.{share-lt}
use Rattle.sph_num.proofs.Parts.{square_low, square_high}
use Rattle.sph_num.proofs.length.Length.share.Goals as goal

pub returns-in-Some-clause-value : goal.returns-in-Some-clause-value
returns-in-Some-clause-value c =
    let h = c.args.self.now in
    let are = subst (λ (n : ℕ). AreReciprocals n c.self.inside.by_square c.self.inside.by_cube) c.self.view_is c.self.invariant in
    let some : 0 < h * h = omega (arith, square_low h are.is_length) in
    let whole : (c.args.r2 * 1048576) % 2 ^ 64 ≡ c.args.r2 * 1048576 = omega (arith, c.requires, square_high h are.is_length) in
    let once : (c.args.r2 * 1048576) * 1 ≡ c.args.r2 * 1048576 = omega arith in
    rw (whole, once) at (c.in-Some.ensures 1 (h * h) some are.square)

pub returns-in-Some-clause-below : goal.returns-in-Some-clause-below
returns-in-Some-clause-below c =
    omega (arith, returns-in-Some-clause-value c, share-lt c.args.r2 (c.args.self.now * c.args.self.now) c.requires)
