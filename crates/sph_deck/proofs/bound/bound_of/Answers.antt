use Rattle.std.proofs.Common.{◌≡◌, ◌∙◌, ◌≤◌, ◌*◌, ◌^◌, ◌%◌, ap, subst, sym, arith}
use Rattle.sph_num.specs.Bound.{bounds_of, greatest_force}
use Rattle.sph_num.specs.Ranges.{AreBoundsInRange}
use Rattle.sph_num.proofs.Extremes.{AreBoundsInRange-bounds_of, bound_of-lt}
use Rattle.std.proofs.Math.Nat.{pow-le-pow_right}
use Rattle.sph_deck.proofs.bound.bound_of.Goals as goal

pub greatest_force-force-requires-clause-bounds : goal.greatest_force-force-requires-clause-bounds
greatest_force-force-requires-clause-bounds c =
    subst AreBoundsInRange (sym c.bounds_of-bounds.ensures)
    (AreBoundsInRange-bounds_of c.args.particles.now c.requires.some c.requires.not_too_many (λ k d low. c.requires.bodies k d low))

pub returns : goal.returns
returns c =
    let small : 2 ^ c.args.params.now.bin_max ≤ 2 ^ 10 = pow-le-pow_right (omega arith) c.requires.params.bin_max in
    let whole : 1 * 2 ^ c.args.params.now.bin_max % 2 ^ 128 ≡ 2 ^ c.args.params.now.bin_max = omega arith in
    let force : c.greatest_force-force.result ≡ greatest_force c.args.params.now.sound (bounds_of c.args.particles.now) =
    c.greatest_force-force.ensures ∙ ap (greatest_force c.args.params.now.sound) c.bounds_of-bounds.ensures in
    cc

pub overflow_add-result : goal.overflow_add-result
overflow_add-result c =
    let most = bound_of-lt c.args.params.now c.args.particles.now c.requires.params c.requires.some c.requires.not_too_many
    (λ k d low. c.requires.bodies k d low) (λ k d low. c.requires.momenta k d low) in
    omega (arith, returns c)

pub overflow_mul-result : goal.overflow_mul-result
overflow_mul-result c = omega (arith, overflow_add-result c)
