use Rattle.std.proofs.Common.{arith}
use Rattle.sph_num.specs.Totals.{component}
use Rattle.sph_plain.proofs.Vectors.{sum_exact, sum_fits, pulled-is}
use Rattle.sph_plain.proofs.sums.add_pull.Goals as goal

pub overflow_add-total : goal.overflow_add-total
overflow_add-total c =
    sum_fits (component c.args.total.now 0) c.pull_along.result (c.requires.room 0) (omega (arith, c.pull_along.ensures.small))

pub overflow_add-total-2 : goal.overflow_add-total-2
overflow_add-total-2 c =
    sum_fits (component c.args.total.now 1) c.pull_along-2.result (c.requires.room 1) (omega (arith, c.pull_along-2.ensures.small))

pub overflow_add-total-3 : goal.overflow_add-total-3
overflow_add-total-3 c =
    sum_fits (component c.args.total.now 2) c.pull_along-3.result (c.requires.room 2) (omega (arith, c.pull_along-3.ensures.small))

pub returns : goal.returns
returns c =
    let total = c.args.total.now in
    let x = sum_exact (component total 0) c.pull_along.result (c.requires.room 0) (omega (arith, c.pull_along.ensures.small)) in
    let y = sum_exact (component total 1) c.pull_along-2.result (c.requires.room 1) (omega (arith, c.pull_along-2.ensures.small)) in
    let z = sum_exact (component total 2) c.pull_along-3.result (c.requires.room 2) (omega (arith, c.pull_along-3.ensures.small)) in
    rw (x, y, z) (pulled-is total c.args.i.now c.args.j.now c.pair_factor-factor.result c.args.r2 c.pull_along.result c.pull_along-2.result c.pull_along-3.result
    c.requires.distance c.pair_factor-factor.ensures.value c.pull_along.ensures.value c.pull_along-2.ensures.value c.pull_along-3.ensures.value)
