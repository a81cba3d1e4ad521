use Rattle.std.proofs.Common.{◌≡◌, ℕ, ◌*◌, ◌%◌, ◌^◌, ◌≤◌, arith}
use Rattle.std.proofs.lemmas.Nat.{one_shl}
use Rattle.sph_num.specs.Totals.{component}
use Rattle.sph_bins.proofs.Room.{pow-le}
use Rattle.sph_bins.proofs.Vectors.{exact, pushed-is}
use Rattle.sph_bins.proofs.leapfrog.pushed.Goals as goal

-- the ticks of a step, as the code shifts them
ticks_of_step : (bin : ℕ) → bin ≤ 10 → (1 * 2 ^ bin) % 2 ^ 32 ≡ 2 ^ bin
ticks_of_step bin short = one_shl bin 32 (omega arith)

few_ticks : (bin : ℕ) → bin ≤ 10 → (1 * 2 ^ bin) % 2 ^ 32 ≤ 1024
few_ticks bin short = rw (ticks_of_step bin short) (pow-le bin 10 short)

pub pushed_along-requires-clause-ticks : goal.pushed_along-requires-clause-ticks
pushed_along-requires-clause-ticks c = few_ticks c.args.bin c.requires.bin

pub pushed_along-requires-2-clause-ticks : goal.pushed_along-requires-2-clause-ticks
pushed_along-requires-2-clause-ticks c = few_ticks c.args.bin c.requires.bin

pub pushed_along-requires-3-clause-ticks : goal.pushed_along-requires-3-clause-ticks
pushed_along-requires-3-clause-ticks c = few_ticks c.args.bin c.requires.bin

pub returns : goal.returns
returns c =
    let p = λ (axis : ℕ). exact (component c.args.p axis) (omega (arith, c.requires.momentum axis)) in
    let f = λ (axis : ℕ). exact (component c.args.f axis) (omega (arith, c.requires.force axis)) in
    let ticks = ticks_of_step c.args.bin c.requires.bin in
    let x = rw (p 0, f 0, ticks) at c.pushed_along.ensures.value in
    let y = rw (p 1, f 1, ticks) at c.pushed_along-2.ensures.value in
    let z = rw (p 2, f 2, ticks) at c.pushed_along-3.ensures.value in
    let whole_x = exact c.pushed_along.result (omega (arith, c.pushed_along.ensures.small)) in
    let whole_y = exact c.pushed_along-2.result (omega (arith, c.pushed_along-2.ensures.small)) in
    let whole_z = exact c.pushed_along-3.result (omega (arith, c.pushed_along-3.ensures.small)) in
    rw (whole_x, whole_y, whole_z) (pushed-is c.args.p c.args.f (2 ^ c.args.bin) c.pushed_along.result c.pushed_along-2.result c.pushed_along-3.result x y z)
