use Rattle.std.proofs.Common.{◌∙◌, ◌++◌, ap, arith}
use Rattle.std.specs.Prelude.{codes}
use Rattle.sph_snap.proofs.Written.{length-rows_from, rows_next, whole_snapshot}
use Rattle.sph_snap.proofs.put.put_snapshot.Goals as goal

pub overflow_cast-particles : goal.overflow_cast-particles
overflow_cast-particles c = omega (arith, length-rows_from 1 c.args.particles.now)

pub overflow_cast-i : goal.overflow_cast-i
overflow_cast-i c = omega (arith, length-rows_from 1 c.args.particles.now)

pub overflow_add-i : goal.overflow_add-i
overflow_add-i c = omega (arith, length-rows_from 1 c.args.particles.now)

pub loop-i-preserved : goal.loop-i-preserved
loop-i-preserved c =
    rows_next c.args.particles.now c.put_u32-2.new.out.items c.loop-i.out.items c.put_row.new.out.items c.loop-i.i
    c.loop-i-test.true c.loop-i.invariant c.in_ok-put_row.ensures

pub returns : goal.returns
returns c =
    let mark = c.in_ok-extend_from_slice.ensures.items ∙ ap (λ l. l ++ codes "SPHSNAP1") c.in_ok-out.ensures.items in
    whole_snapshot c.args.t c.args.particles.now c.extend_from_slice.new.self.items c.put_u32.new.out.items c.put_u32-2.new.out.items c.loop-i.out.items c.loop-i.i
    c.loop-i-test.false mark c.in_ok-put_u32.ensures c.in_ok-put_u32-2.ensures c.loop-i.invariant
