use Rattle.std.proofs.Common.{◌≡◌, ◌<◌, get_or, length, subst, arith}
use Rattle.sph_step.specs.inner.Put.{ArePut}
use Rattle.sph_step.proofs.Gathered.{none_put, one_more}
use Rattle.sph_step.proofs.gathering.put_members.Goals as goal

pub loop-k-init : goal.loop-k-init
loop-k-init c = none_put c.args.block.now c.args.particles.now

pub loop-k-preserved : goal.loop-k-preserved
loop-k-preserved c =
    let members = c.args.block.now.members.items in
    let k = c.loop-k.k in
    let inside : k < length members = omega (arith, c.loop-k-test.true, c.len-k-end.ensures) in
    let within : get_or members k 0 < length c.loop-k.particles = omega (arith, c.requires.within k 0 inside, c.loop-k.auto.particles) in
    rw (c.index-i.ensures, c.particle.ensures) (one_more c.args.block.now k c.args.particles.now c.loop-k.particles c.requires.rising inside within c.loop-k.invariant)

pub returns : goal.returns
returns c =
    let all : c.loop-k.k ≡ length c.args.block.now.members.items = omega (arith, c.loop-k-test.false, c.loop-k.auto.k-end, c.len-k-end.ensures) in
    subst (λ n. ArePut c.args.block.now n c.args.particles.now c.loop-k.particles) all c.loop-k.invariant
