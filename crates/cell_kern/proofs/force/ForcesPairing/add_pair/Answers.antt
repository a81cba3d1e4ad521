use Rattle.std.proofs.Common.{subst, refl}
use Rattle.sph_num.specs.Force.{InReach}
use Rattle.cell_kern.specs.inner.Gathered.{of_other}
use Rattle.cell_kern.proofs.Forces.{force_of_one, force_of_other}
use Rattle.cell_kern.proofs.force.ForcesPairing.add_pair.Goals as goal

pub returns-then-one-clause-one : goal.returns-then-one-clause-one
returns-then-one-clause-one c =
    force_of_one c.args.one.now (of_other c.args.other.now) _ _ _ c.args.r2 c.args.sum.now c.pair_force-force.result c.add_force.new.sum refl c.requires.distance c.pair_force-force.ensures.value c.add_force.ensures

pub returns-then-one-clause-other : goal.returns-then-one-clause-other
returns-then-one-clause-other c =
    let one = c.args.one.now in
    let other = of_other c.args.other.now in
    let reach = subst (λ r2. InReach r2 one.pull.h other.pull.h) c.requires.distance c.requires.near in
    force_of_other one other _ _ _ c.args.r2 c.args.other_sum.now c.pair_force-force.result c.take_force.new.sum refl c.requires.distance c.requires.one c.requires.other reach c.pair_force-force.ensures.value c.take_force.ensures
