use Rattle.std.proofs.Common.{◌*◌, ◌%◌, ◌<◌, subst, arith}
use Rattle.sph_num.specs.inner.Parts.{strength_of, fifth_power, ArePartsOf}
use Rattle.sph_num.specs.Pull.{Puller}
use Rattle.sph_num.proofs.Pulls.{joined, strong-lt}
use Rattle.sph_num.proofs.Slopes.{fifth_power_low}
use Rattle.sph_num.proofs.pull.Pull.factor.Goals as goal

pub returns-in-Some-clause-value : goal.returns-in-Some-clause-value
returns-in-Some-clause-value c =
    let p = c.args.self.now in
    let are = subst (λ (q : Puller). ArePartsOf q c.self.inside.whole c.self.inside.broken) c.self.view_is c.self.invariant in
    let strength = strength_of p.mass p.g in
    let fifth = fifth_power p.h in
    let some : 0 < fifth = omega (arith, fifth_power_low p.h are.is_length) in
    let part = rw (c.from.ensures, c.from-2.ensures) at (c.in-Some.ensures (strength % fifth) fifth some are.broken_is) in
    rw (c.from-in-Some.ensures, c.from-in-Some-2.ensures, c.from-in-Some-3.ensures, c.from.ensures, c.from-2.ensures)
    (joined strength fifth (c.args.other * c.args.slope) c.self.inside.whole c.in-Some.part some are.whole_is part)

pub returns-in-Some-clause-below : goal.returns-in-Some-clause-below
returns-in-Some-clause-below c =
    let p = c.args.self.now in
    let are = subst (λ (q : Puller). ArePartsOf q c.self.inside.whole c.self.inside.broken) c.self.view_is c.self.invariant in
    rw (returns-in-Some-clause-value c) (strong-lt p.mass c.args.other p.g c.args.slope p.h are.is_mass c.requires.other are.small c.requires.slope are.is_length)

pub returns-in-None-clause-below : goal.returns-in-None-clause-below
returns-in-None-clause-below c =
    let p = c.self.inside in
    let are = c.self.invariant in
    rw (c.strength.ensures.value, c.from-in-None.ensures, c.from.ensures, c.from-2.ensures, c.fifth_power.ensures.value, c.h.ensures.value)
    (strong-lt p.mass c.args.other p.g c.args.slope p.length are.is_mass c.requires.other are.small c.requires.slope are.is_length)
