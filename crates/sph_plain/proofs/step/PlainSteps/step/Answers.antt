use Rattle.std.proofs.Common.{◌∙◌}
use Rattle.sph_plain.specs.Run.{before}
use Rattle.sph_plain.proofs.Spots.{spots_are}
use Rattle.sph_plain.proofs.step.PlainSteps.step.Goals as goal

pub find_densities-requires-clause-spots : goal.find_densities-requires-clause-spots
find_densities-requires-clause-spots c =
    spots_are c.args.deck.now.params c.args.t (before c.args.deck.now c.args.t) c.deref-2.result.now c.deref-4.result.now
    (c.deref-2.ensures.value ∙ c.in_ok-bodies.ensures) (c.deref-4.ensures.value ∙ c.in_ok-spots.ensures)

pub kick_due-requires-clause-spots : goal.kick_due-requires-clause-spots
kick_due-requires-clause-spots c =
    spots_are c.args.deck.now.params c.args.t (before c.args.deck.now c.args.t) c.deref-2.result.now c.deref-7.result.now
    (c.deref-2.ensures.value ∙ c.in_ok-bodies.ensures) (c.deref-7.ensures.value ∙ c.in_ok-spots.ensures)
