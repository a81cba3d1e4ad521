use Rattle.std.proofs.Common.{map, ap, ◌∙◌, arith}
use Rattle.std.proofs.lemmas.List.{take_all}
use Rattle.sph_plain.specs.Run.{started}
use Rattle.sph_plain.proofs.Runs.{before-zero}
use Rattle.sph_plain.proofs.initial.start.Goals as goal

pub returns-clause-before : goal.returns-clause-before
returns-clause-before c =
    let items = c.as_slice-particle-items.result.now in
    let all = take_all c.loop-particle.particle-index items (omega arith) in
    c.loop-particle.invariant ∙ ap (map started) (all ∙ c.as_slice-particle-items.ensures) ∙ before-zero c.args.deck.now
