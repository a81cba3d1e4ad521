use Rattle.std.proofs.Common.{◌≡◌, ℕ, ◌+◌, ◌%◌, ◌^◌, ◌≤◌, List, sym, ap, ◌∙◌, arith}
use Rattle.std.proofs.lemmas.Result.{on_ok_weaker}
use Rattle.sph_num.specs.declared.particle.Params.{Params}
use Rattle.sph_num.specs.declared.particle.Particle.{Particle}
use Rattle.sph_deck.specs.declared.deck.Deck.{Deck}
use Rattle.sph_bins.specs.Bins.{IsStepTick}
use Rattle.sph_plain.specs.Run.{before, after}
use Rattle.sph_plain.proofs.Runs.{before_next}
use Rattle.sph_plain.proofs.tests.step.Goals as goal

-- where the least step is one tick, each tick is one of a step
each_tick : (params : Params) (t : ℕ) → params.bin_min ≡ 0 → t ≤ params.ticks → IsStepTick params t
each_tick params t least early =
    let whole : t % 1 ≡ 0 = omega arith in
    record { due = ap (λ k. t % 2 ^ k) least ∙ whole; within = early }

next_tick : (deck : Deck) (t : ℕ) (list : List Particle) → deck.params.bin_min ≡ 0 → t ≤ deck.params.ticks → list ≡ after deck t → list ≡ before deck (t + 1)
next_tick deck t list least early is =
    is ∙ sym (before_next deck t (each_tick deck.params t least early)) ∙ ap (λ k. before deck (t + 2 ^ k)) least

pub plain_step-requires-clause-tick : goal.plain_step-requires-clause-tick
plain_step-requires-clause-tick c = each_tick c.args.deck.now.params c.args.t c.requires.every_tick c.requires.within

pub returns : goal.returns
returns c =
    on_ok_weaker c.plain_step.result
    (next_tick c.args.deck.now c.args.t c.plain_step.new.particles.items c.requires.every_tick c.requires.within)
    c.plain_step.ensures.after
