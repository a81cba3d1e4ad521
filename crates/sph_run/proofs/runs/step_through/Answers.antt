-- One more step, and none left.
use Rattle.std.proofs.Common.{◌≡◌, ◌+◌, ◌^◌, sym, ◌∙◌, arith}
use Rattle.sph_bins.specs.Bins.{IsStepTick}
use Rattle.sph_run.proofs.Taken.{taken}
use Rattle.sph_run.proofs.Ticks.{before_step_after, next_due}
use Rattle.sph_run.proofs.runs.step_through.Goals as goal

pub loop-tick-preserved : goal.loop-tick-preserved
loop-tick-preserved g c =
    let deck = c.args.deck.now in
    let tick = c.loop-tick.tick in
    let next = c.next_tick-tick.result in
    let at : IsStepTick deck.params tick = record { due = c.loop-tick.invariant.due; within = omega (arith, c.requires.last.within) } in
    let is : next ≡ tick + 2 ^ deck.params.bin_min = c.next_tick-tick.ensures.of_step_tick c.loop-tick.invariant.due in
    record {
      due = c.next_tick-tick.ensures.value.due;
      soon = omega arith;
      before = taken deck _ _ _ _ tick c.requires.steps at c.loop-tick.invariant.before c.in_ok-step.ensures ∙ sym (before_step_after deck tick next at is);
    }

pub returns : goal.returns
returns g c =
    let deck = c.args.deck.now in
    let tick = c.loop-tick.tick in
    let last = c.args.last in
    let is : tick ≡ last + 2 ^ deck.params.bin_min = next_due deck.params.bin_min last tick c.requires.last.due c.loop-tick.invariant.due c.loop-tick-test.false c.loop-tick.invariant.soon in
    record { after = c.loop-tick.invariant.before ∙ before_step_after deck last tick c.requires.last is }
