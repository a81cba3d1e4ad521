-- The list stands before the next step, which is at most one step past the last one.
use Rattle.std.proofs.Common.{◌≡◌, ◌+◌, ◌-◌, ◌^◌, ◌≤◌}
use Rattle.sph_bins.specs.Bins.{IsDue}
use Rattle.sph_plain.specs.Run.{before}
use Rattle.sph_run.proofs.runs.step_through.Given as goal

abbrev pub invariant-loop-tick : goal.invariant-loop-tick
invariant-loop-tick g l = record {
  due : IsDue l.tick l.deck.params.bin_min;
  soon : l.tick ≤ l.last + 2 ^ l.deck.params.bin_min;
  before : l.particles.items ≡ before l.deck l.tick;
}

abbrev pub decreases-loop-tick : goal.decreases-loop-tick
decreases-loop-tick g l = l.last + 2 ^ l.deck.params.bin_min - l.tick
