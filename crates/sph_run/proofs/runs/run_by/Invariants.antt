-- So many pieces were written, and the list stands before the step at the next tick.
use Rattle.std.proofs.Common.{◌≡◌, ◌*◌, ◌≤◌}
use Rattle.std.specs.Io.KnownBytes.{Appends}
use Rattle.sph_bins.specs.Bins.{IsDue}
use Rattle.sph_plain.specs.Run.{before}
use Rattle.sph_run.specs.inner.Pieces.{pieces}
use Rattle.sph_run.proofs.runs.run_by.Given as goal

abbrev pub invariant-loop-k : goal.invariant-loop-k
invariant-loop-k g l = record {
  due : IsDue l.next l.deck.params.bin_min;
  soon : l.next ≤ l.k * l.deck.params.every;
  before : l.particles.items ≡ before l.deck l.next;
  written : Appends (g.O.Sink.held l.initial.out) (g.O.Sink.held l.out) (pieces l.form l.deck l.k);
  cause : g.O.Sink.faults l.out ≡ g.O.Sink.faults l.initial.out;
}
