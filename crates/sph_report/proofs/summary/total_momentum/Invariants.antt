use Rattle.std.proofs.Common.{◌≡◌, ◌*◌, ◌^◌, ◌≤◌, take}
use Rattle.std.specs.Prelude.{unsigned_abs}
use Rattle.sph_report.specs.SummaryLine.{total_momentum}
use Rattle.sph_report.proofs.summary.total_momentum.Given as goal

abbrev pub invariant-loop-particle : goal.invariant-loop-particle
invariant-loop-particle l = record {
  sum : l.total ≡ total_momentum l.axis (take l.particle-index l.particles);
  narrow : unsigned_abs l.total ≤ l.particle-index * 2 ^ 96;
}
