use Rattle.sph_step.specs.Made.{IsRangeOf}
use Rattle.sph_step.specs.inner.Told.{AreFilled}
use Rattle.sph_step.proofs.cells.ranges_of.Given as goal

abbrev pub invariant-loop-cell : goal.invariant-loop-cell
invariant-loop-cell l = AreFilled (IsRangeOf l.tree) l.cell l.ranges.items
