use Rattle.sph_step.specs.Made.{IsParentOf}
use Rattle.sph_step.specs.inner.Told.{AreFilled}
use Rattle.sph_step.proofs.cells.parents_of.Given as goal

abbrev pub invariant-loop-cell : goal.invariant-loop-cell
invariant-loop-cell l = AreFilled (IsParentOf l.tree) l.cell l.parents.items
