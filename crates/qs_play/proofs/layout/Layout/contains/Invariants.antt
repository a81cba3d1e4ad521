use Rattle.std.proofs.Common.{◌↔◌}
use Rattle.qs_core.specs.Shape.{CellContains}
use Rattle.qs_core.proofs.Walks.{Reaches, rank}
use Rattle.qs_play.proofs.layout.Layout.contains.Given as goal

abbrev pub invariant-loop-at : goal.invariant-loop-at
invariant-loop-at l = CellContains l.self l.outer l.inner ↔ Reaches l.self l.outer l.at

abbrev pub decreases-loop-at : goal.decreases-loop-at
decreases-loop-at l = rank l.at
