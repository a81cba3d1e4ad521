use Rattle.std.proofs.Common.{◌≡◌, slice_index}
use Rattle.qs_core.specs.Shape.{ancestors}
use Rattle.qs_core.proofs.Walks.{line_up, rank}
use Rattle.qs_play.proofs.layout.Layout.ancestor.Given as goal

abbrev pub invariant-loop-up : goal.invariant-loop-up
invariant-loop-up l = slice_index (ancestors l.self l.cell) l.index ≡ slice_index (line_up l.self l.up) l.left

abbrev pub decreases-loop-up : goal.decreases-loop-up
decreases-loop-up l = rank l.up
