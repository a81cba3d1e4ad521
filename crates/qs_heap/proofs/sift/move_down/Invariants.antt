use Rattle.std.proofs.Common.{◌-◌, length}
use Rattle.qs_heap.proofs.Sifts.{IsSinking}
use Rattle.qs_heap.proofs.sift.move_down.Given as goal

abbrev pub invariant-loop-below : goal.invariant-loop-below
invariant-loop-below l = IsSinking l.fn.entries l.entries l.fn.place l.at

abbrev pub decreases-loop-below : goal.decreases-loop-below
decreases-loop-below l = length l.initial.entries - l.at
