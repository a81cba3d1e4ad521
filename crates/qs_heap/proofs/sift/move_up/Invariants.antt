use Rattle.qs_heap.proofs.Sifts.{IsRising}
use Rattle.qs_heap.proofs.sift.move_up.Given as goal

abbrev pub invariant-loop-above : goal.invariant-loop-above
invariant-loop-above l = IsRising l.fn.entries l.entries l.fn.place l.at

abbrev pub decreases-loop-above : goal.decreases-loop-above
decreases-loop-above l = l.at
