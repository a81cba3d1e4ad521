use Rattle.std.proofs.Common.{sym}
use Rattle.qs_heap.proofs.Sifts.{sinks}
use Rattle.qs_heap.proofs.sift.move_down.Goals as goal

pub loop-below-preserved : goal.loop-below-preserved
loop-below-preserved c =
    let swapped = c.swap.ensures in
    let first = c.in-Some.ensures in
    sinks _ c.loop-below.entries _ _ c.loop-below.at c.in-Some.below c.loop-below.invariant first (sym c.if-not-goes_before.ensures) swapped.by_index swapped.len swapped.permutation
