use Rattle.qs_heap.proofs.Sifts.{rises}
use Rattle.qs_heap.proofs.sift.move_up.Goals as goal

pub loop-above-preserved : goal.loop-above-preserved
loop-above-preserved c =
    let swapped = c.swap.ensures in
    rises _ c.loop-above.entries _ _ c.loop-above.at c.loop-above.invariant c.loop-above-test.ensures swapped.by_index swapped.len swapped.permutation
