use Rattle.std.proofs.Common.{◌-◌}
use Rattle.sph_bins.proofs.BinOf.{IsNoneAbove}
use Rattle.sph_bins.proofs.bins.choose.Given as goal

abbrev pub invariant-loop-bin : goal.invariant-loop-bin
invariant-loop-bin l = IsNoneAbove l.params l.t l.fmax l.mass l.h l.bin

abbrev pub decreases-loop-bin : goal.decreases-loop-bin
decreases-loop-bin l = l.bin - l.params.bin_min
