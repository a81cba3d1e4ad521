-- The step that the code computes is a power of two.
use Rattle.std.proofs.Common.{arith}
use Rattle.std.proofs.lemmas.Nat.{one_shl}
use Rattle.sph_bins.proofs.BinOf.{IsTickAfter-step}
use Rattle.sph_bins.proofs.bins.next_tick.Goals as goal

pub returns-clause-value : goal.returns-clause-value
returns-clause-value c = IsTickAfter-step c.args.t c.args.bin_min _ (one_shl c.args.bin_min 32 (omega arith))
