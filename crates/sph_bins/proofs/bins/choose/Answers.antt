-- The walk down from the greatest bin.
use Rattle.sph_bins.proofs.BinOf.{IsNoneAbove-less, bin_of-fits, bin_of-least}
use Rattle.sph_bins.proofs.bins.choose.Goals as goal

pub loop-bin-preserved : goal.loop-bin-preserved
loop-bin-preserved c =
    IsNoneAbove-less c.args.params.now c.args.t c.args.fmax c.args.mass c.args.h c.loop-bin.bin _ c.fits.result
    c.loop-bin.invariant c.loop-bin-test.true (cc) c.fits.ensures c.if-not-fits.true

pub returns-else-not-fits-clause-value : goal.returns-else-not-fits-clause-value
returns-else-not-fits-clause-value c =
    bin_of-fits c.args.params.now c.args.t c.args.fmax c.args.mass c.args.h c.loop-bin.bin _ c.fits.result
    c.loop-bin.invariant c.loop-bin-test.true (cc) c.fits.ensures c.if-not-fits.false

pub returns-after-loop-bin-clause-value : goal.returns-after-loop-bin-clause-value
returns-after-loop-bin-clause-value c =
    bin_of-least c.args.params.now c.args.t c.args.fmax c.args.mass c.args.h c.loop-bin.bin
    c.loop-bin.invariant c.requires.due c.loop-bin-test.false
