use Rattle.std.proofs.Common.{◌^◌}
use Rattle.sph_bins.proofs.Room.{pow-le}
use Rattle.sph_bins.proofs.Vectors.{pushed-lt}
use Rattle.sph_bins.proofs.leapfrog.momentum.Goals as goal

pub returns-else-t-eq0-clause-below : goal.returns-else-t-eq0-clause-below
returns-else-t-eq0-clause-below c =
    let bin = c.args.particle.now.bin in
    λ axis. rw c.pushed.ensures (pushed-lt c.args.particle.now.p c.args.f (2 ^ bin) c.requires.momentum c.requires.force (pow-le bin 10 c.requires.bin) axis)
