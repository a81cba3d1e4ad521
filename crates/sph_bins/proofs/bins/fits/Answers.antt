-- The shift loses no bit.
use Rattle.std.proofs.Common.{◌≡◌, true, refl}
use Rattle.sph_bins.specs.Bins.{is_due}
use Rattle.sph_bins.proofs.Room.{shifted-is}
use Rattle.sph_bins.proofs.bins.fits.Goals as goal

pub returns-then-due : goal.returns-then-due
returns-then-due c =
    let due : is_due c.args.t c.args.bin ≡ true = cc in
    rw (shifted-is c.args.fmax c.args.bin c.requires.force c.requires.bin, due) refl
