use Rattle.sph_snap.specs.inner.Parts.{number_field, number_in}
use Rattle.sph_snap.proofs.Fit.{Gives-fault}
use Rattle.sph_snap.proofs.field.number_at.Goals as goal

pub returns-in_err-n : goal.returns-in_err-n
returns-in_err-n c =
    Gives-fault c.args.bytes.now (number_field c.args.at 4 c.args.least c.args.greatest) (number_in c.args.bytes.now c.args.at 4) c.from_residual.result c.in_err-n.field-0.0 c.from_residual.ensures.1
    (rw (← c.from.ensures, ← c.from-2.ensures) c.in_err-n.ensures.read)
