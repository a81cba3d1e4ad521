use Rattle.std.proofs.Common.{◌+◌, ◌++◌}
use Rattle.sph_snap.specs.inner.Parts.{coordinate_field, place_fields, place_in}
use Rattle.sph_snap.proofs.FieldsRead.{place_fits}
use Rattle.sph_snap.proofs.Fit.{Gives-fault, fails_behind, fails_here}
use Rattle.sph_snap.proofs.field.place_at.Goals as goal

pub returns-in_err-x : goal.returns-in_err-x
unfolding place_fields
returns-in_err-x c =
    Gives-fault c.args.bytes.now (place_fields c.args.at) (place_in c.args.bytes.now c.args.at) c.from_residual.result c.in_err-x.field-0.0 c.from_residual.ensures.1
    (fails_here (coordinate_field (c.args.at + 4) ++ coordinate_field (c.args.at + 8)) c.in_err-x.ensures)

pub returns-in_err-y : goal.returns-in_err-y
unfolding place_fields
returns-in_err-y c =
    Gives-fault c.args.bytes.now (place_fields c.args.at) (place_in c.args.bytes.now c.args.at) c.from_residual-in_err-y.result c.in_err-y.field-0.0 c.from_residual-in_err-y.ensures.1
    (fails_behind c.in_ok-x.ensures.0 (fails_here (coordinate_field (c.args.at + 8)) c.in_err-y.ensures))

pub returns-in_err-z : goal.returns-in_err-z
unfolding place_fields
returns-in_err-z c =
    Gives-fault c.args.bytes.now (place_fields c.args.at) (place_in c.args.bytes.now c.args.at) c.from_residual-in_err-z.result c.in_err-z.field-0.0 c.from_residual-in_err-z.ensures.1
    (fails_behind c.in_ok-x.ensures.0 (fails_behind c.in_ok-y.ensures.0 c.in_err-z.ensures))

pub returns : goal.returns
returns c =
    place_fits c.in_ok-x.ensures.0 c.in_ok-x.ensures.1 c.in_ok-y.ensures.0 c.in_ok-y.ensures.1 c.in_ok-z.ensures.0 c.in_ok-z.ensures.1
