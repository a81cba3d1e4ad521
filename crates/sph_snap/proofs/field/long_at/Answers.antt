use Rattle.std.proofs.Common.{subst, sym}
use Rattle.sph_snap.specs.Fields.{field, between}
use Rattle.sph_snap.specs.inner.Parts.{FailsFirst, number_field, number_in}
use Rattle.sph_snap.proofs.FieldsRead.{number_beyond, number_fits}
use Rattle.sph_snap.proofs.Fit.{FailsFirst-short, Gives-fault}
use Rattle.sph_snap.proofs.field.long_at.Goals as goal

pub returns-in_err-bytes_at-clause-read : goal.returns-in_err-bytes_at-clause-read
returns-in_err-bytes_at-clause-read c =
    let bytes = c.args.bytes.now in
    let fields = number_field c.args.at c.args.size c.args.least c.args.greatest in
    let cut = FailsFirst-short bytes (field c.args.at c.args.size (between c.args.least c.args.greatest)) c.in_err-bytes_at.ensures.0 in
    Gives-fault bytes fields (number_in bytes c.args.at c.args.size) c.from_residual.result c.in_err-bytes_at.field-0.0 c.from_residual.ensures.1
    (subst (FailsFirst bytes fields) (sym c.in_err-bytes_at.ensures.1) cut)

pub returns-then-n-least-clause-read : goal.returns-then-n-least-clause-read
returns-then-n-least-clause-read c =
    number_beyond c.args.bytes.now c.in_ok-bytes_at.field-0.now c.args.at c.args.size c.args.least c.args.greatest c.read_uint-n.result
    c.in_ok-bytes_at.ensures.0 c.in_ok-bytes_at.ensures.1 c.read_uint-n.ensures c.then-n-least.either

pub returns-clause-read : goal.returns-clause-read
returns-clause-read c =
    number_fits c.args.bytes.now c.in_ok-bytes_at.field-0.now c.args.at c.args.size c.args.least c.args.greatest c.read_uint-n.result
    c.in_ok-bytes_at.ensures.0 c.in_ok-bytes_at.ensures.1 c.read_uint-n.ensures c.if-n-least.false c.if-n-greatest.false
