use Rattle.std.proofs.Common.{◌≡◌, ◌+◌, ◌∙◌, ◌++◌, rules, to_z, of_z}
use Rattle.std.specs.Int.{w128}
use Rattle.sph_snap.specs.inner.Parts.{component_field, momentum_fields, momentum_in}
use Rattle.sph_snap.proofs.FieldsRead.{momentum_fits}
use Rattle.sph_snap.proofs.Fit.{Gives-fault, fails_behind, fails_here}
use Rattle.sph_snap.proofs.field.momentum_at.Goals as goal

pub returns-in_err-x : goal.returns-in_err-x
unfolding momentum_fields
returns-in_err-x c =
    Gives-fault c.args.bytes.now (momentum_fields c.args.at) (momentum_in c.args.bytes.now c.args.at) c.from_residual.result c.in_err-x.field-0.0 c.from_residual.ensures.1
    (fails_here (component_field (c.args.at + 16) ++ component_field (c.args.at + 32)) c.in_err-x.ensures)

pub returns-in_err-y : goal.returns-in_err-y
unfolding momentum_fields
returns-in_err-y c =
    Gives-fault c.args.bytes.now (momentum_fields c.args.at) (momentum_in c.args.bytes.now c.args.at) c.from_residual-in_err-y.result c.in_err-y.field-0.0 c.from_residual-in_err-y.ensures.1
    (fails_behind c.in_ok-x.ensures.0 (fails_here (component_field (c.args.at + 32)) c.in_err-y.ensures))

pub returns-in_err-z : goal.returns-in_err-z
unfolding momentum_fields
returns-in_err-z c =
    Gives-fault c.args.bytes.now (momentum_fields c.args.at) (momentum_in c.args.bytes.now c.args.at) c.from_residual-in_err-z.result c.in_err-z.field-0.0 c.from_residual-in_err-z.ensures.1
    (fails_behind c.in_ok-x.ensures.0 (fails_behind c.in_ok-y.ensures.0 c.in_err-z.ensures))

pub returns : goal.returns
returns c =
    let same_x : to_z w128 (of_z w128 c.in_ok-x.x) ≡ c.in_ok-x.x = search rules in
    let same_y : to_z w128 (of_z w128 c.in_ok-y.y) ≡ c.in_ok-y.y = search rules in
    let same_z : to_z w128 (of_z w128 c.in_ok-z.z) ≡ c.in_ok-z.z = search rules in
    momentum_fits c.in_ok-x.ensures.0 (same_x ∙ c.in_ok-x.ensures.1) c.in_ok-y.ensures.0 (same_y ∙ c.in_ok-y.ensures.1) c.in_ok-z.ensures.0 (same_z ∙ c.in_ok-z.ensures.1)
