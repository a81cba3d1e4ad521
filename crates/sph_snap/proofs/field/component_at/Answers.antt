use Rattle.std.proofs.Common.{◌≡◌, ◌<◌, ◌≤◌, ◌^◌, rules, sym, ap, ◌∙◌, subst, to_z, of_z}
use Rattle.std.specs.Prelude.{unsigned_abs}
use Rattle.std.specs.Int.{w128}
use Rattle.sph_snap.specs.Fields.{field, is_component}
use Rattle.sph_snap.specs.inner.Parts.{FailsFirst, component_field, signed_in}
use Rattle.sph_snap.proofs.FieldsRead.{AreBytes, component_beyond, component_fits}
use Rattle.sph_snap.proofs.Fit.{FailsFirst-short, Gives-fault}
use Rattle.sph_snap.proofs.field.component_at.Goals as goal

pub returns-in_err-bytes_at : goal.returns-in_err-bytes_at
returns-in_err-bytes_at c =
    let bytes = c.args.bytes.now in
    let fields = component_field c.args.at in
    let cut = FailsFirst-short bytes (field c.args.at 16 is_component) c.in_err-bytes_at.ensures.0 in
    Gives-fault bytes fields (signed_in bytes c.args.at) c.from_residual.result c.in_err-bytes_at.field-0.0 c.from_residual.ensures.1
    (subst (FailsFirst bytes fields) (sym c.in_err-bytes_at.ensures.1) cut)

pub returns-then-unsigned_abs-ge-COMPONENT_LIMIT : goal.returns-then-unsigned_abs-ge-COMPONENT_LIMIT
returns-then-unsigned_abs-ge-COMPONENT_LIMIT c =
    let q = c.read_i128-q.result in
    let same : to_z w128 (of_z w128 q) ≡ q = search rules in
    let small : AreBytes c.args.bytes.now = record { each = λ i. (c.type_inv.bytes i).fits } in
    let beyond : 2 ^ 96 ≤ unsigned_abs q = subst (λ n. 2 ^ 96 ≤ n) (c.unsigned_abs.ensures.value ∙ ap unsigned_abs same) c.if-unsigned_abs-ge-COMPONENT_LIMIT.true in
    component_beyond c.args.bytes.now c.in_ok-bytes_at.field-0.now c.args.at q small
    c.in_ok-bytes_at.ensures.0 c.in_ok-bytes_at.ensures.1 c.read_i128-q.ensures beyond

pub returns : goal.returns
returns c =
    let q = c.read_i128-q.result in
    let same : to_z w128 (of_z w128 q) ≡ q = search rules in
    let small : AreBytes c.args.bytes.now = record { each = λ i. (c.type_inv.bytes i).fits } in
    let below : unsigned_abs q < 2 ^ 96 = subst (λ n. n < 2 ^ 96) (c.unsigned_abs.ensures.value ∙ ap unsigned_abs same) c.if-unsigned_abs-ge-COMPONENT_LIMIT.false in
    let fits = component_fits c.args.bytes.now c.in_ok-bytes_at.field-0.now c.args.at q small
    c.in_ok-bytes_at.ensures.0 c.in_ok-bytes_at.ensures.1 c.read_i128-q.ensures below in
    (fits.0, same ∙ fits.1)
