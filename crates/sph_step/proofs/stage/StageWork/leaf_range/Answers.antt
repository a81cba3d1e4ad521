use Rattle.std.proofs.Common.{◌<◌, length, sym, subst, ap, ◌∙◌, arith}
use Rattle.std.proofs.lemmas.List.{get_or_read}
use Rattle.std.proofs.lemmas.Option.{unwrap_or-slice_get}
use Rattle.qs_core.specs.Shape.{range_of}
use Rattle.sph_step.specs.declared.stage.StagePlan.{StagePlan}
use Rattle.sph_step.specs.Stage.{shape_of}
use Rattle.sph_step.proofs.stage.StageWork.leaf_range.Goals as goal

pub index-requires : goal.index-requires
index-requires c =
    let low = subst (λ (p : StagePlan). c.args.cell < length p.parents.items) (sym c.self.view_is) c.requires in
    omega (arith, c.self.invariant.shape.one_range_each, c.self.inside.plan.ranges.ok.0)

pub returns : goal.returns
returns c =
    let ranges = c.self.inside.plan.ranges.items in
    let low = subst (λ (p : StagePlan). c.args.cell < length p.parents.items) (sym c.self.view_is) c.requires in
    get_or_read ranges c.args.cell c.index.result.now (omega (arith, c.self.invariant.shape.one_range_each)) c.index.ensures (0, 0) ∙ sym (unwrap_or-slice_get ranges c.args.cell (0, 0))
    ∙ ap (λ (p : StagePlan). range_of (shape_of p) c.args.cell) c.self.view_is
