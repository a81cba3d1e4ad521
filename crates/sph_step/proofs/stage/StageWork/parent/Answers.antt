use Rattle.std.proofs.Common.{◌<◌, length, sym, subst, ap, ◌∙◌, arith}
use Rattle.std.specs.Prelude.{None}
use Rattle.std.proofs.lemmas.List.{get_or_read}
use Rattle.std.proofs.lemmas.Option.{unwrap_or-slice_get}
use Rattle.qs_core.specs.Shape.{parent_of}
use Rattle.sph_step.specs.declared.stage.StagePlan.{StagePlan}
use Rattle.sph_step.specs.Stage.{shape_of}
use Rattle.sph_step.proofs.stage.StageWork.parent.Goals as goal

pub index-requires : goal.index-requires
index-requires c =
    let low = subst (λ (p : StagePlan). c.args.cell < length p.parents.items) (sym c.self.view_is) c.requires in
    omega (arith, c.self.inside.plan.parents.ok.0)

pub returns : goal.returns
returns c =
    let parents = c.self.inside.plan.parents.items in
    let low = subst (λ (p : StagePlan). c.args.cell < length p.parents.items) (sym c.self.view_is) c.requires in
    get_or_read parents c.args.cell c.index.result.now low c.index.ensures None ∙ sym (unwrap_or-slice_get parents c.args.cell None)
    ∙ ap (λ (p : StagePlan). parent_of (shape_of p) c.args.cell) c.self.view_is
