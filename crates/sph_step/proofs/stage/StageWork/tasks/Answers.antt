use Rattle.std.proofs.Common.{length, sym, ap, ◌∙◌}
use Rattle.sph_step.specs.declared.stage.StagePlan.{StagePlan}
use Rattle.sph_step.proofs.Touched.{length-shape_tasks}
use Rattle.sph_step.proofs.stage.StageWork.tasks.Goals as goal

pub returns : goal.returns
returns c = c.tasks.ensures.count ∙ ap (λ (p : StagePlan). length p.graph.tasks) c.self.view_is ∙ sym (length-shape_tasks c.args.self.now)
