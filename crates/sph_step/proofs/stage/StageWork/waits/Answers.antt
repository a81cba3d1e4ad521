use Rattle.std.proofs.Common.{ap, ◌∙◌}
use Rattle.qs_core.specs.Shape.{edges_into}
use Rattle.sph_step.specs.declared.stage.StagePlan.{StagePlan}
use Rattle.sph_step.specs.Stage.{shape_of}
use Rattle.sph_step.proofs.Applying.{task_within}
use Rattle.sph_step.proofs.stage.StageWork.waits.Goals as goal

pub waits-requires : goal.waits-requires
waits-requires c = task_within c.self.inside.plan c.args.self.now c.args.task c.self.view_is c.requires

pub returns : goal.returns
returns c = c.waits.ensures ∙ c.self.invariant.waits c.args.task (task_within c.self.inside.plan c.args.self.now c.args.task c.self.view_is c.requires) ∙ ap (λ (p : StagePlan). edges_into (shape_of p) c.args.task) c.self.view_is
