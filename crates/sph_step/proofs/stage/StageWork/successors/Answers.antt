use Rattle.std.proofs.Common.{◌∙◌}
use Rattle.qs_core.specs.Shape.{TaskShape}
use Rattle.sph_step.proofs.Applying.{task_within, told_task}
use Rattle.sph_step.proofs.stage.StageWork.successors.Goals as goal

pub successors-requires : goal.successors-requires
successors-requires c = task_within c.self.inside.plan c.args.self.now c.args.task c.self.view_is c.requires

pub returns : goal.returns
returns c = c.successors.ensures ∙ told_task (λ (s : TaskShape). s.successors) c.self.inside.plan c.args.self.now c.args.task c.self.view_is c.requires
