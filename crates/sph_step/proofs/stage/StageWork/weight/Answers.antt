use Rattle.std.proofs.Common.{◌∙◌}
use Rattle.qs_core.specs.Shape.{TaskShape}
use Rattle.sph_step.proofs.Applying.{task_within, told_task}
use Rattle.sph_step.proofs.stage.StageWork.weight.Goals as goal

pub weight-requires : goal.weight-requires
weight-requires c = task_within c.self.inside.plan c.args.self.now c.args.task c.self.view_is c.requires

pub returns : goal.returns
returns c = c.weight.ensures ∙ told_task (λ (s : TaskShape). s.weight) c.self.inside.plan c.args.self.now c.args.task c.self.view_is c.requires
