use Rattle.std.proofs.Common.{◌∙◌}
use Rattle.qs_core.specs.Shape.{TaskShape}
use Rattle.sph_step.proofs.Applying.{task_within, told_task}
use Rattle.sph_step.proofs.stage.StageWork.cells_of.Goals as goal

pub cells_of-requires : goal.cells_of-requires
cells_of-requires c = task_within c.self.inside.plan c.args.self.now c.args.task c.self.view_is c.requires

pub returns : goal.returns
returns c = c.cells_of.ensures ∙ told_task (λ (s : TaskShape). (s.first, s.second)) c.self.inside.plan c.args.self.now c.args.task c.self.view_is c.requires
