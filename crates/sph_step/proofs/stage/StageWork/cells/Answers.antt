use Rattle.std.proofs.Common.{subst, arith}
use Rattle.qs_core.specs.Shape.{IsShape}
use Rattle.sph_step.specs.declared.stage.StagePlan.{StagePlan}
use Rattle.sph_step.specs.Stage.{shape_of}
use Rattle.sph_step.proofs.stage.StageWork.cells.Goals as goal

pub overflow_cast-result : goal.overflow_cast-result
overflow_cast-result c = omega (arith, c.self.invariant.shape.few_cells, c.self.inside.plan.parents.ok.0)

pub returns-clause-laws : goal.returns-clause-laws
returns-clause-laws c = subst (λ (p : StagePlan). IsShape (shape_of p)) c.self.view_is c.self.invariant.shape
