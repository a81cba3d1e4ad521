-- A task that precedes another in the scene does so in the work.
use Rattle.std.proofs.Common.{ℕ, List, [], ◌∷◌}
use Rattle.cell_block.specs.Scene.{IsLineEdge, IsLinePath, LinePrecedes}
use Rattle.qs_core.specs.Shape.{IsEdge, IsPath, Precedes}
use Rattle.sph_step.specs.declared.stage.StagePlan.{StagePlan}
use Rattle.sph_step.specs.Stage.{shape_of}

module _ (plan : StagePlan) (edges : (before after : ℕ) → IsLineEdge plan.scene before after → IsEdge (shape_of plan) before after) where
  -- each edge of a path is one
  path_is : (before : ℕ) (path : List ℕ) (after : ℕ) → IsLinePath plan.scene before path after → IsPath (shape_of plan) before path after
  path_is before [] after edge = edges before after edge
  path_is before (task ∷ path) after along = (edges before task along.0, path_is task path after along.1)

  pub Precedes-from_line : (before after : ℕ) → LinePrecedes plan.scene before after → Precedes (shape_of plan) before after
  Precedes-from_line before after precedes = (precedes.0, path_is before precedes.0 after precedes.1)
