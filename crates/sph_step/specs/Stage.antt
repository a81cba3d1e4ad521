-- A step as a work: its cells and tasks, when a block fits, and what every stage keeps.
use Rattle.std.specs.Prelude.{◌≡◌, ℕ, ◌<◌, List, length, map, slice_get, slice_index, option_map, unwrap_or}
use Rattle.std.specs.List.{range_with_len}
use Rattle.cell_block.specs.declared.rows.BlockRows.{BlockRows}
use Rattle.cell_block.specs.declared.scene.TaskLine.{TaskLine}
use Rattle.cell_block.specs.Blocks.{Agrees}
use Rattle.cell_block.specs.Scene.{IsGoodScene, IsLineEdge}
use Rattle.qs_core.specs.Shape.{IsEdge, IsShape, Shape, TaskShape, edges_into}
use Rattle.task_graph.specs.declared.task.Task.{Task}
use Rattle.task_graph.specs.Graph.{Plan, task_at}
use Rattle.task_weight.specs.Paths.{after_of}
use Rattle.sph_step.specs.declared.stage.StagePlan.{StagePlan}

-- a task of the graph, as the work tells it
abbrev pub task_shape : Plan → ℕ → TaskShape
task_shape graph task = record {
  first = (task_at graph.tasks task).first;
  second = (task_at graph.tasks task).second;
  successors = after_of graph.successors task;
  weight = slice_index graph.weights task;
}

-- the cells, leaves and tasks, as the work tells them
abbrev pub shape_of : StagePlan → Shape
shape_of plan = record {
  parents = plan.parents.items;
  ranges = plan.ranges.items;
  leaves = length plan.scene.leaves;
  tasks = map (task_shape plan.graph) (range_with_len 0 (length plan.graph.tasks));
}

-- a block fits a leaf where it agrees with the scene there
abbrev pub fits_in : StagePlan → ℕ → BlockRows → Type 0
fits_in plan leaf block = Agrees plan.scene leaf block

-- a task by the leaves below its cells: by these ranges, one a cell, and by the plan's
abbrev pub range_in : List (ℕ × ℕ) → ℕ → ℕ × ℕ
range_in ranges cell = unwrap_or (slice_get ranges cell) (0, 0)

abbrev pub line_in : List (ℕ × ℕ) → Task → TaskLine
line_in ranges task = record { kind = task.kind; first = range_in ranges task.first; second = option_map (range_in ranges) task.second }

abbrev pub line_of : StagePlan → Task → TaskLine
line_of plan task = line_in plan.ranges.items task

-- what every stage keeps: its tasks are those of a good scene, and wait for one another as the scene's do
pub record IsStage (plan : StagePlan) : Type 0 where
  pub shape : IsShape (shape_of plan)
  pub scene : IsGoodScene plan.scene
  pub lines : plan.scene.tasks ≡ map (line_of plan) plan.graph.tasks
  pub edges : (before after : ℕ) → IsLineEdge plan.scene before after → IsEdge (shape_of plan) before after
  pub waits : (task : ℕ) → task < length plan.graph.tasks → slice_index plan.graph.waits task ≡ edges_into (shape_of plan) task
