-- A task of a scene by its kind, and a block on which it was marked as done.
use Rattle.std.specs.Prelude.{◌≡◌, ℕ, ◌<◌, length, map}
use Rattle.sph_num.specs.declared.kind.Kind.{Kind}
use Rattle.cell_block.specs.declared.rows.BlockRows.{BlockRows}
use Rattle.cell_block.specs.declared.scene.Scene.{Scene}
use Rattle.cell_block.specs.Blocks.{AreDoneWith, done_of}
use Rattle.cell_block.specs.Reading.{with_done}
use Rattle.cell_block.specs.Scene.{line_at}

-- the number is a task's, and the task is of the kind
pub record IsTask (scene : Scene) (kind : Kind) (task : ℕ) : Type 0 where
  pub number : task < length scene.tasks
  pub is_kind : (line_at scene task).kind ≡ kind

-- a block after a task was marked as done on it
pub record IsMarked (task : ℕ) (before after : BlockRows) : Type 0 where
  pub marks : after.marks.items ≡ map (with_done task) before.marks.items
  pub unchanged : record after { marks = before.marks } ≡ before
  pub done : AreDoneWith (done_of before) task (done_of after)
