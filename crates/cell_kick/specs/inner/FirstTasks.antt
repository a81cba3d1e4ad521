-- A block on which the tasks up to one are done, by their numbers, for the tests.
use Rattle.std.specs.Prelude.{◌≡◌, ℕ, ◌<◌, true, Contains}
use Rattle.cell_block.specs.declared.rows.BlockRows.{BlockRows}
use Rattle.cell_block.specs.declared.scene.Scene.{Scene}
use Rattle.cell_block.specs.Blocks.{Agrees, done_of}
use Rattle.cell_block.specs.Scene.{line_at, touches}

-- the block agrees, and of the tasks that touch its leaf just those below a number are done
pub record HasFirst (scene : Scene) (task leaf : ℕ) (block : BlockRows) : Type 0 where
  pub agrees : Agrees scene leaf block
  pub below : (t : ℕ) → Contains (done_of block) t → t < task
  pub done : (t : ℕ) → t < task → touches (line_at scene t) leaf ≡ true → Contains (done_of block) t
