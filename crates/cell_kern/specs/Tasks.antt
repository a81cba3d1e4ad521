-- A task on two ranges of leaves.
use Rattle.std.specs.Prelude.{ℕ, unwrap_or}
use Rattle.cell_block.specs.declared.scene.TaskLine.{TaskLine}

-- the second range of leaves of a task that has two
abbrev pub second_of : TaskLine → ℕ × ℕ
second_of line = unwrap_or line.second (0, 0)
