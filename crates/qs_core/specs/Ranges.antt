-- The leaves of a task as two ranges.
use Rattle.std.specs.Prelude.{◌≡◌, ℕ, ◌-◌, ◌<◌, ◌≤◌, ◌⊎◌}
use Rattle.std.specs.List.{range_with_len}
use Rattle.qs_core.specs.Shape.{Shape}
use Rattle.qs_core.specs.Blocks.{first_leaves, second_leaves}

-- the leaves of a task's first cell, and of its second, which may be none: one of the ranges ends before the other begins
pub record AreLeafRanges (shape : Shape) (task from to from' to' : ℕ) : Type 0 where
  pub some : from < to
  pub rises' : from' ≤ to'
  pub within : to ≤ shape.leaves
  pub within' : to' ≤ shape.leaves
  pub apart : (to ≤ from') ⊎ (to' ≤ from)
  pub leaves : first_leaves shape task ≡ range_with_len from (to - from)
  pub leaves' : second_leaves shape task ≡ range_with_len from' (to' - from')
