-- The blocks of a whole run.
use Rattle.std.specs.Prelude.{ℕ, ◌<◌, List, length}
use Rattle.qs_core.specs.Shape.{Shape}
use Rattle.qs_core.specs.Blocks.{AreDone}

-- the blocks fit, and on each just the tasks that touch its leaf are done
abbrev pub AreAllDone : {B : Type 0} → Shape → (ℕ → B → Type 0) → (B → List ℕ) → List B → Type 0
AreAllDone shape fits done blocks = AreDone shape fits done (λ task. task < length shape.tasks) blocks
