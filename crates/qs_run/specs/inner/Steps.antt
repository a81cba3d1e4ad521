-- What one task asks of the blocks of all leaves, and what it makes of them.
use Rattle.std.specs.Prelude.{◌≡◌, ℕ, ◌<◌, List, length, get_or}
use Rattle.qs_core.specs.Shape.{Shape, Touches}
use Rattle.qs_core.specs.Blocks.{IsApplied, IsApplicable}

module _ {B : Type 0} (shape : Shape) (task : ℕ) (fits : ℕ → B → Type 0) (done : B → List ℕ) where
  -- the blocks of the leaves that the task touches are ready for it
  pub record CanDo (blocks : List B) : Type 0 where
    pub one_each : length blocks ≡ shape.leaves
    pub ready : (leaf : ℕ) (d : B) → leaf < shape.leaves → Touches shape task leaf → IsApplicable shape task leaf (fits leaf (get_or blocks leaf d)) (done (get_or blocks leaf d))

  -- to these the task was added, and the others stayed
  pub record IsDoneOn (before after : List B) : Type 0 where
    pub one_each : length after ≡ length before
    pub added : (leaf : ℕ) (d : B) → Touches shape task leaf → IsApplied task (fits leaf (get_or after leaf d)) (done (get_or before leaf d)) (done (get_or after leaf d))
    pub others : (leaf : ℕ) (d : B) → (Touches shape task leaf → ⊥) → get_or after leaf d ≡ get_or before leaf d
