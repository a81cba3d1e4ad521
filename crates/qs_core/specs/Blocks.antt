-- The blocks of a work: what a task asks of those of its leaves and what it leaves, and one block for each leaf.
use Rattle.std.specs.Prelude.{◌≡◌, ℕ, ◌<◌, ◌⊎◌, ◌↔◌, List, [], length, get_or, Contains}
use Rattle.qs_core.specs.Shape.{Shape, Precedes, Touches, leaves_below, leaves_of_other, task_at}

-- a block of a leaf with the tasks that are done on it: it fits, hasn't the task done, and has done every task before it that touches the leaf
pub record IsApplicable (shape : Shape) (task leaf : ℕ) (fits : Type 0) (done : List ℕ) : Type 0 where
  pub fitting : fits
  pub not_done : Contains done task → ⊥
  pub before : (earlier : ℕ) → Precedes shape earlier task → Touches shape earlier leaf → Contains done earlier

-- the task was done beside those before
pub record IsApplied (task : ℕ) (fits : Type 0) (before after : List ℕ) : Type 0 where
  pub fitting : fits
  pub tasks : (t : ℕ) → (Contains after t ↔ (Contains before t ⊎ (t ≡ task)))

module _ {B : Type 0} (shape : Shape) (task : ℕ) (fits : ℕ → B → Type 0) (done : B → List ℕ) where
  -- the blocks are those of the leaves, in order, and each is ready for the task
  pub record AreApplicable (leaves : List ℕ) (blocks : List B) : Type 0 where
    pub one_each : length blocks ≡ length leaves
    pub ready : (k : ℕ) (d : B) → k < length leaves → IsApplicable shape task (get_or leaves k 0) (fits (get_or leaves k 0) (get_or blocks k d)) (done (get_or blocks k d))

  -- to each of them the task was added
  pub record AreApplied (leaves : List ℕ) (before after : List B) : Type 0 where
    pub one_each : length after ≡ length before
    pub added : (k : ℕ) (d : B) → k < length leaves → IsApplied task (fits (get_or leaves k 0) (get_or after k d)) (done (get_or before k d)) (done (get_or after k d))

-- the leaves of a task's first cell, and of its second
abbrev pub first_leaves : Shape → ℕ → List ℕ
first_leaves shape task = leaves_below shape (task_at shape task).first

abbrev pub second_leaves : Shape → ℕ → List ℕ
second_leaves shape task = leaves_of_other shape (task_at shape task).second

-- one block for each leaf, in order, and each fits
pub record AreFitting {B : Type 0} (shape : Shape) (fits : ℕ → B → Type 0) (blocks : List B) : Type 0 where
  pub one_each : length blocks ≡ shape.leaves
  pub each : (leaf : ℕ) (d : B) → leaf < shape.leaves → fits leaf (get_or blocks leaf d)

module _ {B : Type 0} (shape : Shape) (fits : ℕ → B → Type 0) (done : B → List ℕ) where
  -- they fit, and nothing is done on them
  pub record AreFresh (blocks : List B) : Type 0 where
    pub fitting : AreFitting shape fits blocks
    pub none_done : (leaf : ℕ) (d : B) → leaf < shape.leaves → done (get_or blocks leaf d) ≡ []

  -- they fit, and of the tasks that touch a leaf just these are done on its block
  pub record AreDone (which : ℕ → Type 0) (blocks : List B) : Type 0 where
    pub fitting : AreFitting shape fits blocks
    pub tasks : (leaf : ℕ) (d : B) → leaf < shape.leaves → (task : ℕ) → (Contains (done (get_or blocks leaf d)) task ↔ (which task × Touches shape task leaf))
