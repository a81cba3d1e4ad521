-- The blocks of leaves on which nothing is done, made by parts: each part has the leaves of a range.
use Rattle.std.specs.Prelude.{◌≡◌, ℕ, ◌+◌, ◌-◌, ◌*◌, ◌/◌, List, [], length, IfOk, Result, Vec}
use Rattle.std.specs.declared.alloc.AllocError.{AllocError}
use Rattle.std.specs.declared.alloc.Global.{Global}
use Rattle.cell_block.specs.declared.rows.BlockRows.{BlockRows}
use Rattle.cell_block.specs.declared.scene.Scene.{Scene}
use Rattle.cell_block.specs.Blocks.{Agrees, done_of}
use Rattle.sph_step.specs.inner.Told.{AreFilled}

-- the block agrees with the scene at the leaf, and nothing is done on it
abbrev pub IsFreshAt : Scene → ℕ → BlockRows → Type 0
IsFreshAt scene leaf block = Agrees scene leaf block × (done_of block ≡ [])

-- the blocks of the leaves from one number up to another, which is excluded, in order
abbrev pub AreFreshIn : Scene → ℕ → ℕ → List BlockRows → Type 0
AreFreshIn scene from upto blocks = AreFilled (λ k block. IsFreshAt scene (from + k) block) (upto - from) blocks

-- the leaf with which a part begins, of so many leaves in so many parts
abbrev pub start_of : ℕ → ℕ → ℕ → ℕ
start_of leaves parts part = part * leaves / parts

-- the blocks of a part
abbrev pub AreOfPart : Scene → ℕ → ℕ → List BlockRows → Type 0
AreOfPart scene parts part blocks = AreFreshIn scene (start_of (length scene.leaves) parts part) (start_of (length scene.leaves) parts (part + 1)) blocks

-- those of each part in order, where it was made
abbrev pub AreParts : Scene → ℕ → List (Result (Vec BlockRows Global) AllocError) → Type 0
AreParts scene parts made = AreFilled (λ part result. IfOk result (λ blocks. AreOfPart scene parts part blocks.items)) parts made
