-- When a block agrees with a scene, and what a task asks of it and leaves.
use Rattle.std.specs.Prelude.{◌≡◌, ℕ, ◌+◌, ◌-◌, ◌<◌, ◌↔◌, ◌⊎◌, List, true, map, filter, length, get_or, Contains}
use Rattle.std.specs.List.{range_with_len}
use Rattle.sph_num.specs.declared.particle.Particle.{Particle}
use Rattle.sph_num.specs.Pull.{Puller, puller}
use Rattle.cell_block.specs.declared.moving.Moving.{Moving}
use Rattle.cell_block.specs.declared.rows.BlockRows.{BlockRows}
use Rattle.cell_block.specs.declared.rows.Mark.{Mark}
use Rattle.cell_block.specs.declared.rows.Spot.{Spot}
use Rattle.cell_block.specs.declared.scene.Scene.{Scene}
use Rattle.cell_block.specs.Content.{Row, content}
use Rattle.cell_block.specs.Extents.{AreWithin}
use Rattle.cell_block.specs.Scene.{LinePrecedes, is_due_at, line_at, members_of, touches}

-- the tasks that are done on a block
abbrev pub done_of : BlockRows → List ℕ
done_of block = map (λ (m : Mark). m.task) (filter (λ (m : Mark). m.done) block.marks.items)

-- a task more is done
abbrev pub AreDoneWith : List ℕ → ℕ → List ℕ → Type 0
AreDoneWith done task done' = (t : ℕ) → Contains done' t ↔ (Contains done t ⊎ (t ≡ task))

-- a row as the block keeps it: its spot, its pull, and what a kick reads and writes of it
abbrev pub spot_of : Row → Spot
spot_of row = record { place = row.place; h = row.particle.h }

abbrev pub pull_of : Row → Puller
pull_of row = puller row.particle.h row.particle.mass row.particle.g

abbrev pub moving_of : Particle → Moving
moving_of i = record { mass = i.mass; h = i.h; x0 = i.x0; t0 = i.t0; p = i.p; q = i.q; bin = i.bin }

-- the block's flat lists hold these rows
pub record HoldsRows (block : BlockRows) (rows : List Row) : Type 0 where
  pub spots : block.spots.items ≡ map spot_of rows
  pub pulls : block.pulls.items ≡ map pull_of rows
  pub rhos : block.rhos.items ≡ map (λ (row : Row). row.particle.rho) rows
  pub forces : block.forces.items ≡ map (λ (row : Row). row.particle.f) rows
  pub moving : block.moving.items ≡ map (λ (row : Row). moving_of row.particle) rows

-- the tasks that touch a leaf, rising
abbrev pub tasks_at : Scene → ℕ → List ℕ
tasks_at scene leaf = filter (λ task. touches (line_at scene task) leaf) (range_with_len 0 (length scene.tasks))

-- a block agrees with a scene at a leaf: it is the leaf's, keeps the tasks that touch it, holds what the scene gives for the done ones,
-- and keeps a box in which its members stand
pub record Agrees (scene : Scene) (leaf : ℕ) (block : BlockRows) : Type 0 where
  pub number : block.leaf ≡ leaf
  pub members : block.members.items ≡ members_of scene leaf
  pub due : block.due.items ≡ map (is_due_at scene) (members_of scene leaf)
  pub tasks : map (λ (m : Mark). m.task) block.marks.items ≡ tasks_at scene leaf
  pub rows : HoldsRows block (content scene leaf (done_of block))
  pub extent : AreWithin block.extent block.spots.items

-- the block is ready for a task: it agrees, hasn't the task done, and has done every task before it that touches the leaf
pub record IsReady (scene : Scene) (task leaf : ℕ) (block : BlockRows) : Type 0 where
  pub agrees : Agrees scene leaf block
  pub not_done : Contains (done_of block) task → ⊥
  pub before : (earlier : ℕ) → LinePrecedes scene earlier task → touches (line_at scene earlier) leaf ≡ true → Contains (done_of block) earlier

-- the task was added to those that are done, and nothing else changed: the block agrees again
pub record IsAdded (scene : Scene) (task leaf : ℕ) (before after : BlockRows) : Type 0 where
  pub agrees : Agrees scene leaf after
  pub tasks : AreDoneWith (done_of before) task (done_of after)

-- the same of the blocks of a range of leaves, in order
pub record AreReady (scene : Scene) (task : ℕ) (range : ℕ × ℕ) (blocks : List BlockRows) : Type 0 where
  pub one_each : length blocks ≡ range.1 - range.0
  pub ready : (k : ℕ) (d : BlockRows) → k < length blocks → IsReady scene task (range.0 + k) (get_or blocks k d)

pub record AreAdded (scene : Scene) (task : ℕ) (range : ℕ × ℕ) (before after : List BlockRows) : Type 0 where
  pub one_each : length after ≡ length before
  pub added : (k : ℕ) (d : BlockRows) → k < length before → IsAdded scene task (range.0 + k) (get_or before k d) (get_or after k d)
