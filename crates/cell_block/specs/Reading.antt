-- What a block tells of a member, and a block with a task marked as done.
use Rattle.std.specs.Prelude.{◌≡◌, ℕ, ◌==◌, true, if◌then◌else◌, ℤ, List, [], map, length, slice_index, slice_index_or}
use Rattle.sph_num.specs.declared.particle.Particle.{Particle}
use Rattle.sph_num.specs.Pull.{puller}
use Rattle.sph_num.specs.Totals.{zero_vector}
use Rattle.cell_block.specs.declared.moving.Moving.{Moving}
use Rattle.cell_block.specs.declared.rows.BlockRows.{BlockRows}
use Rattle.cell_block.specs.declared.rows.Mark.{Mark}
use Rattle.cell_block.specs.Blocks.{moving_of}
use Rattle.cell_block.specs.Scene.{no_particle}

-- each list of the block has an element for each member
pub record IsWhole (block : BlockRows) : Type 0 where
  pub spots : length block.spots.items ≡ length block.members.items
  pub pulls : length block.pulls.items ≡ length block.members.items
  pub due : length block.due.items ≡ length block.members.items
  pub rhos : length block.rhos.items ≡ length block.members.items
  pub forces : length block.forces.items ≡ length block.members.items
  pub moving : length block.moving.items ≡ length block.members.items

-- where the member at a place of the leaf stands
abbrev pub place_of_member : BlockRows → ℕ → List ℕ
place_of_member block k = (slice_index_or block.spots.items k (record { place = []; h = 0 })).place

-- a particle with this density, this ghost and this force
abbrev pub with_sums : Moving → ℕ → ℕ → List ℤ → Particle
with_sums i rho g f = record { mass = i.mass; h = i.h; x0 = i.x0; t0 = i.t0; p = i.p; q = i.q; f = f; rho = rho; g = g; bin = i.bin }

abbrev pub no_moving : Moving
no_moving = moving_of no_particle

-- the member, with the density, the ghost and the force that stand in the lists
abbrev pub member_of : BlockRows → ℕ → Particle
member_of block k =
    with_sums (slice_index_or block.moving.items k no_moving) (slice_index block.rhos.items k) (slice_index_or block.pulls.items k (puller 0 0 0)).g (slice_index_or block.forces.items k zero_vector)

-- the tasks that the block keeps
abbrev pub tasks_of : BlockRows → List ℕ
tasks_of block = map (λ (m : Mark). m.task) block.marks.items

-- a mark, where a task is done
abbrev pub with_done : ℕ → Mark → Mark
with_done task m = if m.task == task then record m { done = true } else m
