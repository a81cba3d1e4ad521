-- What a gather writes for one block.
use Rattle.std.specs.Prelude.{◌≡◌, ℕ, ◌<◌, List, length, slice_index, slice_index_or, Contains}
use Rattle.sph_num.specs.declared.particle.Particle.{Particle}
use Rattle.cell_block.specs.declared.rows.BlockRows.{BlockRows}
use Rattle.cell_block.specs.Reading.{member_of}
use Rattle.cell_block.specs.Scene.{no_particle}

-- so many of a block's members stand at their indices, and what is no member's is as it was
pub record ArePut (block : BlockRows) (count : ℕ) (old new : List Particle) : Type 0 where
  pub same_length : length new ≡ length old
  pub members : (k : ℕ) → k < count → slice_index_or new (slice_index block.members.items k) no_particle ≡ member_of block k
  pub others : (i : ℕ) → (Contains block.members.items i → ⊥) → slice_index_or new i no_particle ≡ slice_index_or old i no_particle
