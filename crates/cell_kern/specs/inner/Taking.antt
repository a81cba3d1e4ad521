-- What a loop over blocks leaves of each: the sums of its members after what others gave to them.
use Rattle.std.specs.Prelude.{◌≡◌, ℕ, ◌+◌, ◌*◌, ◌^◌, ◌<◌, ◌≤◌, List, All, Contains, length, get_or}
use Rattle.sph_num.specs.Ranges.{most_particles}
use Rattle.sph_num.specs.declared.kind.Kind.{Kind}
use Rattle.sph_num.specs.declared.kind.Kind.TheVariants.{Density, Force}
use Rattle.cell_block.specs.declared.rows.BlockRows.{BlockRows}
use Rattle.cell_block.specs.Extents.{AreWithin}
use Rattle.cell_block.specs.Reading.{tasks_of}
use Rattle.cell_block.specs.Tasks.{IsMarked}
use Rattle.cell_kern.specs.declared.members.Member.{Member}
use Rattle.cell_kern.specs.inner.Gathered.{AreBelow, AreNarrow, IsSound, force_given, gathered, members, rho_given}

-- the two kinds of sums of a block's members
pub data Sums : Type 0 where
  Densities : Sums
  Forces : Sums

-- the members of a block
abbrev pub rows_in : BlockRows → List Member
rows_in block = members block.spots.items block.pulls.items block.due.items

-- a block after what these members gave to each of its own: only its sums are other ones
pub record HasRhos (before : BlockRows) (from : List Member) (after : BlockRows) : Type 0 where
  pub rhos : after.rhos.items ≡ gathered rho_given (rows_in before) from before.rhos.items
  pub unchanged : record after { rhos = before.rhos } ≡ before

pub record HasForces (before : BlockRows) (from : List Member) (after : BlockRows) : Type 0 where
  pub forces : after.forces.items ≡ gathered force_given (rows_in before) from before.forces.items
  pub unchanged : record after { forces = before.forces } ≡ before

abbrev pub IsGiven : Sums → BlockRows → List Member → BlockRows → Type 0
IsGiven Densities before from after = HasRhos before from after
IsGiven Forces before from after = HasForces before from after

-- the same of each of some blocks
pub record AreGivenTo (sums : Sums) (before : List BlockRows) (from : List Member) (after : List BlockRows) : Type 0 where
  pub same_length : length after ≡ length before
  pub given : (k : ℕ) (d : BlockRows) → k < length before → IsGiven sums (get_or before k d) from (get_or after k d)

-- the sums of a block's due members have room: the more, the lower the level
abbrev pub HasRoom : Sums → ℕ → BlockRows → Type 0
HasRoom Densities level block = AreBelow ((1 + level) * 2 ^ 61) (rows_in block) block.rhos.items
HasRoom Forces level block = AreNarrow ((1 + level) * 2 ^ 112) (rows_in block) block.forces.items

-- a block can take sums: its lists are of one length, its members are in range and stand in its box, and there is room
pub record CanTake (sums : Sums) (level : ℕ) (block : BlockRows) : Type 0 where
  pub pulls : length block.pulls.items ≡ length block.spots.items
  pub due : length block.due.items ≡ length block.spots.items
  pub rhos : length block.rhos.items ≡ length block.spots.items
  pub forces : length block.forces.items ≡ length block.spots.items
  pub few : length block.spots.items ≤ most_particles
  pub sound : All IsSound (rows_in block)
  pub extent : AreWithin block.extent block.spots.items
  pub room : HasRoom sums level block

abbrev pub CanTakeAll : Sums → ℕ → List BlockRows → Type 0
CanTakeAll sums level blocks = (k : ℕ) (d : BlockRows) → k < length blocks → CanTake sums level (get_or blocks k d)

-- the kind of the tasks that add to these sums
abbrev pub kind_of : Sums → Kind
kind_of Densities = Density
kind_of Forces = Force

-- each of some blocks after a task was marked as done on it
pub record AreMarked (task : ℕ) (before after : List BlockRows) : Type 0 where
  pub same_length : length after ≡ length before
  pub marked : (k : ℕ) (d : BlockRows) → k < length before → IsMarked task (get_or before k d) (get_or after k d)

-- each block keeps the task
abbrev pub KeepTask : ℕ → List BlockRows → Type 0
KeepTask task blocks = (k : ℕ) (d : BlockRows) → k < length blocks → Contains (tasks_of (get_or blocks k d)) task
