-- What a task on a leaf makes of each of its members.
use Rattle.std.specs.Prelude.{◌≡◌, ℕ, ◌<◌, ◌≤◌, Bool, false, if◌then◌else◌, ℤ, List, [], length, get_or}
use Rattle.sph_num.specs.declared.particle.Particle.{Particle}
use Rattle.sph_num.specs.Force.{ghost_value}
use Rattle.sph_num.specs.Motion.{IsMomentum}
use Rattle.sph_num.specs.Pull.{Puller, puller}
use Rattle.sph_bins.specs.Kick.{kicked_with}
use Rattle.cell_block.specs.declared.moving.Moving.{Moving}
use Rattle.cell_block.specs.declared.rows.Spot.{Spot}
use Rattle.cell_block.specs.declared.scene.Scene.{Scene}
use Rattle.cell_block.specs.Blocks.{moving_of}
use Rattle.cell_block.specs.Reading.{with_sums}
use Rattle.cell_block.specs.Scene.{particle_at, place_of}
use Rattle.cell_kick.specs.declared.members.Summed.{Summed}

-- each element is what is made of its index and of what stood there
pub record AreEach {X : Type 0} (made : ℕ → X → X) (before after : List X) : Type 0 where
  pub same_length : length after ≡ length before
  pub each : (k : ℕ) (d : X) → k < length before → get_or after k d ≡ made k (get_or before k d)

-- where a particle stands at the tick
abbrev pub tick_spot : Scene → ℕ → Spot
tick_spot scene i = record { place = place_of scene (particle_at scene i); h = (particle_at scene i).h }

abbrev pub spots_at : Scene → List ℕ → ℕ → Spot → Spot
spots_at scene members k spot = tick_spot scene (get_or members k 0)

-- a pull with the ghost of the density, where the member is due
abbrev pub ghosted : ℕ → Bool → ℕ → Puller → Puller
ghosted sound due rho pull = if due then puller pull.h pull.mass (ghost_value sound rho) else pull

abbrev pub ghosts_at : ℕ → List Bool → List ℕ → ℕ → Puller → Puller
ghosts_at sound due rhos k pull = ghosted sound (get_or due k false) (get_or rhos k 0) pull

-- the lists have an element for each member
pub record AreSummed (summed : Summed) (members : ℕ) : Type 0 where
  pub spots : length summed.spots.now ≡ members
  pub due : length summed.due.now ≡ members
  pub forces : length summed.forces.now ≡ members

-- what the lists say of the member at a place
abbrev pub place_at_index : Summed → ℕ → List ℕ
place_at_index summed k = (get_or summed.spots.now k (record { place = []; h = 0 })).place

abbrev pub force_at_index : Summed → ℕ → List ℤ
force_at_index summed k = get_or summed.forces.now k []

-- a member with a force, where neither its density nor its ghost matters
abbrev pub with_force : Moving → List ℤ → Particle
with_force member f = with_sums member 0 0 f

-- a member can be kicked: it stands at its place at the tick, and nothing of it is too large
pub record CanKick (scene : Scene) (summed : Summed) (k : ℕ) (member : Moving) : Type 0 where
  pub bin : member.bin ≤ 10
  pub place : place_at_index summed k ≡ place_of scene (with_force member (force_at_index summed k))
  pub force : IsMomentum (force_at_index summed k)
  pub momentum : IsMomentum member.p

-- what the kick by a force leaves of a member
abbrev pub kicked_by : Scene → List ℤ → Moving → Moving
kicked_by scene f member = moving_of (kicked_with scene.params scene.tick (with_force member f) 0 0 f)

abbrev pub kick_at : Scene → Summed → ℕ → Moving → Moving
kick_at scene summed k member = if get_or summed.due.now k false then kicked_by scene (force_at_index summed k) member else member
