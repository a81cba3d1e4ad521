-- What a block holds of particle i before any task is done: a due particle's sums are not begun.
use Rattle.std.specs.Prelude.{◌≡◌, ℕ, false, if◌then◌else◌, ℤ, List, map}
use Rattle.sph_num.specs.Pull.{Puller, puller}
use Rattle.sph_num.specs.Totals.{zero_vector}
use Rattle.cell_block.specs.declared.moving.Moving.{Moving}
use Rattle.cell_block.specs.declared.rows.Mark.{Mark}
use Rattle.cell_block.specs.declared.rows.Spot.{Spot}
use Rattle.cell_block.specs.declared.scene.Scene.{Scene}
use Rattle.cell_block.specs.Blocks.{moving_of}
use Rattle.cell_block.specs.Scene.{is_due_at, particle_at, place_of}

abbrev pub first_spot : Scene → ℕ → Spot
first_spot scene i =
    let particle = particle_at scene i in
    record { place = if scene.drift then particle.x0 else place_of scene particle; h = particle.h }

abbrev pub first_pull : Scene → ℕ → Puller
first_pull scene i = let particle = particle_at scene i in puller particle.h particle.mass particle.g

abbrev pub first_rho : Scene → ℕ → ℕ
first_rho scene i = if is_due_at scene i then 0 else (particle_at scene i).rho

abbrev pub first_force : Scene → ℕ → List ℤ
first_force scene i = if is_due_at scene i then zero_vector else (particle_at scene i).f

abbrev pub first_moving : Scene → ℕ → Moving
first_moving scene i = moving_of (particle_at scene i)

-- what a function gives for each of some members, in their order, where it gives the value of a definition
abbrev pub AreGiven : {T : Type 0} → (ℕ → T → Type 0) → List ℕ → List T → Type 0
AreGiven {T} gives members given = (f : ℕ → T) → ((i : ℕ) (x : T) → gives i x → x ≡ f i) → given ≡ map f members

-- a task that isn't done
abbrev pub not_done : ℕ → Mark
not_done task = record { task = task; done = false }
