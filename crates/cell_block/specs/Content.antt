-- What a leaf's block holds once some tasks are done on it: sums over the particles that these tasks bring together, in no order.
use Rattle.std.specs.Prelude.{ℕ, ◌&&◌, not, Bool, if◌then◌else◌, List, map, filter, length}
use Rattle.std.specs.List.{list_any, range_with_len}
use Rattle.sph_num.specs.declared.kind.Kind.{Kind}
use Rattle.sph_num.specs.declared.kind.Kind.TheVariants.{Drift, Density, Ghost, Force, Kick}
use Rattle.sph_num.specs.declared.particle.Particle.{Particle}
use Rattle.sph_num.specs.Cover.{meets}
use Rattle.sph_num.specs.Density.{density_of}
use Rattle.sph_num.specs.Force.{force_of}
use Rattle.sph_num.specs.Kinds.{same_kind}
use Rattle.sph_bins.specs.Kick.{ghost_at, kicked}
use Rattle.cell_block.specs.declared.scene.Scene.{Scene}
use Rattle.cell_block.specs.Scene.{group_of, is_due_at, line_at, members_of, particle_at, place_of, touches}

-- a task of this kind that touches the leaf is done
abbrev pub is_done_on : Scene → Kind → ℕ → List ℕ → Bool
is_done_on scene kind leaf done = list_any (λ task. same_kind (line_at scene task).kind kind && touches (line_at scene task) leaf) done

-- the particles that a done task of this kind brings together with particle i
abbrev pub met : Scene → Kind → List ℕ → ℕ → List Particle
met scene kind done i =
    map
    (particle_at scene)
    (filter
    (λ j. list_any (λ task. same_kind (line_at scene task).kind kind && meets kind i j (group_of scene (line_at scene task))) done)
    (range_with_len 0 (length scene.start)))

-- a row: where a particle is, and what is known of it
pub record Row : Type 0 where
  pub place : List ℕ
  pub particle : Particle

-- the place at the tick, but where a drift is still to take it there
abbrev pub place_in : Scene → ℕ → List ℕ → Particle → List ℕ
place_in scene leaf done particle = if scene.drift && not (is_done_on scene Drift leaf done) then particle.x0 else place_of scene particle

-- a due particle as far as it is kicked
abbrev pub kicked_in : Scene → ℕ → List ℕ → Particle → Particle
kicked_in scene leaf done particle =
    if is_done_on scene Kick leaf done then kicked scene.params scene.tick scene.start particle else particle

-- with its density and its force as far as they are summed, and with the ghost once it is made
abbrev pub summed_in : Scene → ℕ → List ℕ → ℕ → Particle
summed_in scene leaf done i =
    let particle = particle_at scene i in
    record (kicked_in scene leaf done particle) {
      rho = density_of (place_of scene) (met scene Density done i) particle;
      g = if is_done_on scene Ghost leaf done then ghost_at scene.params scene.tick scene.start particle else particle.g;
      f = force_of (place_of scene) (ghost_at scene.params scene.tick scene.start) (met scene Force done i) particle;
    }

abbrev pub row_of : Scene → ℕ → List ℕ → ℕ → Row
row_of scene leaf done i = record {
  place = place_in scene leaf done (particle_at scene i);
  particle = if is_due_at scene i then summed_in scene leaf done i else particle_at scene i;
}

-- a row for each member of the leaf
abbrev pub content : Scene → ℕ → List ℕ → List Row
content scene leaf done = map (row_of scene leaf done) (members_of scene leaf)
