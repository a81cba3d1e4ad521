-- What each list of a block holds, by what is done on it.
use Rattle.std.proofs.Common.{◌≡◌, ℕ, ◌&&◌, not, Bool, true, false, if◌then◌else◌, List, map, refl, ap, ◌∙◌, sym}
use Rattle.std.specs.Prelude.{ℤ}
use Rattle.std.proofs.lemmas.Bool.{both_ways}
use Rattle.sph_num.specs.declared.kind.Kind.TheVariants.{Drift, Density, Ghost, Force, Kick}
use Rattle.sph_num.specs.declared.particle.Particle.{Particle}
use Rattle.sph_num.specs.Density.{density_of}
use Rattle.sph_num.specs.Force.{force_of}
use Rattle.sph_num.specs.Pull.{Puller, puller}
use Rattle.sph_bins.specs.Kick.{ghost_at, kicked}
use Rattle.cell_block.specs.declared.moving.Moving.{Moving}
use Rattle.cell_block.specs.declared.rows.BlockRows.{BlockRows}
use Rattle.cell_block.specs.declared.rows.Spot.{Spot}
use Rattle.cell_block.specs.declared.scene.Scene.{Scene}
use Rattle.cell_block.specs.Blocks.{HoldsRows, pull_of, moving_of, spot_of}
use Rattle.cell_block.specs.Content.{Row, content, is_done_on, met, row_of, summed_in}
use Rattle.cell_block.specs.Scene.{is_due_at, members_of, particle_at, place_of}
use Rattle.cell_block.proofs.FirstRows.{alike, map-map, of_either}

-- what stands in each list for a particle: its spot, where a drift is done or not; its pull, with the new ghost or the old; the density
-- and the force, of those whom it met; and what a kick reads and writes, kicked or not
abbrev pub spot_with : Scene → Bool → ℕ → Spot
spot_with scene drifted i =
    let p = particle_at scene i in
    record { place = if scene.drift && not drifted then p.x0 else place_of scene p; h = p.h }

abbrev pub pull_with : Scene → Bool → ℕ → Puller
pull_with scene made i =
    let p = particle_at scene i in
    puller p.h p.mass (if is_due_at scene i then (if made then ghost_at scene.params scene.tick scene.start p else p.g) else p.g)

abbrev pub rho_with : Scene → List Particle → ℕ → ℕ
rho_with scene others i = let p = particle_at scene i in if is_due_at scene i then density_of (place_of scene) others p else p.rho

abbrev pub force_with : Scene → List Particle → ℕ → List ℤ
force_with scene others i = let p = particle_at scene i in if is_due_at scene i then force_of (place_of scene) (ghost_at scene.params scene.tick scene.start) others p else p.f

abbrev pub moving_with : Scene → Bool → ℕ → Moving
moving_with scene kicks i =
    let p = particle_at scene i in
    moving_of (if is_due_at scene i then (if kicks then kicked scene.params scene.tick scene.start p else p) else p)

-- a kick changes neither mass nor length
kicked_mass : (b : Bool) (scene : Scene) (p : Particle) → (if b then kicked scene.params scene.tick scene.start p else p).mass ≡ p.mass
unfolding kicked
kicked_mass true scene p = refl
kicked_mass false scene p = refl

kicked_h : (b : Bool) (scene : Scene) (p : Particle) → (if b then kicked scene.params scene.tick scene.start p else p).h ≡ p.h
unfolding kicked
kicked_h true scene p = refl
kicked_h false scene p = refl

pub row_h : (scene : Scene) (leaf : ℕ) (done : List ℕ) (i : ℕ) → (row_of scene leaf done i).particle.h ≡ (particle_at scene i).h
row_h scene leaf done i = alike (λ p. p.h) (is_due_at scene i) (summed_in scene leaf done i) (particle_at scene i) (kicked_h (is_done_on scene Kick leaf done) scene (particle_at scene i))

pub row_mass : (scene : Scene) (leaf : ℕ) (done : List ℕ) (i : ℕ) → (row_of scene leaf done i).particle.mass ≡ (particle_at scene i).mass
row_mass scene leaf done i = alike (λ p. p.mass) (is_due_at scene i) (summed_in scene leaf done i) (particle_at scene i) (kicked_mass (is_done_on scene Kick leaf done) scene (particle_at scene i))

-- so each list depends on one kind of task
abbrev the_spot : List ℕ → ℕ → Spot
the_spot place h = record { place = place; h = h }

row_spot : (scene : Scene) (leaf : ℕ) (done : List ℕ) (i : ℕ) → spot_of (row_of scene leaf done i) ≡ spot_with scene (is_done_on scene Drift leaf done) i
row_spot scene leaf done i = ap (the_spot (row_of scene leaf done i).place) (row_h scene leaf done i)

row_pull : (scene : Scene) (leaf : ℕ) (done : List ℕ) (i : ℕ) → pull_of (row_of scene leaf done i) ≡ pull_with scene (is_done_on scene Ghost leaf done) i
row_pull scene leaf done i =
    let row = row_of scene leaf done i in
    let p = particle_at scene i in
    ap (λ h. puller h row.particle.mass row.particle.g) (row_h scene leaf done i) ∙ ap (λ m. puller p.h m row.particle.g) (row_mass scene leaf done i)
    ∙ ap (puller p.h p.mass) (of_either (λ q. q.g) (is_due_at scene i) (summed_in scene leaf done i) p _ refl)

pub row_rho : (scene : Scene) (leaf : ℕ) (done : List ℕ) (i : ℕ) → (row_of scene leaf done i).particle.rho ≡ rho_with scene (met scene Density done i) i
row_rho scene leaf done i = of_either (λ q. q.rho) (is_due_at scene i) (summed_in scene leaf done i) (particle_at scene i) _ refl

pub row_force : (scene : Scene) (leaf : ℕ) (done : List ℕ) (i : ℕ) → (row_of scene leaf done i).particle.f ≡ force_with scene (met scene Force done i) i
row_force scene leaf done i = of_either (λ q. q.f) (is_due_at scene i) (summed_in scene leaf done i) (particle_at scene i) _ refl

moving_either : (due : Bool) (s q p : Particle) → moving_of s ≡ moving_of q → moving_of (if due then s else p) ≡ moving_of (if due then q else p)
moving_either true s q p same = same
moving_either false s q p same = refl

row_moving : (scene : Scene) (leaf : ℕ) (done : List ℕ) (i : ℕ) → moving_of (row_of scene leaf done i).particle ≡ moving_with scene (is_done_on scene Kick leaf done) i
row_moving scene leaf done i = moving_either (is_due_at scene i) (summed_in scene leaf done i) _ (particle_at scene i) refl

-- where a drift is done, a particle stands at its place
pub where_drifted : (drift done : Bool) (x y : List ℕ) → (drift ≡ true → done ≡ true) → (if drift && not done then x else y) ≡ y
where_drifted false done x y is = refl
where_drifted true true x y is = refl
where_drifted true false x y is = absurd (both_ways false refl (is refl))

-- what the lists of a block hold, where a drift, a ghost and a kick are done or not, by whom each member met in densities and in forces
pub record HoldsParts (scene : Scene) (leaf : ℕ) (drifted made kicks : Bool) (in_densities in_forces : ℕ → List Particle) (block : BlockRows) : Type 0 where
  pub spots : block.spots.items ≡ map (spot_with scene drifted) (members_of scene leaf)
  pub pulls : block.pulls.items ≡ map (pull_with scene made) (members_of scene leaf)
  pub rhos : block.rhos.items ≡ map (λ i. rho_with scene (in_densities i) i) (members_of scene leaf)
  pub forces : block.forces.items ≡ map (λ i. force_with scene (in_forces i) i) (members_of scene leaf)
  pub moving : block.moving.items ≡ map (moving_with scene kicks) (members_of scene leaf)

pub parts_held : (scene : Scene) (leaf : ℕ) (done : List ℕ) (block : BlockRows) → HoldsRows block (content scene leaf done)
    → HoldsParts scene leaf (is_done_on scene Drift leaf done) (is_done_on scene Ghost leaf done) (is_done_on scene Kick leaf done) (λ i. met scene Density done i) (λ i. met scene Force done i) block
parts_held scene leaf done block rows =
    let ms = members_of scene leaf in
    let row = row_of scene leaf done in
    record {
      spots = rows.spots ∙ map-map spot_of row (spot_with scene (is_done_on scene Drift leaf done)) (row_spot scene leaf done) ms;
      pulls = rows.pulls ∙ map-map pull_of row (pull_with scene (is_done_on scene Ghost leaf done)) (row_pull scene leaf done) ms;
      rhos = rows.rhos ∙ map-map (λ (r : Row). r.particle.rho) row (λ i. rho_with scene (met scene Density done i) i) (row_rho scene leaf done) ms;
      forces = rows.forces ∙ map-map (λ (r : Row). r.particle.f) row (λ i. force_with scene (met scene Force done i) i) (row_force scene leaf done) ms;
      moving = rows.moving ∙ map-map (λ (r : Row). moving_of r.particle) row (moving_with scene (is_done_on scene Kick leaf done)) (row_moving scene leaf done) ms;
    }

-- what is done on a leaf, as far as the lists depend on it
pub record AreDone (scene : Scene) (leaf : ℕ) (done : List ℕ) (drifted made kicks : Bool) (in_densities in_forces : ℕ → List Particle) : Type 0 where
  pub drift : is_done_on scene Drift leaf done ≡ drifted
  pub ghosted : is_done_on scene Ghost leaf done ≡ made
  pub kicked : is_done_on scene Kick leaf done ≡ kicks
  pub densities : (i : ℕ) → met scene Density done i ≡ in_densities i
  pub forces : (i : ℕ) → met scene Force done i ≡ in_forces i

pub rows_held : (scene : Scene) (leaf : ℕ) (drifted made kicks : Bool) (in_densities in_forces : ℕ → List Particle) (done : List ℕ) (block : BlockRows) → AreDone scene leaf done drifted made kicks in_densities in_forces
    → HoldsParts scene leaf drifted made kicks in_densities in_forces block → HoldsRows block (content scene leaf done)
rows_held scene leaf drifted made kicks in_densities in_forces done block are parts =
    let ms = members_of scene leaf in
    let row = row_of scene leaf done in
    record {
      spots = parts.spots ∙ sym (map-map spot_of row (spot_with scene drifted) (λ i. row_spot scene leaf done i ∙ ap (λ b. spot_with scene b i) are.drift) ms);
      pulls = parts.pulls ∙ sym (map-map pull_of row (pull_with scene made) (λ i. row_pull scene leaf done i ∙ ap (λ b. pull_with scene b i) are.ghosted) ms);
      rhos = parts.rhos ∙ sym (map-map (λ (r : Row). r.particle.rho) row (λ i. rho_with scene (in_densities i) i) (λ i. row_rho scene leaf done i ∙ ap (λ ps. rho_with scene ps i) (are.densities i)) ms);
      forces = parts.forces ∙ sym (map-map (λ (r : Row). r.particle.f) row (λ i. force_with scene (in_forces i) i) (λ i. row_force scene leaf done i ∙ ap (λ ps. force_with scene ps i) (are.forces i)) ms);
      moving = parts.moving ∙ sym (map-map (λ (r : Row). moving_of r.particle) row (moving_with scene kicks) (λ i. row_moving scene leaf done i ∙ ap (λ b. moving_with scene b i) are.kicked) ms);
    }
