-- A block that agrees with a good scene: its members as others see them, and that it can take sums.
use Rattle.std.proofs.Common.{◌≡◌, ℕ, ◌^◌, ◌<◌, ◌&&◌, not, Bool, List, length, map, All, Contains, subst, refl, ap, ◌∙◌, arith}
use Rattle.std.specs.Simd.Lanes.{zip2}
use Rattle.std.proofs.lemmas.List.{get_or_default}
use Rattle.std.proofs.lemmas.Simd.{map-map, zip2-map}
use Rattle.lists.proofs.Elements.{All-from_Contains}
use Rattle.sph_num.specs.declared.kind.Kind.TheVariants.{Drift, Ghost}
use Rattle.sph_num.specs.declared.particle.Particle.{Particle}
use Rattle.sph_num.specs.Space.{IsPlace}
use Rattle.sph_num.proofs.Drifts.{IsPlace-position_of}
use Rattle.sph_num.proofs.Sums.{greatest_ghost-lt}
use Rattle.sph_bins.specs.Kick.{ghost_at}
use Rattle.sph_bins.proofs.Narrow.{ghost_at-le}
use Rattle.cell_block.specs.declared.rows.BlockRows.{BlockRows}
use Rattle.cell_block.specs.declared.scene.Scene.{Scene}
use Rattle.cell_block.specs.Blocks.{Agrees, done_of, pull_of, spot_of}
use Rattle.cell_block.specs.Content.{is_done_on, row_of, summed_in}
use Rattle.cell_block.specs.Scene.{IsGoodScene, is_due_at, members_of, no_particle, particle_at, place_of}
use Rattle.cell_block.proofs.DoneMarks.{Contains-from_map}
use Rattle.cell_block.proofs.LeafMembers.{member_inside}
use Rattle.cell_block.proofs.Parts.{row_h, row_mass}
use Rattle.cell_block.proofs.Ranges.{sound_at}
use Rattle.cell_kern.specs.declared.members.Member.{Member}
use Rattle.cell_kern.specs.inner.Gathered.{IsSound, member, members}
use Rattle.cell_kern.specs.inner.Taking.{rows_in}
use Rattle.cell_kern.proofs.Lists.{either}

-- a member as the others see it
abbrev pub seen : Scene → ℕ → List ℕ → ℕ → Member
seen scene leaf done i = member (spot_of (row_of scene leaf done i)) (pull_of (row_of scene leaf done i)) (is_due_at scene i)

pub rows_seen : (scene : Scene) (leaf : ℕ) (block : BlockRows) → Agrees scene leaf block → rows_in block ≡ map (seen scene leaf (done_of block)) (members_of scene leaf)
rows_seen scene leaf block agrees =
    let ms = members_of scene leaf in
    let row = row_of scene leaf (done_of block) in
    let spots = agrees.rows.spots ∙ map-map spot_of row ms in
    let pulls = agrees.rows.pulls ∙ map-map pull_of row ms in
    ap (λ xs. members xs block.pulls.items block.due.items) spots
    ∙ ap (λ xs. members (map (λ i. spot_of (row i)) ms) xs block.due.items) pulls
    ∙ ap (λ xs. members (map (λ i. spot_of (row i)) ms) (map (λ i. pull_of (row i)) ms) xs) agrees.due
    ∙ ap (λ xs. zip2 (λ (make : Bool → Member) d. make d) xs (map (is_due_at scene) ms)) (zip2-map member (λ i. spot_of (row i)) (λ i. pull_of (row i)) ms)
    ∙ zip2-map (λ (make : Bool → Member) d. make d) (λ i. member (spot_of (row i)) (pull_of (row i))) (is_due_at scene) ms

-- the ghost of a particle of a good scene is low
pub ghost_low : (scene : Scene) (i : ℕ) → IsGoodScene scene → i < length scene.start → ghost_at scene.params scene.tick scene.start (particle_at scene i) < 2 ^ 42
ghost_low scene i good inside =
    let bounds = good.in_bounds in
    omega (arith, ghost_at-le scene.params scene.bounds scene.tick scene.start (particle_at scene i) bounds good.tick (i, inside, get_or_default scene.start i (particle_at scene i) no_particle inside), greatest_ghost-lt scene.params.sound scene.bounds bounds.params_in_range.sound_high bounds.bounds_in_range)

row_ghost : (scene : Scene) (leaf : ℕ) (done : List ℕ) (i : ℕ) → IsGoodScene scene → i < length scene.start → (row_of scene leaf done i).particle.g < 2 ^ 42
row_ghost scene leaf done i good inside =
    let kept = (sound_at scene i good inside).kept_ghost in
    either (λ (p : Particle). p.g < 2 ^ 42) (is_due_at scene i) (summed_in scene leaf done i) (particle_at scene i)
    (either (λ (g : ℕ). g < 2 ^ 42) (is_done_on scene Ghost leaf done) (ghost_at scene.params scene.tick scene.start (particle_at scene i)) (particle_at scene i).g (ghost_low scene i good inside) kept) kept

-- so each member is sound
pub seen_sound : (scene : Scene) (leaf : ℕ) (done : List ℕ) (i : ℕ) → IsGoodScene scene → i < length scene.start → IsSound (seen scene leaf done i)
seen_sound scene leaf done i good inside =
    let sound = sound_at scene i good inside in
    record {
      place = either IsPlace (scene.drift && not (is_done_on scene Drift leaf done)) (particle_at scene i).x0 (place_of scene (particle_at scene i)) sound.place (IsPlace-position_of scene.params.shift scene.tick (particle_at scene i));
      one_h = refl;
      mass = rw (row_mass scene leaf done i) sound.mass;
      h = rw (row_h scene leaf done i) sound.h;
      low_ghost = row_ghost scene leaf done i good inside;
    }

sound_from_map : (scene : Scene) (leaf : ℕ) (done : List ℕ) (m : Member) → IsGoodScene scene → Contains (map (seen scene leaf done) (members_of scene leaf)) m → IsSound m
sound_from_map scene leaf done m good at =
    let some = Contains-from_map (seen scene leaf done) (members_of scene leaf) m at in
    subst IsSound some.2 (seen_sound scene leaf done some.0 good (member_inside scene leaf some.0 good.leaves some.1))

pub rows_sound : (scene : Scene) (leaf : ℕ) (block : BlockRows) → IsGoodScene scene → Agrees scene leaf block → All IsSound (rows_in block)
rows_sound scene leaf block good agrees =
    rw (rows_seen scene leaf block agrees)
    (All-from_Contains IsSound (map (seen scene leaf (done_of block)) (members_of scene leaf)) (λ m at. sound_from_map scene leaf (done_of block) m good at))
