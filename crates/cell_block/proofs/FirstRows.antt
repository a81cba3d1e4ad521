-- Before any task is done a block holds what the content says.
use Rattle.std.proofs.Common.{◌≡◌, ℕ, ◌<◌, ◌&&◌, Bool, true, false, cond, List, [], ◌∷◌, map, filter, length, get_or, All, refl, ap, sym, ◌∙◌}
use Rattle.std.specs.List.{range_with_len}
use Rattle.std.proofs.lemmas.List.Elements.{All-map}
use Rattle.sph_num.specs.declared.kind.Kind.{Kind}
use Rattle.sph_num.specs.declared.kind.Kind.TheVariants.{Density, Force}
use Rattle.sph_num.specs.declared.particle.Particle.{Particle}
use Rattle.sph_num.specs.Density.{density_of}
use Rattle.sph_num.specs.Force.{force_of}
use Rattle.sph_num.specs.Space.{IsPlace}
use Rattle.sph_num.proofs.Drifts.{IsPlace-position_of}
use Rattle.sph_bins.specs.Kick.{ghost_at}
use Rattle.cell_block.specs.declared.rows.BlockRows.{BlockRows}
use Rattle.cell_block.specs.declared.rows.Mark.{Mark}
use Rattle.cell_block.specs.declared.rows.Spot.{Spot}
use Rattle.cell_block.specs.declared.scene.Scene.{Scene}
use Rattle.cell_block.specs.Blocks.{Agrees, HoldsRows, done_of, pull_of, moving_of, spot_of, tasks_at}
use Rattle.cell_block.specs.Content.{Row, content, met, row_of, summed_in}
use Rattle.cell_block.specs.Extents.{AreWithin, HavePlaces}
use Rattle.cell_block.specs.Scene.{IsGoodScene, is_due_at, members_of, particle_at, place_of}
use Rattle.cell_block.specs.inner.Beginning.{first_force, first_moving, first_pull, first_rho, first_spot, not_done}
use Rattle.cell_block.proofs.Ranges.{sound_at}

-- one function after another on a list
pub map-map : {X Y Z : Type 0} (f : Y → Z) (g : X → Y) (h : X → Z) → ((x : X) → f (g x) ≡ h x) → (xs : List X) → map f (map g xs) ≡ map h xs
map-map f g h same [] = refl
map-map f g h same (x ∷ xs) = ap (λ y. y ∷ map f (map g xs)) (same x) ∙ ap (λ ys. h x ∷ ys) (map-map f g h same xs)

-- a test that nothing passes leaves nothing
pub filter_nothing : {X : Type 0} (p : X → Bool) → ((x : X) → p x ≡ false) → (xs : List X) → filter p xs ≡ []
filter_nothing p none [] = refl
filter_nothing p none (x ∷ xs) = ap (λ b. cond b (x ∷ filter p xs) (filter p xs)) (none x) ∙ filter_nothing p none xs

-- where no task is done nobody is met
pub met_none : (scene : Scene) (kind : Kind) (i : ℕ) → met scene kind [] i ≡ []
met_none scene kind i = ap (map (particle_at scene)) (filter_nothing (λ j. false) (λ j. refl) (range_with_len 0 (length scene.start)))

-- a field of one of two particles
pub of_either : {X : Type 0} (f : Particle → X) (b : Bool) (p q : Particle) (x : X) → f p ≡ x → f (cond b p q) ≡ cond b x (f q)
of_either f true p q x same = same
of_either f false p q x same = refl

pub alike : {X : Type 0} (f : Particle → X) (b : Bool) (p q : Particle) → f p ≡ f q → f (cond b p q) ≡ f q
alike f true p q same = same
alike f false p q same = refl

where_drift : {X : Type 0} (b : Bool) (x y : X) → cond (b && true) x y ≡ cond b x y
where_drift true x y = refl
where_drift false x y = refl

row_spot : (scene : Scene) (leaf i : ℕ) → spot_of (row_of scene leaf [] i) ≡ first_spot scene i
row_spot scene leaf i =
    let p = particle_at scene i in
    let place = where_drift scene.drift p.x0 (place_of scene p) in
    let h = alike (λ q. q.h) (is_due_at scene i) (summed_in scene leaf [] i) p refl in
    rw (place, h) refl

row_pull : (scene : Scene) (leaf i : ℕ) → pull_of (row_of scene leaf [] i) ≡ first_pull scene i
row_pull scene leaf i = alike (λ p. pull_of (record { place = []; particle = p })) (is_due_at scene i) (summed_in scene leaf [] i) (particle_at scene i) refl

row_rho : (scene : Scene) (leaf i : ℕ) → (row_of scene leaf [] i).particle.rho ≡ first_rho scene i
row_rho scene leaf i =
    of_either (λ p. p.rho) (is_due_at scene i) (summed_in scene leaf [] i) (particle_at scene i) 0
    (ap (λ others. density_of (place_of scene) others (particle_at scene i)) (met_none scene Density i))

row_force : (scene : Scene) (leaf i : ℕ) → (row_of scene leaf [] i).particle.f ≡ first_force scene i
row_force scene leaf i =
    of_either (λ p. p.f) (is_due_at scene i) (summed_in scene leaf [] i) (particle_at scene i) _
    (ap (λ others. force_of (place_of scene) (ghost_at scene.params scene.tick scene.start) others (particle_at scene i)) (met_none scene Force i))

row_moving : (scene : Scene) (leaf i : ℕ) → moving_of (row_of scene leaf [] i).particle ≡ moving_of (particle_at scene i)
row_moving scene leaf i = alike moving_of (is_due_at scene i) (summed_in scene leaf [] i) (particle_at scene i) refl

-- its members have places
place_either : (b : Bool) (x y : List ℕ) → IsPlace x → IsPlace y → IsPlace (cond b x y)
place_either true x y first second = first
place_either false x y first second = second

pub first_places : (scene : Scene) (members : List ℕ) → IsGoodScene scene → All (λ i. i < length scene.start) members → HavePlaces (map (first_spot scene) members)
first_places scene members good within =
    All-map (λ (spot : Spot). IsPlace spot.place) (first_spot scene) members
    (λ k d inside.
    let p = particle_at scene (get_or members k d) in
    place_either scene.drift p.x0 (place_of scene p) (sound_at scene (get_or members k d) good (within k d inside)).place (IsPlace-position_of scene.params.shift scene.tick p))

-- the marks of tasks of which none is done
unmarked_tasks : (tasks : List ℕ) → map (λ (m : Mark). m.task) (map not_done tasks) ≡ tasks
unmarked_tasks [] = refl
unmarked_tasks (task ∷ tasks) = ap (λ ts. task ∷ ts) (unmarked_tasks tasks)

none_done : (tasks : List ℕ) → map (λ (m : Mark). m.task) (filter (λ (m : Mark). m.done) (map not_done tasks)) ≡ []
none_done [] = refl
none_done (task ∷ tasks) = none_done tasks

-- what the lists of a block at its beginning say of it
pub begins : (scene : Scene) (leaf : ℕ) (block : BlockRows) → block.leaf ≡ leaf → block.members.items ≡ members_of scene leaf → block.marks.items ≡ map not_done (tasks_at scene leaf)
    → block.spots.items ≡ map (first_spot scene) block.members.items → block.pulls.items ≡ map (first_pull scene) block.members.items
    → block.due.items ≡ map (is_due_at scene) block.members.items → block.rhos.items ≡ map (first_rho scene) block.members.items
    → block.forces.items ≡ map (first_force scene) block.members.items → block.moving.items ≡ map (first_moving scene) block.members.items → AreWithin block.extent block.spots.items
    → Agrees scene leaf block × (done_of block ≡ [])
begins scene leaf block number members marks spots pulls due rhos forces moving within =
    let none : done_of block ≡ [] = ap (λ ms. map (λ (m : Mark). m.task) (filter (λ (m : Mark). m.done) ms)) marks ∙ none_done (tasks_at scene leaf) in
    let all = members_of scene leaf in
    let row = row_of scene leaf [] in
    let rows : HoldsRows block (content scene leaf []) = record {
      spots = spots ∙ ap (map (first_spot scene)) members ∙ sym (map-map spot_of row (first_spot scene) (row_spot scene leaf) all);
      pulls = pulls ∙ ap (map (first_pull scene)) members ∙ sym (map-map pull_of row (first_pull scene) (row_pull scene leaf) all);
      rhos = rhos ∙ ap (map (first_rho scene)) members ∙ sym (map-map (λ (r : Row). r.particle.rho) row (first_rho scene) (row_rho scene leaf) all);
      forces = forces ∙ ap (map (first_force scene)) members ∙ sym (map-map (λ (r : Row). r.particle.f) row (first_force scene) (row_force scene leaf) all);
      moving = moving ∙ ap (map (first_moving scene)) members ∙ sym (map-map (λ (r : Row). moving_of r.particle) row (first_moving scene) (row_moving scene leaf) all);
    } in (
      record {
        number = number;
        members = members;
        due = due ∙ ap (map (is_due_at scene)) members;
        tasks = ap (map (λ (m : Mark). m.task)) marks ∙ unmarked_tasks (tasks_at scene leaf);
        rows = rw none rows;
        extent = within;
      },
      none,
    )
