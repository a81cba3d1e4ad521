-- The members of blocks as they are at the tick, and what they give in all.
use Rattle.std.proofs.Common.{◌≡◌, ℕ, suc, ◌+◌, ◌<◌, Bool, true, false, if◌then◌else◌, List, [], ◌∷◌, ◌++◌, length, map, get_or, flat_map, fold, sum_by, Contains, refl, sym, ap, ◌∙◌, arith}
use Rattle.std.specs.Prelude.{ℤ, pos, ◌+ℤ◌}
use Rattle.std.specs.List.{range_with_len}
use Rattle.std.proofs.lemmas.Bool.{both_ways}
use Rattle.std.proofs.lemmas.Int.{ints}
use Rattle.std.proofs.lemmas.List.{map-append}
use Rattle.std.proofs.lemmas.List.Folds.{fold-map}
use Rattle.std.proofs.lemmas.List.Sums.{sum_by-cons}
use Rattle.std.proofs.lemmas.Simd.{map-map}
use Rattle.lists.proofs.Elements.{map_agree, three-eq}
use Rattle.sph_num.specs.declared.kind.Kind.TheVariants.{Drift, Ghost}
use Rattle.sph_num.specs.declared.particle.Particle.{Particle}
use Rattle.sph_num.specs.Density.{density_of, density_within}
use Rattle.sph_num.specs.Force.{force_of}
use Rattle.sph_num.specs.Pull.{puller}
use Rattle.sph_num.specs.Space.{dist2}
use Rattle.sph_num.specs.Totals.{component, total_by, vector_of}
use Rattle.sph_bins.specs.Kick.{ghost_at}
use Rattle.cell_block.specs.declared.rows.BlockRows.{BlockRows}
use Rattle.cell_block.specs.declared.scene.Scene.{Scene}
use Rattle.cell_block.specs.Blocks.{Agrees, done_of}
use Rattle.cell_block.specs.Content.{is_done_on, row_of, summed_in}
use Rattle.cell_block.specs.Scene.{is_due_at, members_of, particle_at, place_of}
use Rattle.cell_block.proofs.Done.{chosen}
use Rattle.cell_block.proofs.Lines.{density_by_indices, force_by_indices}
use Rattle.cell_block.proofs.Parts.{row_h, row_mass, where_drifted}
use Rattle.cell_kern.specs.declared.members.Member.{Member}
use Rattle.cell_kern.specs.inner.Gathered.{force_given, member, pull_on, pulled, rho_given}
use Rattle.cell_kern.specs.inner.Taking.{rows_in}
use Rattle.cell_kern.proofs.Forces.{none_added, vector_of_itself}
use Rattle.cell_kern.proofs.Seen.{rows_seen, seen}

-- what a density reads of a particle that gives to it
pub record Source : Type 0 where
  pub place : List ℕ
  pub mass : ℕ

abbrev pub source_of : Member → Source
source_of m = record { place = m.spot.place; mass = m.pull.mass }

abbrev pub source_at : Scene → ℕ → Source
source_at scene i = record { place = place_of scene (particle_at scene i); mass = (particle_at scene i).mass }

-- a member at the tick, with the ghost of the tick
abbrev pub member_at_tick : Scene → ℕ → Member
member_at_tick scene i =
    let particle = particle_at scene i in
    member (record { place = place_of scene particle; h = particle.h }) (puller particle.h particle.mass (ghost_at scene.params scene.tick scene.start particle)) (is_due_at scene i)

abbrev the_source : List ℕ → ℕ → Source
the_source place mass = record { place = place; mass = mass }

abbrev the_member : List ℕ → ℕ → ℕ → ℕ → Bool → Member
the_member place h mass g due = member (record { place = place; h = h }) (puller h mass g) due

-- where the drift is done
pub place_seen : (scene : Scene) (leaf : ℕ) (done : List ℕ) (i : ℕ) → (scene.drift ≡ true → is_done_on scene Drift leaf done ≡ true) → (row_of scene leaf done i).place ≡ place_of scene (particle_at scene i)
place_seen scene leaf done i is = where_drifted scene.drift (is_done_on scene Drift leaf done) (particle_at scene i).x0 (place_of scene (particle_at scene i)) is

source_seen : (scene : Scene) (leaf : ℕ) (done : List ℕ) (i : ℕ) → (scene.drift ≡ true → is_done_on scene Drift leaf done ≡ true) → source_of (seen scene leaf done i) ≡ source_at scene i
source_seen scene leaf done i is =
    ap (λ p. the_source p (row_of scene leaf done i).particle.mass) (place_seen scene leaf done i is) ∙ ap (the_source (place_of scene (particle_at scene i))) (row_mass scene leaf done i)

pub rows_sources : (scene : Scene) (leaf : ℕ) (block : BlockRows) → Agrees scene leaf block → (scene.drift ≡ true → is_done_on scene Drift leaf (done_of block) ≡ true) → map source_of (rows_in block) ≡ map (source_at scene) (members_of scene leaf)
rows_sources scene leaf block agrees is =
    ap (map source_of) (rows_seen scene leaf block agrees) ∙ map-map source_of (seen scene leaf (done_of block)) (members_of scene leaf)
    ∙ map_agree (λ i. source_of (seen scene leaf (done_of block) i)) (source_at scene) (members_of scene leaf) (λ i at. source_seen scene leaf (done_of block) i is)

-- and where the ghosts of due members are made
ghost_of_due : (due done : Bool) (s p : Particle) (v : ℕ) → s.g ≡ (if done then (if due then v else p.g) else p.g) → (due ≡ true → done ≡ true) → (if due then s else p).g ≡ (if due then v else p.g)
ghost_of_due true true s p v is made = is
ghost_of_due true false s p v is made = absurd (both_ways false refl (made refl))
ghost_of_due false done s p v is made = refl

ghost_seen : (scene : Scene) (leaf : ℕ) (done : List ℕ) (i : ℕ) → (is_due_at scene i ≡ true → is_done_on scene Ghost leaf done ≡ true) → (row_of scene leaf done i).particle.g ≡ ghost_at scene.params scene.tick scene.start (particle_at scene i)
ghost_seen scene leaf done i made = ghost_of_due (is_due_at scene i) (is_done_on scene Ghost leaf done) (summed_in scene leaf done i) (particle_at scene i) _ refl made

pub tick_seen : (scene : Scene) (leaf : ℕ) (done : List ℕ) (i : ℕ) → (scene.drift ≡ true → is_done_on scene Drift leaf done ≡ true) → (is_due_at scene i ≡ true → is_done_on scene Ghost leaf done ≡ true) → seen scene leaf done i ≡ member_at_tick scene i
tick_seen scene leaf done i is made =
    let row = row_of scene leaf done i in
    let p = particle_at scene i in
    let due = is_due_at scene i in
    ap (λ x. the_member x row.particle.h row.particle.mass row.particle.g due) (place_seen scene leaf done i is)
    ∙ ap (λ x. the_member (place_of scene p) x row.particle.mass row.particle.g due) (row_h scene leaf done i)
    ∙ ap (λ x. the_member (place_of scene p) p.h x row.particle.g due) (row_mass scene leaf done i)
    ∙ ap (λ x. the_member (place_of scene p) p.h p.mass x due) (ghost_seen scene leaf done i made)

pub rows_at_tick : (scene : Scene) (leaf : ℕ) (block : BlockRows) → Agrees scene leaf block → (scene.drift ≡ true → is_done_on scene Drift leaf (done_of block) ≡ true)
    → ((i : ℕ) → Contains (members_of scene leaf) i → is_due_at scene i ≡ true → is_done_on scene Ghost leaf (done_of block) ≡ true) → map (λ (m : Member). m) (rows_in block) ≡ map (member_at_tick scene) (members_of scene leaf)
rows_at_tick scene leaf block agrees is made =
    ap (map (λ (m : Member). m)) (rows_seen scene leaf block agrees) ∙ map-map (λ (m : Member). m) (seen scene leaf (done_of block)) (members_of scene leaf)
    ∙ map_agree (seen scene leaf (done_of block)) (member_at_tick scene) (members_of scene leaf) (λ i at. tick_seen scene leaf (done_of block) i is (made i at))

-- of the blocks of a range in order
pub rows_of_range : {Y : Type 0} (h : Member → Y) (g : ℕ → Y) (scene : Scene) (first : ℕ) (blocks : List BlockRows) → ((k : ℕ) (d : BlockRows) → k < length blocks → map h (rows_in (get_or blocks k d)) ≡ map g (members_of scene (first + k)))
    → map h (flat_map rows_in blocks) ≡ map g (flat_map (members_of scene) (range_with_len first (length blocks)))
rows_of_range h g scene first [] each = refl
rows_of_range h g scene first (b ∷ bs) each =
    let here : first + 0 ≡ first = omega arith in
    let head = each 0 b (omega arith) ∙ ap (λ n. map g (members_of scene n)) here in
    let later = λ (k : ℕ) (d : BlockRows) (low : k < length bs). let next : first + suc k ≡ (first + 1) + k = omega arith in each (suc k) d (omega arith) ∙ ap (λ n. map g (members_of scene n)) next in
    let tail = rows_of_range h g scene (first + 1) bs later in
    map-append h (rows_in b) (flat_map rows_in bs) ∙ ap (λ xs. xs ++ map h (flat_map rows_in bs)) head ∙ ap (λ xs. map g (members_of scene first) ++ xs) tail
    ∙ sym (map-append g (members_of scene first) (flat_map (members_of scene) (range_with_len (first + 1) (length bs))))

-- what a due member's density is after all of them
density_sum : (to : Member) (rho : ℕ) (from : List Member) → to.due ≡ true → fold (rho_given to) rho from ≡ rho + sum_by (λ (s : Source). density_within s.mass (dist2 to.spot.place s.place) to.pull.h) (map source_of from)
density_sum to rho [] due = omega arith
density_sum to rho (m ∷ ms) due =
    let f = λ (s : Source). density_within s.mass (dist2 to.spot.place s.place) to.pull.h in
    let one : rho_given to rho m ≡ rho + f (source_of m) = chosen to.due (rho + f (source_of m)) rho due in
    density_sum to (rho_given to rho m) ms due ∙ omega (arith, one, sum_by-cons f (source_of m) (map source_of ms))

pub density_of_sources : (scene : Scene) (leaf : ℕ) (done : List ℕ) (i rho : ℕ) (from : List Member) (indices : List ℕ) → is_due_at scene i ≡ true → (scene.drift ≡ true → is_done_on scene Drift leaf done ≡ true) → map source_of from ≡ map (source_at scene) indices
    → fold (rho_given (seen scene leaf done i)) rho from ≡ rho + density_of (place_of scene) (map (particle_at scene) indices) (particle_at scene i)
density_of_sources scene leaf done i rho from indices due is sources =
    let to = seen scene leaf done i in
    let p = particle_at scene i in
    density_sum to rho from due
    ∙ ap (λ xs. rho + sum_by (λ (s : Source). density_within s.mass (dist2 to.spot.place s.place) to.pull.h) xs) sources
    ∙ ap (λ place. rho + sum_by (λ (s : Source). density_within s.mass (dist2 place s.place) to.pull.h) (map (source_at scene) indices)) (place_seen scene leaf done i is)
    ∙ ap (λ h. rho + sum_by (λ (s : Source). density_within s.mass (dist2 (place_of scene p) s.place) h) (map (source_at scene) indices)) (row_h scene leaf done i)
    ∙ ap (λ n. rho + n) (fold-map (λ a (s : Source). a + density_within s.mass (dist2 (place_of scene p) s.place) p.h) (source_at scene) 0 indices ∙ sym (density_by_indices scene i indices))

-- and its force
force_next : (c x y : ℤ) → (c +ℤ x) +ℤ y ≡ c +ℤ (x +ℤ y)
force_next c x y = omega (arith, ints)

pulled_axis : (to : Member) (f : List ℤ) (m : Member) (c : ℤ) (axis : ℕ) (rest : ℤ) → component (pulled to f m) axis ≡ c +ℤ pull_on to m axis → component (pulled to f m) axis +ℤ rest ≡ c +ℤ (pull_on to m axis +ℤ rest)
pulled_axis to f m c axis rest is = ap (λ z. z +ℤ rest) is ∙ force_next c (pull_on to m axis) rest

pulled_at : (to : Member) (f : List ℤ) (m : Member) → (component (pulled to f m) 0 ≡ component f 0 +ℤ pull_on to m 0) × ((component (pulled to f m) 1 ≡ component f 1 +ℤ pull_on to m 1) × (component (pulled to f m) 2 ≡ component f 2 +ℤ pull_on to m 2))
unfolding pulled
pulled_at to f m = (refl, (refl, refl))

pulled_long : (to : Member) (f : List ℤ) (m : Member) → length (pulled to f m) ≡ 3
unfolding pulled
pulled_long to f m = refl

force_sum : (to : Member) (f : List ℤ) (from : List Member) → to.due ≡ true → length f ≡ 3 → fold (force_given to) f from ≡ vector_of (λ axis. component f axis +ℤ total_by (λ m. pull_on to m axis) from)
force_sum to f [] due three =
    sym (three-eq _ _ _ _ _ _ (none_added (component f 0) (pos 0) refl) (none_added (component f 1) (pos 0) refl) (none_added (component f 2) (pos 0) refl) ∙ vector_of_itself f three)
force_sum to f (m ∷ ms) due three =
    let total = λ (axis : ℕ). total_by (λ m. pull_on to m axis) ms in
    let at = pulled_at to f m in
    ap (λ g. fold (force_given to) g ms) (chosen to.due (pulled to f m) f due) ∙ force_sum to (pulled to f m) ms due (pulled_long to f m)
    ∙ three-eq _ _ _ _ _ _ (pulled_axis to f m (component f 0) 0 (total 0) at.0) (pulled_axis to f m (component f 1) 1 (total 1) at.1.0) (pulled_axis to f m (component f 2) 2 (total 2) at.1.1)

total_by-map : {A B : Type 0} (f : B → ℤ) (g : A → B) (xs : List A) → total_by f (map g xs) ≡ total_by (λ x. f (g x)) xs
total_by-map f g [] = refl
total_by-map f g (x ∷ xs) = ap (λ z. f (g x) +ℤ z) (total_by-map f g xs)

pub force_of_members : (scene : Scene) (i : ℕ) (f : List ℤ) (indices : List ℕ) → is_due_at scene i ≡ true → length f ≡ 3
    → fold (force_given (member_at_tick scene i)) f (map (member_at_tick scene) indices)
    ≡ vector_of (λ axis. component f axis +ℤ component (force_of (place_of scene) (ghost_at scene.params scene.tick scene.start) (map (particle_at scene) indices) (particle_at scene i)) axis)
force_of_members scene i f indices due three =
    let to = member_at_tick scene i in
    let on = λ (axis : ℕ). ap (λ z. component f axis +ℤ z) (total_by-map (λ m. pull_on to m axis) (member_at_tick scene) indices ∙ sym (force_by_indices scene axis i indices)) in
    force_sum to f (map (member_at_tick scene) indices) due three ∙ three-eq _ _ _ _ _ _ (on 0) (on 1) (on 2)
