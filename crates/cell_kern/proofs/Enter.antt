-- The blocks of a task that are ready can take its sums: their members are in range, not many, and there is room.
use Rattle.std.proofs.Common.{◌≡◌, ℕ, zero, suc, ◌+◌, ◌-◌, ◌*◌, ◌^◌, ◌<◌, ◌≤◌, ◌&&◌, true, List, [], ◌∷◌, length, map, filter, get_or, flat_map, sum_by, All, Contains, subst, refl, sym, ap, ◌∙◌, arith}
use Rattle.std.specs.Prelude.{unsigned_abs}
use Rattle.std.specs.List.{list_any, range_with_len}
use Rattle.std.proofs.lemmas.List.{get_or_default, length-map, get_or-map}
use Rattle.std.proofs.lemmas.List.Elements.{All-filter, All-map}
use Rattle.std.proofs.lemmas.List.FromFn.{length-range_with_len}
use Rattle.std.proofs.lemmas.List.Sums.{count_by-le-length, length-filter, sum_by-cons}
use Rattle.std.proofs.lemmas.Simd.{map-map}
use Rattle.lists.proofs.Elements.{All-from_Contains}
use Rattle.lists.proofs.Ranges.{below_from_numbers}
use Rattle.sph_num.specs.declared.kind.Kind.{Kind}
use Rattle.sph_num.specs.declared.kind.Kind.TheVariants.{Density, Force}
use Rattle.sph_num.specs.declared.particle.Particle.{Particle}
use Rattle.sph_num.specs.Cover.{is_member, meets}
use Rattle.sph_num.specs.Density.{density_of}
use Rattle.sph_num.specs.Force.{force_from, force_of}
use Rattle.sph_num.specs.Kinds.{same_kind}
use Rattle.sph_num.specs.Ranges.{IsBody, most_particles}
use Rattle.sph_num.specs.Totals.{component, total_by}
use Rattle.sph_num.proofs.Drifts.{IsPlace-position_of}
use Rattle.sph_num.proofs.Forces.{total_by-le}
use Rattle.sph_num.proofs.Sums.{density_of-lt}
use Rattle.sph_bins.specs.Kick.{ghost_at}
use Rattle.cell_block.specs.declared.rows.BlockRows.{BlockRows}
use Rattle.cell_block.specs.declared.scene.Scene.{Scene}
use Rattle.cell_block.specs.Blocks.{Agrees, AreReady, done_of}
use Rattle.cell_block.specs.Content.{met}
use Rattle.cell_block.specs.Scene.{IsGoodScene, group_of, is_due_at, line_at, members_in, members_of, particle_at, place_of}
use Rattle.cell_block.proofs.Done.{chosen}
use Rattle.cell_block.proofs.LeafMembers.{inside_range, member_inside}
use Rattle.cell_block.proofs.Lines.{IsSum-sum_by}
use Rattle.cell_block.proofs.Others.{AreDistinct-leaf, AreDistinct-leaves}
use Rattle.cell_block.proofs.Parts.{force_with, parts_held, rho_with}
use Rattle.cell_block.proofs.Ranges.{sound_at}
use Rattle.cell_block.proofs.RowsHeld.{IsWhole-from_agrees}
use Rattle.cell_block.proofs.SplitSums.{AreDistinct, total_distinct}
use Rattle.cell_kern.specs.declared.members.Member.{Member}
use Rattle.cell_kern.specs.inner.Gathered.{IsNarrow, IsSound, no_member}
use Rattle.cell_kern.specs.inner.Taking.{CanTake, CanTakeAll, Densities, Forces, HasRoom, Sums, rows_in}
use Rattle.cell_kern.proofs.AtTick.{member_at_tick, rows_of_range}
use Rattle.cell_kern.proofs.Forces.{pull_on-le}
use Rattle.cell_kern.proofs.Seen.{ghost_low, rows_seen, rows_sound, seen}

-- the members of some leaves are no more than the particles
ones : (xs : List ℕ) → sum_by (λ (x : ℕ). 1) xs ≡ length xs
ones [] = refl
ones (x ∷ xs) = sum_by-cons (λ (y : ℕ). 1) x xs ∙ ap (λ n. 1 + n) (ones xs) ∙ omega arith

few_distinct : (n : ℕ) (ys : List ℕ) → AreDistinct ys → ((y : ℕ) → Contains ys y → y < n) → length ys ≤ n
few_distinct n ys distinct inside =
    let total = total_distinct ◌+◌ 0 (λ f xs. sum_by f xs) IsSum-sum_by (λ (x : ℕ). 1) n ys distinct inside in
    let numbers = filter (is_member ys) (range_with_len 0 n) in
    omega (arith, total, ones ys, ones numbers, length-filter (is_member ys) (range_with_len 0 n), count_by-le-length (is_member ys) (range_with_len 0 n), length-range_with_len 0 n)

few_in : (scene : Scene) (range : ℕ × ℕ) → IsGoodScene scene → length (members_in scene range) ≤ length scene.start
few_in scene range good = few_distinct (length scene.start) (members_in scene range) (AreDistinct-leaves scene range.0 (range.1 - range.0) good.leaves) (λ i at. inside_range scene range i good.leaves at)

few_of : (scene : Scene) (leaf : ℕ) → IsGoodScene scene → length (members_of scene leaf) ≤ length scene.start
few_of scene leaf good = few_distinct (length scene.start) (members_of scene leaf) (AreDistinct-leaf scene leaf good.leaves) (λ i at. member_inside scene leaf i good.leaves at)

few_particles : (scene : Scene) → IsGoodScene scene → length scene.start ≤ most_particles
few_particles scene good = omega (arith, good.in_bounds.count, good.in_bounds.bounds_in_range.count_high)

-- the members of the blocks of a range
pub rows_few : (scene : Scene) (task : ℕ) (range : ℕ × ℕ) (blocks : List BlockRows) → IsGoodScene scene → AreReady scene task range blocks → length (flat_map rows_in blocks) ≤ most_particles
rows_few scene task range blocks good ready =
    let none = λ (m : Member). zero in
    let none' = λ (i : ℕ). zero in
    let rows = rows_of_range none none' scene range.0 blocks
    (λ k d low. let agrees = (ready.ready k d low).agrees in
    ap (map none) (rows_seen scene (range.0 + k) (get_or blocks k d) agrees) ∙ map-map none (seen scene (range.0 + k) (done_of (get_or blocks k d))) (members_of scene (range.0 + k))) in
    let indices = flat_map (members_of scene) (range_with_len range.0 (length blocks)) in
    let count : length (flat_map rows_in blocks) ≡ length indices = sym (length-map (flat_map rows_in blocks) none) ∙ ap length rows ∙ length-map indices none' in
    let same : length indices ≡ length (members_in scene range) = ap (λ n. length (flat_map (members_of scene) (range_with_len range.0 n))) ready.one_each in
    omega (arith, count, same, few_in scene range good, few_particles scene good)

-- the sums so far have room
met_few : (scene : Scene) (kind : Kind) (done : List ℕ) (i : ℕ) → IsGoodScene scene → length (met scene kind done i) ≤ most_particles
met_few scene kind done i good =
    let p = λ (j : ℕ). list_any (λ task. same_kind (line_at scene task).kind kind && meets kind i j (group_of scene (line_at scene task))) done in
    let n = length scene.start in
    omega (arith, length-map (filter p (range_with_len 0 n)) (particle_at scene), length-filter p (range_with_len 0 n), count_by-le-length p (range_with_len 0 n), length-range_with_len 0 n, few_particles scene good)

met_all : (scene : Scene) (kind : Kind) (done : List ℕ) (i : ℕ) (P : Particle → Type 0) → ((j : ℕ) → j < length scene.start → P (particle_at scene j)) → All P (met scene kind done i)
met_all scene kind done i P each =
    let p = λ (j : ℕ). list_any (λ task. same_kind (line_at scene task).kind kind && meets kind i j (group_of scene (line_at scene task))) done in
    let numbers = range_with_len 0 (length scene.start) in
    All-map P (particle_at scene) (filter p numbers)
    (All-filter p (λ j. P (particle_at scene j)) numbers (All-from_Contains (λ j. P (particle_at scene j)) numbers (λ j at. each j (below_from_numbers (length scene.start) j at))))

body_at : (scene : Scene) (j : ℕ) → IsGoodScene scene → j < length scene.start → IsBody (particle_at scene j)
body_at scene j good inside = let sound = sound_at scene j good inside in record { mass = sound.mass; h = sound.h; place = sound.place }

tick_sound : (scene : Scene) (i : ℕ) → IsGoodScene scene → i < length scene.start → IsSound (member_at_tick scene i)
tick_sound scene i good inside =
    let sound = sound_at scene i good inside in
    record {
      place = IsPlace-position_of scene.params.shift scene.tick (particle_at scene i);
      one_h = refl;
      mass = sound.mass;
      h = sound.h;
      low_ghost = ghost_low scene i good inside;
    }

force_on_axis : (scene : Scene) (done : List ℕ) (i axis : ℕ) → IsGoodScene scene → i < length scene.start
    → unsigned_abs (total_by (λ q. force_from (place_of scene) (ghost_at scene.params scene.tick scene.start) axis (particle_at scene i) q) (met scene Force done i)) < 2 ^ 112
force_on_axis scene done i axis good inside =
    let on = λ (q : Particle). force_from (place_of scene) (ghost_at scene.params scene.tick scene.start) axis (particle_at scene i) q in
    let each = met_all scene Force done i (λ q. unsigned_abs (on q) ≤ 2 ^ 95) (λ j low. pull_on-le (member_at_tick scene i) (member_at_tick scene j) axis (tick_sound scene i good inside) (tick_sound scene j good low)) in
    omega (arith, total_by-le on (2 ^ 95) (met scene Force done i) each, met_few scene Force done i good)

force_small : (scene : Scene) (done : List ℕ) (i : ℕ) → IsGoodScene scene → i < length scene.start → (axis : ℕ) → unsigned_abs (component (force_of (place_of scene) (ghost_at scene.params scene.tick scene.start) (met scene Force done i) (particle_at scene i)) axis) < 2 ^ 112
force_small scene done i good inside zero = force_on_axis scene done i 0 good inside
force_small scene done i good inside (suc zero) = force_on_axis scene done i 1 good inside
force_small scene done i good inside (suc (suc zero)) = force_on_axis scene done i 2 good inside
force_small scene done i good inside (suc (suc (suc axis))) = omega arith

force_narrow : (scene : Scene) (done : List ℕ) (i : ℕ) → IsGoodScene scene → i < length scene.start → IsNarrow ((1 + 0) * 2 ^ 112) (force_of (place_of scene) (ghost_at scene.params scene.tick scene.start) (met scene Force done i) (particle_at scene i))
force_narrow scene done i good inside = record { three = refl; small = λ axis. omega (arith, force_small scene done i good inside axis) }

has_room : (sums : Sums) (scene : Scene) (leaf : ℕ) (block : BlockRows) → IsGoodScene scene → Agrees scene leaf block → HasRoom sums 0 block
has_room Densities scene leaf block good agrees =
    λ k inside due.
    let done = done_of block in
    let ms = members_of scene leaf in
    let i = get_or ms k 0 in
    let rows = rows_seen scene leaf block agrees in
    let low : k < length ms = omega (arith, ap length rows, length-map ms (seen scene leaf done)) in
    let here : is_due_at scene i ≡ true = sym (ap (λ (m : Member). m.due) (ap (λ xs. get_or xs k no_member) rows ∙ get_or-map (seen scene leaf done) ms k 0 no_member low)) ∙ due in
    let in_scene = member_inside scene leaf i good.leaves (k, low, get_or_default ms k i 0 low) in
    let p = particle_at scene i in
    let rho = ap (λ xs. get_or xs k 0) (parts_held scene leaf done block agrees.rows).rhos ∙ get_or-map (λ j. rho_with scene (met scene Density done j) j) ms k 0 0 low
    ∙ chosen (is_due_at scene i) (density_of (place_of scene) (met scene Density done i) p) p.rho here in
    omega (arith, rho, density_of-lt (place_of scene) (met scene Density done i) (particle_at scene i) (met_all scene Density done i IsBody (λ j inside. body_at scene j good inside)) (met_few scene Density done i good) (body_at scene i good in_scene))
has_room Forces scene leaf block good agrees =
    λ k inside due.
    let done = done_of block in
    let ms = members_of scene leaf in
    let i = get_or ms k 0 in
    let rows = rows_seen scene leaf block agrees in
    let low : k < length ms = omega (arith, ap length rows, length-map ms (seen scene leaf done)) in
    let here : is_due_at scene i ≡ true = sym (ap (λ (m : Member). m.due) (ap (λ xs. get_or xs k no_member) rows ∙ get_or-map (seen scene leaf done) ms k 0 no_member low)) ∙ due in
    let in_scene = member_inside scene leaf i good.leaves (k, low, get_or_default ms k i 0 low) in
    let p = particle_at scene i in
    let force = ap (λ xs. get_or xs k []) (parts_held scene leaf done block agrees.rows).forces ∙ get_or-map (λ j. force_with scene (met scene Force done j) j) ms k 0 [] low
    ∙ chosen (is_due_at scene i) (force_of (place_of scene) (ghost_at scene.params scene.tick scene.start) (met scene Force done i) p) p.f here in
    subst (IsNarrow ((1 + 0) * 2 ^ 112)) (sym force) (force_narrow scene done i good in_scene)

pub can_take : (sums : Sums) (scene : Scene) (leaf : ℕ) (block : BlockRows) → IsGoodScene scene → Agrees scene leaf block → CanTake sums 0 block
can_take sums scene leaf block good agrees =
    let whole = IsWhole-from_agrees scene leaf block agrees in
    record {
      pulls = whole.pulls ∙ sym whole.spots;
      due = whole.due ∙ sym whole.spots;
      rhos = whole.rhos ∙ sym whole.spots;
      forces = whole.forces ∙ sym whole.spots;
      few = omega (arith, whole.spots, ap length agrees.members, few_of scene leaf good, few_particles scene good);
      sound = rows_sound scene leaf block good agrees;
      extent = agrees.extent;
      room = has_room sums scene leaf block good agrees;
    }

pub can_take_all : (sums : Sums) (scene : Scene) (task : ℕ) (range : ℕ × ℕ) (blocks : List BlockRows) → IsGoodScene scene → AreReady scene task range blocks → CanTakeAll sums 0 blocks
can_take_all sums scene task range blocks good ready = λ k d low. can_take sums scene (range.0 + k) (get_or blocks k d) good (ready.ready k d low).agrees
