-- From what a kick wrote into the particles of its block to the task added.
use Rattle.std.proofs.Common.{◌≡◌, ℕ, zero, suc, ◌+◌, ◌-◌, ◌*◌, ◌^◌, ◌<◌, ◌≤◌, Bool, true, false, if◌then◌else◌, List, [], length, get_or, subst, refl, sym, ap, ◌∙◌, arith}
use Rattle.std.specs.Prelude.{ℤ, unsigned_abs}
use Rattle.std.proofs.lemmas.List.{get_or-map, length-map, map-id}
use Rattle.std.proofs.lemmas.Nat.{pow_pos}
use Rattle.sph_num.specs.declared.kind.Kind.TheVariants.{Drift, Force, Kick}
use Rattle.sph_num.specs.declared.particle.Bounds.{Bounds}
use Rattle.sph_num.specs.declared.particle.Params.{Params}
use Rattle.sph_num.specs.declared.particle.Particle.{Particle}
use Rattle.sph_num.specs.Bound.{greatest_force}
use Rattle.sph_num.specs.Force.{force_of}
use Rattle.sph_num.specs.Motion.{IsMomentum, position_of}
use Rattle.sph_num.specs.Totals.{component}
use Rattle.sph_bins.specs.InBounds.{IsAt}
use Rattle.sph_bins.specs.Kick.{force_at, ghost_at, kicked}
use Rattle.sph_bins.proofs.Narrow.{force_at-le}
use Rattle.sph_bins.proofs.Room.{pow-le}
use Rattle.sph_bins.proofs.Sound.{below, force-lt}
use Rattle.cell_block.specs.declared.moving.Moving.{Moving}
use Rattle.cell_block.specs.declared.rows.BlockRows.{BlockRows}
use Rattle.cell_block.specs.declared.rows.Spot.{Spot}
use Rattle.cell_block.specs.declared.scene.Scene.{Scene}
use Rattle.cell_block.specs.Blocks.{Agrees, IsAdded, IsReady, done_of, moving_of}
use Rattle.cell_block.specs.Content.{is_done_on, met}
use Rattle.cell_block.specs.Extents.{AreWithin}
use Rattle.cell_block.specs.Reading.{no_moving}
use Rattle.cell_block.specs.Scene.{IsGoodScene, is_due_at, members_of, no_particle, particle_at, place_of}
use Rattle.cell_block.specs.Tasks.{IsMarked, IsTask}
use Rattle.cell_block.proofs.Done.{chosen}
use Rattle.cell_block.proofs.LeafMembers.{member_inside}
use Rattle.cell_block.proofs.Order.{all_done}
use Rattle.cell_block.proofs.Parts.{force_with, moving_with, parts_held, spot_with, where_drifted}
use Rattle.cell_block.proofs.Ranges.{sound_at}
use Rattle.cell_block.proofs.WholeSums.{forces_are_whole}
use Rattle.cell_kick.specs.declared.members.Summed.{Summed}
use Rattle.cell_kick.specs.inner.Written.{AreEach, CanKick, force_at_index, kick_at, kicked_by, with_force}
use Rattle.cell_kick.proofs.Added.{due_at, in_list, leaf_of, made_added, member_at, touches_its_leaf}
use Rattle.cell_kick.proofs.Loops.{written_of_members}
use Rattle.cell_kick.proofs.Only.{not_kicked}
use Rattle.cell_kick.proofs.Order.{drift_done}

-- the place at a tick reads nothing of the sums
place_of_moving : (scene : Scene) (p : Particle) (f : List ℤ) → place_of scene (with_force (moving_of p) f) ≡ place_of scene p
unfolding position_of
place_of_moving scene p f = refl

-- the greatest force is narrow, since momenta have room for it
force_narrow : (params : Params) (bounds : Bounds) (t : ℕ) (i : Particle) → t ≤ params.ticks → i.bin ≤ params.bin_max → IsAt params bounds t i → greatest_force params.sound bounds < 2 ^ 96
force_narrow params bounds zero i within short at =
    force-lt (unsigned_abs (component i.p 0)) (greatest_force params.sound bounds) (2 * params.ticks + 2 ^ params.bin_max) (2 ^ 96) (omega (arith, pow_pos params.bin_max)) (at.room 0)
force_narrow params bounds (suc t) i within short at =
    force-lt (unsigned_abs (component i.p 0)) (greatest_force params.sound bounds) (2 * (params.ticks - i.t0) + 2 ^ params.bin_max - 2 ^ i.bin) (2 ^ 96) (omega (arith, pow-le i.bin params.bin_max short, at.since, within)) (at.room 0)

force_small : (scene : Scene) (i : ℕ) → IsGoodScene scene → i < length scene.start → IsMomentum (force_at scene.params scene.tick scene.start (particle_at scene i))
force_small scene i good inside =
    let p = particle_at scene i in
    let are = good.in_bounds in
    let weak = force_narrow scene.params scene.bounds scene.tick p good.tick.within (are.within i no_particle inside).bin (are.at i no_particle inside) in
    λ axis. below (unsigned_abs (component (force_at scene.params scene.tick scene.start p) axis)) (greatest_force scene.params.sound scene.bounds) (2 ^ 96) (force_at-le scene.params scene.bounds scene.tick scene.start p are good.tick (in_list scene i inside) axis) weak

-- the kick of a member is that of its particle
kicked_moving : (scene : Scene) (m : Moving) (q : Particle) (f : List ℤ) → m ≡ moving_of q → f ≡ force_at scene.params scene.tick scene.start q
    → kicked_by scene f m ≡ moving_of (kicked scene.params scene.tick scene.start q)
unfolding kicked position_of
kicked_moving scene m q f same whole = ap (kicked_by scene f) same ∙ ap (λ (x : List ℤ). kicked_by scene x (moving_of q)) whole

-- a member, where the kick is written or not
moving_after : (due : Bool) (x m : Moving) (q k : Particle) → (due ≡ true → x ≡ moving_of k) → m ≡ moving_of q → (if due then x else m) ≡ moving_of (if due then (if true then k else q) else q)
moving_after true x m q k made same = made refl
moving_after false x m q k made same = same

moving_unkicked : (due : Bool) (k q : Particle) → moving_of (if due then (if false then k else q) else q) ≡ moving_of q
moving_unkicked true k q = refl
moving_unkicked false k q = refl

-- the lists of a block, as a kick reads them
pub record AreOf (block : BlockRows) (summed : Summed) : Type 0 where
  pub spots : summed.spots.now ≡ block.spots.items
  pub due : summed.due.now ≡ block.due.items
  pub forces : summed.forces.now ≡ block.forces.items

-- a member of a block that is ready for its kick: it is as it was, and the force on it and its place are those at the tick
moving_at : (scene : Scene) (task : ℕ) (block : BlockRows) (k : ℕ) → IsGoodScene scene → IsTask scene Kick task → IsReady scene task (leaf_of scene task) block → k < length (members_of scene (leaf_of scene task))
    → get_or block.moving.items k no_moving ≡ moving_of (particle_at scene (get_or (members_of scene (leaf_of scene task)) k 0))
moving_at scene task block k good is ready low =
    let leaf = leaf_of scene task in
    let ms = members_of scene leaf in
    let i = get_or ms k 0 in
    let p = particle_at scene i in
    let done = done_of block in
    let kicks = is_done_on scene Kick leaf done in
    let parts = parts_held scene leaf done block ready.agrees.rows in
    let none = not_kicked scene good task leaf block is (touches_its_leaf scene Kick task tt good is) ready in
    ap (λ (xs : List Moving). get_or xs k no_moving) parts.moving ∙ get_or-map (moving_with scene kicks) ms k 0 no_moving low
    ∙ ap (λ b. moving_with scene b i) none ∙ moving_unkicked (is_due_at scene i) (kicked scene.params scene.tick scene.start p) p

force_here : (scene : Scene) (task : ℕ) (block : BlockRows) (k : ℕ) → IsGoodScene scene → IsTask scene Kick task → IsReady scene task (leaf_of scene task) block → k < length (members_of scene (leaf_of scene task))
    → is_due_at scene (get_or (members_of scene (leaf_of scene task)) k 0) ≡ true
    → get_or block.forces.items k [] ≡ force_at scene.params scene.tick scene.start (particle_at scene (get_or (members_of scene (leaf_of scene task)) k 0))
force_here scene task block k good is ready low due =
    let leaf = leaf_of scene task in
    let ms = members_of scene leaf in
    let i = get_or ms k 0 in
    let p = particle_at scene i in
    let done = done_of block in
    let others = met scene Force done i in
    let touched = touches_its_leaf scene Kick task tt good is in
    ap (λ (fs : List (List ℤ)). get_or fs k []) (parts_held scene leaf done block ready.agrees.rows).forces ∙ get_or-map (λ i. force_with scene (met scene Force done i) i) ms k 0 [] low
    ∙ chosen (is_due_at scene i) (force_of (place_of scene) (ghost_at scene.params scene.tick scene.start) others p) p.f due
    ∙ forces_are_whole scene leaf done i good (all_done scene Force Kick task leaf block is refl touched ready) (member_at scene leaf k low) due

place_here : (scene : Scene) (task : ℕ) (block : BlockRows) (k : ℕ) → IsGoodScene scene → IsTask scene Kick task → IsReady scene task (leaf_of scene task) block → k < length (members_of scene (leaf_of scene task))
    → is_due_at scene (get_or (members_of scene (leaf_of scene task)) k 0) ≡ true
    → (get_or block.spots.items k (record { place = []; h = 0 })).place ≡ place_of scene (particle_at scene (get_or (members_of scene (leaf_of scene task)) k 0))
place_here scene task block k good is ready low due =
    let leaf = leaf_of scene task in
    let ms = members_of scene leaf in
    let i = get_or ms k 0 in
    let p = particle_at scene i in
    let done = done_of block in
    let none : Spot = record { place = []; h = 0 } in
    let drifted = is_done_on scene Drift leaf done in
    let touched = touches_its_leaf scene Kick task tt good is in
    ap (λ (ss : List Spot). (get_or ss k none).place) (parts_held scene leaf done block ready.agrees.rows).spots ∙ ap (λ (s : Spot). s.place) (get_or-map (spot_with scene drifted) ms k 0 none low)
    ∙ where_drifted scene.drift drifted p.x0 (place_of scene p) (λ drifts. drift_done scene good task leaf i block is touched ready drifts (member_at scene leaf k low) due)

low_of : (scene : Scene) (leaf : ℕ) (block : BlockRows) (k : ℕ) → Agrees scene leaf block → k < length block.moving.items → k < length (members_of scene leaf)
low_of scene leaf block k agrees inside =
    let kicks = is_done_on scene Kick leaf (done_of block) in
    omega (arith, inside, ap length (parts_held scene leaf (done_of block) block agrees.rows).moving, length-map (members_of scene leaf) (moving_with scene kicks))

pub can_kick : (scene : Scene) (task : ℕ) (block : BlockRows) (summed : Summed) → IsGoodScene scene → IsTask scene Kick task → IsReady scene task (leaf_of scene task) block → AreOf block summed
    → (k : ℕ) → k < length block.moving.items → get_or summed.due.now k false ≡ true → CanKick scene summed k (get_or block.moving.items k no_moving)
can_kick scene task block summed good is ready are k inside flag =
    let leaf = leaf_of scene task in
    let ms = members_of scene leaf in
    let i = get_or ms k 0 in
    let q = particle_at scene i in
    let m = get_or block.moving.items k no_moving in
    let f = force_at_index summed k in
    let low = low_of scene leaf block k ready.agrees inside in
    let in_scene = member_inside scene leaf i good.leaves (member_at scene leaf k low) in
    let sound = sound_at scene i good in_scene in
    let due : is_due_at scene i ≡ true = sym (ap (λ (bs : List Bool). get_or bs k false) are.due ∙ due_at scene leaf block k ready.agrees low) ∙ flag in
    let same = moving_at scene task block k good is ready low in
    let bin : m.bin ≡ q.bin = ap (λ (x : Moving). x.bin) same in
    let momentum : m.p ≡ q.p = ap (λ (x : Moving). x.p) same in
    let same_place : place_of scene (with_force m f) ≡ place_of scene q = ap (λ (x : Moving). place_of scene (with_force x f)) same ∙ place_of_moving scene q f in
    record {
      bin = rw bin sound.bin;
      place = ap (λ (ss : List Spot). (get_or ss k (record { place = []; h = 0 })).place) are.spots ∙ place_here scene task block k good is ready low due ∙ sym same_place;
      force = rw (ap (λ (fs : List (List ℤ)). get_or fs k []) are.forces ∙ force_here scene task block k good is ready low due) (force_small scene i good in_scene);
      momentum = rw momentum sound.near.momentum;
    }

pub kick_added : (scene : Scene) (task : ℕ) (before mid after : BlockRows) (summed : Summed) → IsGoodScene scene → IsTask scene Kick task → IsReady scene task (leaf_of scene task) before → AreOf before summed → AreEach (kick_at scene summed) before.moving.items mid.moving.items
    → record mid { moving = before.moving } ≡ before → IsMarked task mid after → IsAdded scene task (leaf_of scene task) before after
kick_added scene task before mid after summed good is ready are written unchanged marked =
    let leaf = leaf_of scene task in
    let done = done_of before in
    let ms = members_of scene leaf in
    let agrees = ready.agrees in
    let kicks = is_done_on scene Kick leaf done in
    let parts = parts_held scene leaf done before agrees.rows in
    let long = ap length parts.moving ∙ length-map ms (moving_with scene kicks) in
    let each = λ (k : ℕ) (low : k < length ms).
    let i = get_or ms k 0 in
    let q = particle_at scene i in
    let m = get_or before.moving.items k no_moving in
    let same = moving_at scene task before k good is ready low in
    let x = kicked_by scene (force_at_index summed k) m in
    ap (λ b. if b then x else m) (ap (λ (bs : List Bool). get_or bs k false) are.due ∙ due_at scene leaf before k agrees low)
    ∙ moving_after (is_due_at scene i) x m q (kicked scene.params scene.tick scene.start q)
    (λ due. kicked_moving scene m q (force_at_index summed k) same (ap (λ (fs : List (List ℤ)). get_or fs k []) are.forces ∙ force_here scene task before k good is ready low due))
    same in
    made_added scene Kick task before mid after tt good is ready
    (record { leaf = ap (λ (x : BlockRows). x.leaf) unchanged; members = ap (λ (x : BlockRows). x.members.items) unchanged; marks = ap (λ (x : BlockRows). x.marks.items) unchanged; due = ap (λ (x : BlockRows). x.due.items) unchanged; extent = subst (λ (x : BlockRows). AreWithin x.extent x.spots.items) (sym unchanged) agrees.extent })
    (record {
      spots = ap (λ (x : BlockRows). x.spots.items) unchanged ∙ parts.spots;
      pulls = ap (λ (x : BlockRows). x.pulls.items) unchanged ∙ parts.pulls;
      rhos = ap (λ (x : BlockRows). x.rhos.items) unchanged ∙ parts.rhos;
      forces = ap (λ (x : BlockRows). x.forces.items) unchanged ∙ parts.forces;
      moving = sym (map-id mid.moving.items) ∙ written_of_members (λ m. m) (kick_at scene summed) ms (moving_with scene true) before.moving.items mid.moving.items no_moving long written each;
    })
    marked
