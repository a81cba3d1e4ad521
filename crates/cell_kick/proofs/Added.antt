-- From what a task on a leaf wrote into a list of its block to the task added.
use Rattle.std.proofs.Common.{◌≡◌, ℕ, ◌<◌, ◌≤◌, ◌||◌, Bool, true, false, inl, inr, if◌then◌else◌, List, [], length, get_or, All, Contains, subst, refl, sym, ap, ◌∙◌, arith}
use Rattle.std.specs.Prelude.{⊤}
use Rattle.std.proofs.lemmas.Bool.{cases_Bool}
use Rattle.std.proofs.lemmas.List.{get_or_default, get_or-map, length-map, map-id}
use Rattle.lists.proofs.Elements.{All-from_Contains}
use Rattle.sph_num.specs.declared.kind.Kind.{Kind}
use Rattle.sph_num.specs.declared.kind.Kind.TheVariants.{Drift, Density, Ghost, Force, Kick}
use Rattle.sph_num.specs.Density.{density_of}
use Rattle.sph_num.specs.Force.{ghost_value}
use Rattle.sph_num.specs.Kinds.{same_kind}
use Rattle.sph_num.specs.Pull.{Puller, puller}
use Rattle.sph_num.proofs.Drifts.{IsPlace-position_of}
use Rattle.sph_bins.specs.Kick.{density_at}
use Rattle.sph_bins.proofs.Narrow.{density_at-ge}
use Rattle.cell_block.specs.declared.rows.BlockRows.{BlockRows}
use Rattle.cell_block.specs.declared.rows.Spot.{Spot}
use Rattle.cell_block.specs.declared.scene.Scene.{Scene}
use Rattle.cell_block.specs.Blocks.{Agrees, AreDoneWith, IsAdded, IsReady, done_of}
use Rattle.cell_block.specs.Content.{is_done_on, met}
use Rattle.cell_block.specs.Extents.{AreWithin, HavePlaces}
use Rattle.cell_block.specs.Scene.{IsGoodScene, is_due_at, line_at, members_of, no_particle, particle_at, place_of, touches}
use Rattle.cell_block.specs.Tasks.{IsMarked, IsTask}
use Rattle.cell_block.proofs.Added.{IsSame, added}
use Rattle.cell_block.proofs.Done.{chosen, is_done_on_leaf, is_done_on_other_kind, met_other_kind}
use Rattle.cell_block.proofs.LeafMembers.{member_inside}
use Rattle.cell_block.proofs.Lines.{kind_of_same}
use Rattle.cell_block.proofs.Order.{all_done, on_leaf, task_part, touches_first}
use Rattle.cell_block.proofs.Parts.{HoldsParts, parts_held, pull_with, rho_with, spot_with, where_drifted}
use Rattle.cell_block.proofs.WholeSums.{densities_are_whole}
use Rattle.cell_kick.specs.inner.Written.{AreEach, ghosted, ghosts_at, spots_at, tick_spot}
use Rattle.cell_kick.proofs.Loops.{written_of_members}

-- the leaf of a task on one leaf
abbrev pub leaf_of : Scene → ℕ → ℕ
leaf_of scene task = (line_at scene task).first.0

-- a kind whose tasks stand on one leaf each
abbrev pub IsOfLeaves : Kind → Type 0
IsOfLeaves Drift = ⊤
IsOfLeaves Ghost = ⊤
IsOfLeaves Kick = ⊤
IsOfLeaves _ = ⊥

pub touches_its_leaf : (scene : Scene) (kind : Kind) (task : ℕ) → IsOfLeaves kind → IsGoodScene scene → IsTask scene kind task → touches (line_at scene task) (leaf_of scene task) ≡ true
touches_its_leaf scene Drift task of good is = touches_first Drift _ (line_at scene task) (on_leaf Drift _ (line_at scene task) (task_part scene good Drift task is))
touches_its_leaf scene Ghost task of good is = touches_first Ghost _ (line_at scene task) (on_leaf Ghost _ (line_at scene task) (task_part scene good Ghost task is))
touches_its_leaf scene Kick task of good is = touches_first Kick _ (line_at scene task) (on_leaf Kick _ (line_at scene task) (task_part scene good Kick task is))
touches_its_leaf scene Density task of good is = absurd of
touches_its_leaf scene Force task of good is = absurd of

-- what is done on its leaf once a task of a kind is done besides
abbrev done_with : Scene → Kind → ℕ → List ℕ → Kind → Bool
done_with scene own leaf done kind = same_kind own kind || is_done_on scene kind leaf done

is_done_with : (scene : Scene) (own kind : Kind) (leaf task : ℕ) (done done' : List ℕ) → AreDoneWith done task done' → (line_at scene task).kind ≡ own → touches (line_at scene task) leaf ≡ true
    → is_done_on scene kind leaf done' ≡ done_with scene own leaf done kind
is_done_with scene own kind leaf task done done' more is touched =
    let old = is_done_on scene kind leaf done in
    elim (cases_Bool (same_kind own kind)) [
      | inl same ↦ is_done_on_leaf scene kind leaf task done done' more (is ∙ kind_of_same own kind same) touched ∙ sym (ap (λ b. b || old) same)
      | inr other ↦ is_done_on_other_kind scene kind leaf task done done' more (ap (λ k. same_kind k kind) is ∙ other) ∙ sym (ap (λ b. b || old) other)
    ]

not_of_pairs : (kind : Kind) → IsOfLeaves kind → (same_kind kind Density ≡ false) × (same_kind kind Force ≡ false)
not_of_pairs Drift of = (refl, refl)
not_of_pairs Ghost of = (refl, refl)
not_of_pairs Kick of = (refl, refl)
not_of_pairs Density of = absurd of
not_of_pairs Force of = absurd of

-- the lists of a block hold what is done on it, and what a task of this kind makes of its members
abbrev pub HoldsMade : Scene → Kind → ℕ → List ℕ → BlockRows → Type 0
HoldsMade scene kind leaf done block =
    HoldsParts scene leaf (done_with scene kind leaf done Drift) (done_with scene kind leaf done Ghost) (done_with scene kind leaf done Kick) (λ i. met scene Density done i) (λ i. met scene Force done i) block

pub made_added : (scene : Scene) (kind : Kind) (task : ℕ) (before mid after : BlockRows) → IsOfLeaves kind → IsGoodScene scene → IsTask scene kind task → IsReady scene task (leaf_of scene task) before → IsSame before mid
    → HoldsMade scene kind (leaf_of scene task) (done_of before) mid → IsMarked task mid after → IsAdded scene task (leaf_of scene task) before after
made_added scene kind task before mid after of good is ready same made marked =
    let leaf = leaf_of scene task in
    let done = done_of before in
    let done' = done_of after in
    let touched = touches_its_leaf scene kind task of good is in
    let apart = not_of_pairs kind of in
    added scene task leaf (done_with scene kind leaf done Drift) (done_with scene kind leaf done Ghost) (done_with scene kind leaf done Kick) (λ i. met scene Density done i) (λ i. met scene Force done i) before mid after ready.agrees same made marked
    (λ more. record {
      drift = is_done_with scene kind Drift leaf task done done' more is.is_kind touched;
      ghosted = is_done_with scene kind Ghost leaf task done done' more is.is_kind touched;
      kicked = is_done_with scene kind Kick leaf task done done' more is.is_kind touched;
      densities = λ i. met_other_kind scene Density task i done done' more (ap (λ k. same_kind k Density) is.is_kind ∙ apart.0);
      forces = λ i. met_other_kind scene Force task i done done' more (ap (λ k. same_kind k Force) is.is_kind ∙ apart.1);
    })

-- a member of the leaf at a place
pub member_at : (scene : Scene) (leaf k : ℕ) → k < length (members_of scene leaf) → Contains (members_of scene leaf) (get_or (members_of scene leaf) k 0)
member_at scene leaf k low = let ms = members_of scene leaf in (k, low, get_or_default ms k (get_or ms k 0) 0 low)

pub members_inside : (scene : Scene) (leaf : ℕ) (block : BlockRows) → IsGoodScene scene → Agrees scene leaf block → All (λ i. i < length scene.start) block.members.items
members_inside scene leaf block good agrees =
    rw agrees.members (All-from_Contains (λ i. i < length scene.start) (members_of scene leaf) (λ i at. member_inside scene leaf i good.leaves at))

-- a drift, after which each member has a place
pub have_places : (scene : Scene) (members : List ℕ) (before after : List Spot) → AreEach (spots_at scene members) before after → HavePlaces after
have_places scene members before after are =
    λ k d inside.
    let i = get_or members k 0 in
    rw (are.each k d (omega (arith, are.same_length))) (IsPlace-position_of scene.params.shift scene.tick (particle_at scene i))

abbrev the_spot : ℕ → List ℕ → Spot
the_spot h place = record { place = place; h = h }

drifted_spot : (scene : Scene) (i : ℕ) → tick_spot scene i ≡ spot_with scene true i
drifted_spot scene i = let p = particle_at scene i in ap (the_spot p.h) (sym (where_drifted scene.drift true p.x0 (place_of scene p) (λ is. refl)))

pub drift_added : (scene : Scene) (task : ℕ) (before mid after : BlockRows) → IsGoodScene scene → IsTask scene Drift task → IsReady scene task (leaf_of scene task) before → AreEach (spots_at scene before.members.items) before.spots.items mid.spots.items
    → record mid { spots = before.spots; extent = before.extent } ≡ before → AreWithin mid.extent mid.spots.items → IsMarked task mid after → IsAdded scene task (leaf_of scene task) before after
drift_added scene task before mid after good is ready written unchanged within marked =
    let leaf = leaf_of scene task in
    let done = done_of before in
    let ms = members_of scene leaf in
    let agrees = ready.agrees in
    let parts = parts_held scene leaf done before agrees.rows in
    let none : Spot = record { place = []; h = 0 } in
    let long = ap length parts.spots ∙ length-map ms (spot_with scene (is_done_on scene Drift leaf done)) in
    made_added scene Drift task before mid after tt good is ready
    (record { leaf = ap (λ (x : BlockRows). x.leaf) unchanged; members = ap (λ (x : BlockRows). x.members.items) unchanged; marks = ap (λ (x : BlockRows). x.marks.items) unchanged; due = ap (λ (x : BlockRows). x.due.items) unchanged; extent = within })
    (record {
      spots = sym (map-id mid.spots.items)
          ∙ written_of_members (λ s. s) (spots_at scene before.members.items) ms (spot_with scene true) before.spots.items mid.spots.items none long written
          (λ k low. ap (λ (xs : List ℕ). tick_spot scene (get_or xs k 0)) agrees.members ∙ drifted_spot scene (get_or ms k 0));
      pulls = ap (λ (x : BlockRows). x.pulls.items) unchanged ∙ parts.pulls;
      rhos = ap (λ (x : BlockRows). x.rhos.items) unchanged ∙ parts.rhos;
      forces = ap (λ (x : BlockRows). x.forces.items) unchanged ∙ parts.forces;
      moving = ap (λ (x : BlockRows). x.moving.items) unchanged ∙ parts.moving;
    })
    marked

-- a ghost: what stands in the lists for a member, and the densities of due members, which are whole
made_pull : (due made : Bool) (sound h m rho rho' r v g : ℕ) → v ≡ ghost_value sound r → (due ≡ true → rho ≡ r)
    → ghosted sound due (if due then rho else rho') (puller h m (if due then (if made then (if due then v else g) else g) else g)) ≡ puller h m (if due then (if true then (if due then v else g) else g) else g)
made_pull true made sound h m rho rho' r v g value whole = ap (λ x. puller h m (ghost_value sound x)) (whole refl) ∙ ap (puller h m) (sym value)
made_pull false made sound h m rho rho' r v g value whole = refl

whole_density : (scene : Scene) (task i : ℕ) (block : BlockRows) → IsGoodScene scene → IsTask scene Ghost task → IsReady scene task (leaf_of scene task) block → Contains (members_of scene (leaf_of scene task)) i → is_due_at scene i ≡ true
    → density_of (place_of scene) (met scene Density (done_of block) i) (particle_at scene i) ≡ density_at scene.params scene.tick scene.start (particle_at scene i)
whole_density scene task i block good is ready at due =
    let leaf = leaf_of scene task in
    densities_are_whole scene leaf (done_of block) i good (all_done scene Density Ghost task leaf block is refl (touches_its_leaf scene Ghost task tt good is) ready) at due

-- the flags and the densities of the lists
pub due_at : (scene : Scene) (leaf : ℕ) (block : BlockRows) (k : ℕ) → Agrees scene leaf block → k < length (members_of scene leaf) → get_or block.due.items k false ≡ is_due_at scene (get_or (members_of scene leaf) k 0)
due_at scene leaf block k agrees low = ap (λ (bs : List Bool). get_or bs k false) agrees.due ∙ get_or-map (is_due_at scene) (members_of scene leaf) k 0 false low

rho_at : (scene : Scene) (leaf : ℕ) (block : BlockRows) (k : ℕ) → Agrees scene leaf block → k < length (members_of scene leaf)
    → get_or block.rhos.items k 0 ≡ rho_with scene (met scene Density (done_of block) (get_or (members_of scene leaf) k 0)) (get_or (members_of scene leaf) k 0)
rho_at scene leaf block k agrees low =
    ap (λ (xs : List ℕ). get_or xs k 0) (parts_held scene leaf (done_of block) block agrees.rows).rhos
    ∙ get_or-map (λ i. rho_with scene (met scene Density (done_of block) i) i) (members_of scene leaf) k 0 0 low

pub in_list : (scene : Scene) (i : ℕ) → i < length scene.start → Contains scene.start (particle_at scene i)
in_list scene i inside = (i, inside, get_or_default scene.start i (particle_at scene i) no_particle inside)

pub dense : (scene : Scene) (task : ℕ) (block : BlockRows) → IsGoodScene scene → IsTask scene Ghost task → IsReady scene task (leaf_of scene task) block → (k : ℕ) → k < length block.pulls.items → get_or block.due.items k false ≡ true → 20 ≤ get_or block.rhos.items k 0
dense scene task block good is ready k inside due =
    let leaf = leaf_of scene task in
    let ms = members_of scene leaf in
    let i = get_or ms k 0 in
    let agrees = ready.agrees in
    let made = is_done_on scene Ghost leaf (done_of block) in
    let low : k < length ms = omega (arith, inside, ap length (parts_held scene leaf (done_of block) block agrees.rows).pulls, length-map ms (pull_with scene made)) in
    let at = member_at scene leaf k low in
    let here : is_due_at scene i ≡ true = sym (due_at scene leaf block k agrees low) ∙ due in
    let p = particle_at scene i in
    let rho : get_or block.rhos.items k 0 ≡ density_at scene.params scene.tick scene.start p =
    rho_at scene leaf block k agrees low ∙ chosen (is_due_at scene i) (density_of (place_of scene) (met scene Density (done_of block) i) p) p.rho here ∙ whole_density scene task i block good is ready at here in
    rw rho (density_at-ge scene.params scene.bounds scene.tick scene.start p good.in_bounds (in_list scene i (member_inside scene leaf i good.leaves at)))

pub ghost_added : (scene : Scene) (task : ℕ) (before mid after : BlockRows) → IsGoodScene scene → IsTask scene Ghost task → IsReady scene task (leaf_of scene task) before → AreEach (ghosts_at scene.params.sound before.due.items before.rhos.items) before.pulls.items mid.pulls.items
    → record mid { pulls = before.pulls } ≡ before → IsMarked task mid after → IsAdded scene task (leaf_of scene task) before after
ghost_added scene task before mid after good is ready written unchanged marked =
    let leaf = leaf_of scene task in
    let done = done_of before in
    let ms = members_of scene leaf in
    let agrees = ready.agrees in
    let made = is_done_on scene Ghost leaf done in
    let parts = parts_held scene leaf done before agrees.rows in
    let long = ap length parts.pulls ∙ length-map ms (pull_with scene made) in
    let sound = scene.params.sound in
    let each = λ (k : ℕ) (low : k < length ms).
    let i = get_or ms k 0 in
    let p = particle_at scene i in
    let others = met scene Density done i in
    let pull = get_or before.pulls.items k (puller 0 0 0) in
    ap (λ b. ghosted sound b (get_or before.rhos.items k 0) pull) (due_at scene leaf before k agrees low)
    ∙ ap (λ r. ghosted sound (is_due_at scene i) r pull) (rho_at scene leaf before k agrees low)
    ∙ ap (ghosted sound (is_due_at scene i) (rho_with scene others i)) (ap (λ (xs : List Puller). get_or xs k (puller 0 0 0)) parts.pulls ∙ get_or-map (pull_with scene made) ms k 0 (puller 0 0 0) low)
    ∙ made_pull (is_due_at scene i) made sound p.h p.mass (density_of (place_of scene) others p) p.rho (density_at scene.params scene.tick scene.start p) (ghost_value sound (density_at scene.params scene.tick scene.start p)) p.g refl
    (λ due. whole_density scene task i before good is ready (member_at scene leaf k low) due) in
    made_added scene Ghost task before mid after tt good is ready
    (record { leaf = ap (λ (x : BlockRows). x.leaf) unchanged; members = ap (λ (x : BlockRows). x.members.items) unchanged; marks = ap (λ (x : BlockRows). x.marks.items) unchanged; due = ap (λ (x : BlockRows). x.due.items) unchanged; extent = subst (λ (x : BlockRows). AreWithin x.extent x.spots.items) (sym unchanged) agrees.extent })
    (record {
      spots = ap (λ (x : BlockRows). x.spots.items) unchanged ∙ parts.spots;
      pulls = sym (map-id mid.pulls.items) ∙ written_of_members (λ p. p) (ghosts_at sound before.due.items before.rhos.items) ms (pull_with scene true) before.pulls.items mid.pulls.items (puller 0 0 0) long written each;
      rhos = ap (λ (x : BlockRows). x.rhos.items) unchanged ∙ parts.rhos;
      forces = ap (λ (x : BlockRows). x.forces.items) unchanged ∙ parts.forces;
      moving = ap (λ (x : BlockRows). x.moving.items) unchanged ∙ parts.moving;
    })
    marked
