-- Blocks that were given to by the members of a task's other range, and marked, have the task added.
use Rattle.std.proofs.Common.{◌≡◌, ℕ, ◌+◌, ◌-◌, ◌<◌, true, false, List, length, map, get_or, flat_map, fold, Contains, inl, inr, subst, refl, sym, ap, ◌∙◌, arith}
use Rattle.std.specs.List.{range_with_len}
use Rattle.std.specs.Simd.Lanes.{zip2}
use Rattle.std.proofs.lemmas.Bool.{cases_Bool}
use Rattle.std.proofs.lemmas.List.{map-id}
use Rattle.std.proofs.lemmas.List.Folds.{fold_stays}
use Rattle.std.proofs.lemmas.Simd.{zip2-map}
use Rattle.lists.proofs.Elements.{map_agree, three-eq}
use Rattle.sph_num.specs.declared.kind.Kind.TheVariants.{Drift, Density, Ghost, Force, Kick}
use Rattle.sph_num.specs.declared.particle.Particle.{Particle}
use Rattle.sph_num.specs.Density.{density_of}
use Rattle.sph_num.specs.Force.{force_of}
use Rattle.sph_num.specs.Kinds.{same_kind}
use Rattle.sph_bins.specs.Kick.{ghost_at}
use Rattle.cell_block.specs.declared.rows.BlockRows.{BlockRows}
use Rattle.cell_block.specs.declared.rows.Mark.{Mark}
use Rattle.cell_block.specs.declared.scene.Scene.{Scene}
use Rattle.cell_block.specs.Blocks.{Agrees, AreAdded, AreDoneWith, AreReady, IsAdded, done_of}
use Rattle.cell_block.specs.Content.{is_done_on, met}
use Rattle.cell_block.specs.Extents.{AreWithin}
use Rattle.cell_block.specs.Scene.{IsGoodScene, is_due_at, is_in, line_at, members_in, members_of, particle_at, place_of, touches}
use Rattle.cell_block.specs.Tasks.{IsMarked, IsTask}
use Rattle.cell_block.proofs.Added.{added, done_in}
use Rattle.cell_block.proofs.Done.{chosen, is_done_on_other_kind, met_other_kind, not_chosen}
use Rattle.cell_block.proofs.LeafMembers.{Contains-members_in, in_range}
use Rattle.cell_block.proofs.Lines.{IsNewlyDone, density_more, force_more}
use Rattle.cell_block.proofs.Others.{AreOthers}
use Rattle.cell_block.proofs.Parts.{AreDone, force_with, parts_held, rho_with}
use Rattle.cell_kern.specs.declared.members.Member.{Member}
use Rattle.cell_kern.specs.inner.Gathered.{force_given, rho_given}
use Rattle.cell_kern.specs.inner.Taking.{AreGivenTo, AreMarked, Densities, Forces, HasForces, HasRhos, Sums, kind_of, rows_in}
use Rattle.cell_kern.proofs.AtTick.{density_of_sources, force_of_members, member_at_tick, rows_at_tick, rows_of_range, rows_sources, source_at, source_of, tick_seen}
use Rattle.cell_kern.proofs.Forces.{force_waits}
use Rattle.cell_kern.proofs.Order.{density_drifted, force_drifted, force_ghosted}
use Rattle.cell_kern.proofs.Seen.{rows_seen, seen}

-- what a member's density is with the task done, where the others are those that the task brings together with it
density_value : (scene : Scene) (task leaf i : ℕ) (done done' : List ℕ) (all : List Member) (others : List ℕ) → IsNewlyDone scene Density task done done' → AreOthers scene (line_at scene task) i others
    → (scene.drift ≡ true → is_done_on scene Drift leaf done ≡ true) → map source_of all ≡ map (source_at scene) others
    → fold (rho_given (seen scene leaf done i)) (rho_with scene (met scene Density done i) i) all ≡ rho_with scene (met scene Density done' i) i
density_value scene task leaf i done done' all others new are drifted sources =
    let p = particle_at scene i in
    let rho = rho_with scene (met scene Density done i) i in
    let sum = λ (tasks : List ℕ). density_of (place_of scene) (met scene Density tasks i) p in
    let more = density_of (place_of scene) (map (particle_at scene) others) p in
    elim (cases_Bool (is_due_at scene i)) [
      | inl due ↦
          density_of_sources scene leaf done i rho all others due drifted sources ∙ ap (λ n. n + more) (chosen (is_due_at scene i) (sum done) p.rho due) ∙ sym (density_more scene task i done done' others new due are)
          ∙ sym (chosen (is_due_at scene i) (sum done') p.rho due)
      | inr waits ↦
          fold_stays (rho_given (seen scene leaf done i)) rho (λ m. not_chosen (is_due_at scene i) _ rho waits) all
          ∙ not_chosen (is_due_at scene i) (sum done) p.rho waits
          ∙ sym (not_chosen (is_due_at scene i) (sum done') p.rho waits)
    ]

-- and its force: where it is due, the others are at the tick and have their ghosts
force_value : (scene : Scene) (task leaf i : ℕ) (done done' : List ℕ) (all : List Member) (others : List ℕ) → IsNewlyDone scene Force task done done' → AreOthers scene (line_at scene task) i others
    → (is_due_at scene i ≡ true → seen scene leaf done i ≡ member_at_tick scene i) → (is_due_at scene i ≡ true → map (λ (m : Member). m) all ≡ map (member_at_tick scene) others)
    → fold (force_given (seen scene leaf done i)) (force_with scene (met scene Force done i) i) all ≡ force_with scene (met scene Force done' i) i
force_value scene task leaf i done done' all others new are at_tick members =
    let p = particle_at scene i in
    let f = force_with scene (met scene Force done i) i in
    let sum = λ (tasks : List ℕ). force_of (place_of scene) (ghost_at scene.params scene.tick scene.start) (met scene Force tasks i) p in
    elim (cases_Bool (is_due_at scene i)) [
      | inl due ↦
          let on = λ (axis : ℕ). sym (force_more scene task i axis done done' others new due are) in
          ap (λ m. fold (force_given m) f all) (at_tick due)
          ∙ ap (λ x. fold (force_given (member_at_tick scene i)) x all) (chosen (is_due_at scene i) (sum done) p.f due)
          ∙ ap (fold (force_given (member_at_tick scene i)) (sum done)) (sym (map-id all) ∙ members due)
          ∙ force_of_members scene i (sum done) others due refl
          ∙ three-eq _ _ _ _ _ _ (on 0) (on 1) (on 2)
          ∙ sym (chosen (is_due_at scene i) (sum done') p.f due)
      | inr waits ↦
          fold_stays (force_given (seen scene leaf done i)) f (λ m. force_waits (seen scene leaf done i) f m waits) all
          ∙ not_chosen (is_due_at scene i) (sum done) p.f waits
          ∙ sym (not_chosen (is_due_at scene i) (sum done') p.f waits)
    ]

-- a column of sums after what all gave
column_given : {X : Type 0} (given : Member → X → Member → X) (old new : ℕ → X) (scene : Scene) (leaf : ℕ) (block : BlockRows) (sums : List X) (all : List Member) → Agrees scene leaf block → sums ≡ map old (members_of scene leaf)
    → ((i : ℕ) → Contains (members_of scene leaf) i → fold (given (seen scene leaf (done_of block) i)) (old i) all ≡ new i) → zip2 (λ member sum. fold (given member) sum all) (rows_in block) sums ≡ map new (members_of scene leaf)
column_given given old new scene leaf block sums all agrees are each =
    let see = seen scene leaf (done_of block) in
    let ms = members_of scene leaf in
    let f = λ (member : Member) (sum : _). fold (given member) sum all in
    ap (λ rows. zip2 f rows sums) (rows_seen scene leaf block agrees)
    ∙ ap (zip2 f (map see ms)) are
    ∙ zip2-map f see old ms
    ∙ map_agree (λ i. fold (given (see i)) (old i) all) new ms each

-- with a density more whom each member met in densities is other, with a force more in forces
done_more : (scene : Scene) (leaf task : ℕ) (done done' : List ℕ) → AreDoneWith done task done' → same_kind (line_at scene task).kind Drift ≡ false → same_kind (line_at scene task).kind Ghost ≡ false → same_kind (line_at scene task).kind Kick ≡ false
    → (in_densities in_forces : ℕ → List Particle) → ((i : ℕ) → met scene Density done' i ≡ in_densities i) → ((i : ℕ) → met scene Force done' i ≡ in_forces i)
    → AreDone scene leaf done' (is_done_on scene Drift leaf done) (is_done_on scene Ghost leaf done) (is_done_on scene Kick leaf done) in_densities in_forces
done_more scene leaf task done done' more drift made kick in_densities in_forces densities forces = record {
  drift = is_done_on_other_kind scene Drift leaf task done done' more drift;
  ghosted = is_done_on_other_kind scene Ghost leaf task done done' more made;
  kicked = is_done_on_other_kind scene Kick leaf task done done' more kick;
  densities = densities;
  forces = forces;
}

density_added : (scene : Scene) (task leaf : ℕ) (before mid after : BlockRows) (all : List Member) → (line_at scene task).kind ≡ Density → Agrees scene leaf before → HasRhos before all mid → IsMarked task mid after
    → ((i : ℕ) → Contains (members_of scene leaf) i → AreDoneWith (done_of before) task (done_of after)
    → fold (rho_given (seen scene leaf (done_of before) i)) (rho_with scene (met scene Density (done_of before) i) i) all ≡ rho_with scene (met scene Density (done_of after) i) i)
    → IsAdded scene task leaf before after
density_added scene task leaf before mid after all kind agrees given marked each =
    let done = done_of before in
    let done' = done_of after in
    let parts = parts_held scene leaf done before agrees.rows in
    let more : AreDoneWith done task done' = subst (λ (ms : List Mark). AreDoneWith (done_in ms) task done') (ap (λ (b : BlockRows). b.marks.items) given.unchanged) marked.done in
    let new = λ (i : ℕ). met scene Density done' i in
    let old = λ (i : ℕ). met scene Force done i in
    added scene task leaf (is_done_on scene Drift leaf done) (is_done_on scene Ghost leaf done) (is_done_on scene Kick leaf done) new old before mid after agrees
    (record { leaf = ap (λ (b : BlockRows). b.leaf) given.unchanged; members = ap (λ (b : BlockRows). b.members.items) given.unchanged; marks = ap (λ (b : BlockRows). b.marks.items) given.unchanged; due = ap (λ (b : BlockRows). b.due.items) given.unchanged; extent = subst (λ (b : BlockRows). AreWithin b.extent b.spots.items) (sym given.unchanged) agrees.extent })
    (record {
      spots = ap (λ (b : BlockRows). b.spots.items) given.unchanged ∙ parts.spots;
      pulls = ap (λ (b : BlockRows). b.pulls.items) given.unchanged ∙ parts.pulls;
      rhos = given.rhos
          ∙ column_given rho_given (λ i. rho_with scene (met scene Density done i) i) (λ i. rho_with scene (new i) i) scene leaf before before.rhos.items all agrees parts.rhos (λ i at. each i at more);
      forces = ap (λ (b : BlockRows). b.forces.items) given.unchanged ∙ parts.forces;
      moving = ap (λ (b : BlockRows). b.moving.items) given.unchanged ∙ parts.moving;
    })
    marked
    (λ added. done_more scene leaf task done done' added (ap (λ k. same_kind k Drift) kind) (ap (λ k. same_kind k Ghost) kind) (ap (λ k. same_kind k Kick) kind) new old (λ i. refl)
    (λ i. met_other_kind scene Force task i done done' added (ap (λ k. same_kind k Force) kind)))

force_added : (scene : Scene) (task leaf : ℕ) (before mid after : BlockRows) (all : List Member) → (line_at scene task).kind ≡ Force → Agrees scene leaf before → HasForces before all mid → IsMarked task mid after
    → ((i : ℕ) → Contains (members_of scene leaf) i → AreDoneWith (done_of before) task (done_of after)
    → fold (force_given (seen scene leaf (done_of before) i)) (force_with scene (met scene Force (done_of before) i) i) all ≡ force_with scene (met scene Force (done_of after) i) i)
    → IsAdded scene task leaf before after
force_added scene task leaf before mid after all kind agrees given marked each =
    let done = done_of before in
    let done' = done_of after in
    let parts = parts_held scene leaf done before agrees.rows in
    let more : AreDoneWith done task done' = subst (λ (ms : List Mark). AreDoneWith (done_in ms) task done') (ap (λ (b : BlockRows). b.marks.items) given.unchanged) marked.done in
    let old = λ (i : ℕ). met scene Density done i in
    let new = λ (i : ℕ). met scene Force done' i in
    added scene task leaf (is_done_on scene Drift leaf done) (is_done_on scene Ghost leaf done) (is_done_on scene Kick leaf done) old new before mid after agrees
    (record { leaf = ap (λ (b : BlockRows). b.leaf) given.unchanged; members = ap (λ (b : BlockRows). b.members.items) given.unchanged; marks = ap (λ (b : BlockRows). b.marks.items) given.unchanged; due = ap (λ (b : BlockRows). b.due.items) given.unchanged; extent = subst (λ (b : BlockRows). AreWithin b.extent b.spots.items) (sym given.unchanged) agrees.extent })
    (record {
      spots = ap (λ (b : BlockRows). b.spots.items) given.unchanged ∙ parts.spots;
      pulls = ap (λ (b : BlockRows). b.pulls.items) given.unchanged ∙ parts.pulls;
      rhos = ap (λ (b : BlockRows). b.rhos.items) given.unchanged ∙ parts.rhos;
      forces = given.forces
          ∙ column_given force_given (λ i. force_with scene (met scene Force done i) i) (λ i. force_with scene (new i) i) scene leaf before before.forces.items all agrees parts.forces (λ i at. each i at more);
      moving = ap (λ (b : BlockRows). b.moving.items) given.unchanged ∙ parts.moving;
    })
    marked
    (λ added. done_more scene leaf task done done' added (ap (λ k. same_kind k Drift) kind) (ap (λ k. same_kind k Ghost) kind) (ap (λ k. same_kind k Kick) kind) old new
    (λ i. met_other_kind scene Density task i done done' added (ap (λ k. same_kind k Density) kind)) (λ i. refl))

-- the leaf of a block of a range
leaf_in : (range : ℕ × ℕ) (k n : ℕ) → n ≡ range.1 - range.0 → k < n → is_in range (range.0 + k) ≡ true
leaf_in range k n count low = in_range range (range.0 + k) (omega arith) (omega arith)

abbrev Touched : Scene → ℕ → ℕ × ℕ → Type 0
Touched scene task range = (leaf : ℕ) → is_in range leaf ≡ true → touches (line_at scene task) leaf ≡ true

-- the members of the other range, as a density reads them, and as a force with a due member does
sources_of : (scene : Scene) (task : ℕ) (range : ℕ × ℕ) (blocks : List BlockRows) → IsGoodScene scene → IsTask scene Density task → Touched scene task range → AreReady scene task range blocks
    → map source_of (flat_map rows_in blocks) ≡ map (source_at scene) (members_in scene range)
sources_of scene task range blocks good is touched ready =
    rows_of_range source_of (source_at scene) scene range.0 blocks
    (λ k d low.
    let block = get_or blocks k d in
    let one = ready.ready k d low in
    rows_sources scene (range.0 + k) block one.agrees (density_drifted scene (range.0 + k) task block good is (touched (range.0 + k) (leaf_in range k (length blocks) ready.one_each low)) one))
    ∙ ap (λ n. map (source_at scene) (flat_map (members_of scene) (range_with_len range.0 n))) ready.one_each

members_at_tick : (scene : Scene) (task there i : ℕ) (range : ℕ × ℕ) (blocks : List BlockRows) → IsGoodScene scene → IsTask scene Force task → Touched scene task range → touches (line_at scene task) there ≡ true → Contains (members_of scene there) i → is_due_at scene i ≡ true
    → AreReady scene task range blocks → map (λ (m : Member). m) (flat_map rows_in blocks) ≡ map (member_at_tick scene) (members_in scene range)
members_at_tick scene task there i range blocks good is touched touched_there at due ready =
    rows_of_range (λ (m : Member). m) (member_at_tick scene) scene range.0 blocks
    (λ k d low.
    let block = get_or blocks k d in
    let one = ready.ready k d low in
    let leaf = range.0 + k in
    let here = touched leaf (leaf_in range k (length blocks) ready.one_each low) in
    rows_at_tick scene leaf block one.agrees (force_drifted scene leaf there i task block good is here touched_there at due one) (λ j at_j due_j. force_ghosted scene leaf j task block good is here at_j due_j one))
    ∙ ap (λ n. map (member_at_tick scene) (flat_map (members_of scene) (range_with_len range.0 n))) ready.one_each

-- so the task is added to each block of a range
pub range_added : (sums : Sums) (scene : Scene) (task : ℕ) (range other : ℕ × ℕ) (blocks others mids news : List BlockRows) → IsGoodScene scene → IsTask scene (kind_of sums) task → AreReady scene task range blocks → AreReady scene task other others
    → Touched scene task range → Touched scene task other → ((i : ℕ) → Contains (members_in scene range) i → AreOthers scene (line_at scene task) i (members_in scene other))
    → AreGivenTo sums blocks (flat_map rows_in others) mids → AreMarked task mids news → AreAdded scene task range blocks news
range_added Densities scene task range other blocks others mids news good is ready others_ready touched others_touched are given marked =
    let sources = sources_of scene task other others good is others_touched others_ready in
    record {
      one_each = marked.same_length ∙ given.same_length;
      added = λ k d low.
          let leaf = range.0 + k in
          let before = get_or blocks k d in
          let after = get_or news k d in
          let one = ready.ready k d low in
          let in_this = leaf_in range k (length blocks) ready.one_each low in
          density_added scene task leaf before (get_or mids k d) after (flat_map rows_in others) is.is_kind one.agrees (given.given k d low) (marked.marked k d (omega (arith, given.same_length)))
          (λ i at more. density_value scene task leaf i (done_of before) (done_of after) (flat_map rows_in others) (members_in scene other) (record { good = good; same = is.is_kind; not_done = one.not_done; more = more })
          (are i (Contains-members_in scene range leaf i in_this at)) (density_drifted scene leaf task before good is (touched leaf in_this) one) sources);
    }
range_added Forces scene task range other blocks others mids news good is ready others_ready touched others_touched are given marked = record {
  one_each = marked.same_length ∙ given.same_length;
  added = λ k d low.
      let leaf = range.0 + k in
      let before = get_or blocks k d in
      let after = get_or news k d in
      let one = ready.ready k d low in
      let in_this = leaf_in range k (length blocks) ready.one_each low in
      let here = touched leaf in_this in
      force_added scene task leaf before (get_or mids k d) after (flat_map rows_in others) is.is_kind one.agrees (given.given k d low) (marked.marked k d (omega (arith, given.same_length)))
      (λ i at more. force_value scene task leaf i (done_of before) (done_of after) (flat_map rows_in others) (members_in scene other) (record { good = good; same = is.is_kind; not_done = one.not_done; more = more })
      (are i (Contains-members_in scene range leaf i in_this at))
      (λ due. tick_seen scene leaf (done_of before) i (force_drifted scene leaf leaf i task before good is here here at due one) (λ due_i. force_ghosted scene leaf i task before good is here at due_i one))
      (λ due. members_at_tick scene task leaf i other others good is others_touched here at due others_ready));
}
