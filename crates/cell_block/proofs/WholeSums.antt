-- Once every task of a kind that touches a leaf is done there, the sums of its due members are whole: who isn't met counts for nothing.
use Rattle.std.proofs.Common.{◌≡◌, ℕ, ◌<◌, ◌||◌, true, List, filter, map, length, inl, inr, refl, ap, sym, ◌∙◌}
use Rattle.std.specs.Prelude.{pos, ◌+◌, ◌+ℤ◌, Option, Some, None, slice_get, sum_by}
use Rattle.std.specs.List.{Contains, list_any, range_with_len}
use Rattle.std.proofs.lemmas.Option.{get_or_from_slice_get, slice_get_cases}
use Rattle.std.proofs.lemmas.List.FromFn.{fill_by_all}
use Rattle.lists.proofs.Elements.{three-eq}
use Rattle.lists.proofs.Ranges.{below_from_numbers}
use Rattle.sph_num.specs.declared.kind.Kind.{Kind}
use Rattle.sph_num.specs.declared.kind.Kind.TheVariants.{Drift, Density, Ghost, Force, Kick}
use Rattle.sph_num.specs.declared.particle.Particle.{Particle}
use Rattle.sph_num.specs.Cover.{JustOne, MeetIn, MeetsAs, meets}
use Rattle.sph_num.specs.Density.{density_of}
use Rattle.sph_num.specs.Force.{force_from}
use Rattle.sph_num.specs.Kinds.{same_kind}
use Rattle.sph_num.specs.Totals.{total_by}
use Rattle.sph_num.proofs.Meetings.{meets-decides}
use Rattle.sph_bins.specs.Kick.{ghost_at}
use Rattle.cell_block.specs.declared.scene.Scene.{Scene}
use Rattle.cell_block.specs.declared.scene.TaskLine.{TaskLine}
use Rattle.cell_block.specs.Content.{met}
use Rattle.cell_block.specs.Laws.{AllDone, DensitiesAreWhole, ForcesAreWhole}
use Rattle.cell_block.specs.Scene.{AreLeaves, IsGoodScene, LineMeets, group_of, is_due_at, is_in, is_in_second, line_at, members_in, members_in_second, members_of, no_particle, particle_at, place_of, touches}
use Rattle.cell_block.proofs.Done.{both_true, either_true, list_any-from_Contains, same_kind_of}
use Rattle.cell_block.proofs.LeafMembers.{leaf_is_in, member_inside}
use Rattle.cell_block.proofs.Lines.{IsSum-sum_by, IsSum-total_by, brings, density_by_indices, density_counts, density_term, force_by_indices, force_counts, force_term}
use Rattle.cell_block.proofs.SplitSums.{total_all}

-- a task that meets a member of a leaf touches the leaf
touches_in : (scene : Scene) (first : ℕ × ℕ) (second : Option (ℕ × ℕ)) (leaf i j : ℕ) → AreLeaves scene → Contains (members_of scene leaf) i → MeetIn (members_in scene first) (members_in_second scene second) i j
    → (is_in first leaf || is_in_second second leaf) ≡ true
touches_in scene first None leaf i j are at meet = either_true (is_in first leaf) (is_in_second None leaf) (inl (leaf_is_in scene first leaf i are at meet.0))
touches_in scene first (Some second) leaf i j are at meet =
    either_true (is_in first leaf) (is_in second leaf)
    (elim meet [
      | inl here ↦ inl (leaf_is_in scene first leaf i are at here.0)
      | inr there ↦ inr (leaf_is_in scene second leaf i are at there.1)
    ])

touches_alone : (scene : Scene) (line : TaskLine) (leaf i : ℕ) → AreLeaves scene → Contains (members_of scene leaf) i → Contains (members_in scene line.first) i → touches line leaf ≡ true
touches_alone scene line leaf i are at within = either_true (is_in line.first leaf) (is_in_second line.second leaf) (inl (leaf_is_in scene line.first leaf i are at within))

pub touches_met : (scene : Scene) (kind : Kind) (line : TaskLine) (leaf i j : ℕ) → AreLeaves scene → Contains (members_of scene leaf) i → MeetsAs kind i j (group_of scene line) → touches line leaf ≡ true
touches_met scene Density line leaf i j are at meet =
    elim meet [
      | inl two ↦ touches_in scene line.first line.second leaf i j are at two.1
      | inr alone ↦ touches_alone scene line leaf i are at alone.1.member
    ]
touches_met scene Force line leaf i j are at meet = touches_in scene line.first line.second leaf i j are at meet.1
touches_met scene Drift line leaf i j are at meet = absurd meet
touches_met scene Ghost line leaf i j are at meet = absurd meet
touches_met scene Kick line leaf i j are at meet = absurd meet

-- the place of an element lies in the list
place_inside : {X : Type 0} (xs : List X) (k : ℕ) (x : X) → slice_get xs k ≡ Some x → k < length xs
place_inside xs k x stands =
    elim (slice_get_cases xs k).1 [
      | inl inside ↦ inside.1
      | inr past ↦ cc
    ]

-- where the one task that meets a pair is done, the pair is met
pub pair_is_met : (scene : Scene) (kind : Kind) (leaf i j : ℕ) (done : List ℕ) → AreLeaves scene → AllDone scene kind leaf done → Contains (members_of scene leaf) i → JustOne scene.tasks (LineMeets scene kind i j)
    → list_any (brings scene kind i j) done ≡ true
pair_is_met scene kind leaf i j done are all at one =
    let task = one.index in
    let line : line_at scene task ≡ one.element = get_or_from_slice_get scene.tasks task one.element _ one.stands in
    let does : LineMeets scene kind i j (line_at scene task) = rw line one.it_does in
    let inside = place_inside scene.tasks task one.element one.stands in
    let held = all task inside does.0 (touches_met scene kind (line_at scene task) leaf i j are at does.1) in
    list_any-from_Contains (brings scene kind i j) done task held
    (both_true (same_kind (line_at scene task).kind kind) (meets kind i j (group_of scene (line_at scene task))) (same_kind_of (line_at scene task).kind kind does.0)
    ((meets-decides kind i j (group_of scene (line_at scene task))).1 does.1))

-- the list of the scene by its indices
start_is : (scene : Scene) → scene.start ≡ map (particle_at scene) (range_with_len 0 (length scene.start))
start_is scene = fill_by_all (particle_at scene) scene.start (length scene.start) no_particle refl (λ k inside. refl)

pub densities_are_whole : DensitiesAreWhole
densities_are_whole scene leaf done i good all at due =
    let n = length scene.start in
    let inside = member_inside scene leaf i good.leaves at in
    let p = λ (j : ℕ). list_any (brings scene Density i j) done in
    density_by_indices scene i (filter p (range_with_len 0 n))
    ∙ total_all ◌+◌ 0 (λ f xs. sum_by f xs) IsSum-sum_by (density_term scene i) p (range_with_len 0 n)
    (λ j held. elim (density_counts scene i j good inside (below_from_numbers n j held) due) [
      | inl e ↦ inl e
      | inr one ↦ inr (pair_is_met scene Density leaf i j done good.leaves all at one)
    ])
    ∙ sym (density_by_indices scene i (range_with_len 0 n))
    ∙ ap (λ list. density_of (place_of scene) list (particle_at scene i)) (sym (start_is scene))

whole_on : (scene : Scene) (leaf : ℕ) (done : List ℕ) (i axis : ℕ) → IsGoodScene scene → AllDone scene Force leaf done → Contains (members_of scene leaf) i → is_due_at scene i ≡ true
    → total_by (λ q. force_from (place_of scene) (ghost_at scene.params scene.tick scene.start) axis (particle_at scene i) q) (met scene Force done i)
    ≡ total_by (λ q. force_from (place_of scene) (ghost_at scene.params scene.tick scene.start) axis (particle_at scene i) q) scene.start
whole_on scene leaf done i axis good all at due =
    let n = length scene.start in
    let inside = member_inside scene leaf i good.leaves at in
    let p = λ (j : ℕ). list_any (brings scene Force i j) done in
    let from = λ (q : Particle). force_from (place_of scene) (ghost_at scene.params scene.tick scene.start) axis (particle_at scene i) q in
    force_by_indices scene axis i (filter p (range_with_len 0 n))
    ∙ total_all ◌+ℤ◌ (pos 0) (λ f xs. total_by f xs) IsSum-total_by (force_term scene axis i) p (range_with_len 0 n)
    (λ j held. elim (force_counts scene axis i j good inside (below_from_numbers n j held) due) [
      | inl e ↦ inl e
      | inr one ↦ inr (pair_is_met scene Force leaf i j done good.leaves all at one.1)
    ])
    ∙ sym (force_by_indices scene axis i (range_with_len 0 n))
    ∙ ap (total_by from) (sym (start_is scene))

pub forces_are_whole : ForcesAreWhole
forces_are_whole scene leaf done i good all at due =
    three-eq _ _ _ _ _ _ (whole_on scene leaf done i 0 good all at due) (whole_on scene leaf done i 1 good all at due) (whole_on scene leaf done i 2 good all at due)
