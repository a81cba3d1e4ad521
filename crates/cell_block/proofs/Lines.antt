-- What a density or a force adds to a sum: a term for each particle that it brings together with the member.
use Rattle.std.proofs.Common.{◌≡◌, ◌≢◌, ℕ, zero, suc, ◌+◌, ◌*◌, ◌<◌, ◌≤◌, ◌&&◌, ◌||◌, max, Bool, true, false, List, [], ◌∷◌, filter, map, length, get_or, sum_by, inl, inr, refl, ap, sym, ◌∙◌, ◌⊎◌, arith}
use Rattle.std.specs.Prelude.{ℤ, pos, ◌+ℤ◌, ◌*ℤ◌}
use Rattle.std.specs.List.{Contains, list_any, range_with_len}
use Rattle.std.proofs.lemmas.Bool.{both_ways, cases_Bool, cases_eq, cases_lt}
use Rattle.std.proofs.lemmas.Bool.Decides.{nat_tests}
use Rattle.std.proofs.lemmas.Int.{ints}
use Rattle.std.proofs.lemmas.List.{get_or_past}
use Rattle.std.proofs.lemmas.List.Folds.{fold-map}
use Rattle.std.proofs.lemmas.List.Sums.{sum_by-cons}
use Rattle.std.proofs.lemmas.Nat.{mul-le}
use Rattle.std.proofs.lemmas.Option.{slice_get-get_or}
use Rattle.lists.proofs.Ranges.{below_from_numbers}
use Rattle.sph_num.specs.declared.kind.Kind.{Kind}
use Rattle.sph_num.specs.declared.kind.Kind.TheVariants.{Drift, Density, Ghost, Force, Kick}
use Rattle.sph_num.specs.declared.particle.Particle.{Particle}
use Rattle.sph_num.specs.Cover.{Group, JustOne, is_member, meets}
use Rattle.sph_num.specs.Density.{density_of, density_within}
use Rattle.sph_num.specs.Force.{force_from, force_of}
use Rattle.sph_num.specs.Kinds.{same_kind}
use Rattle.sph_num.specs.Space.{dist2, minimal}
use Rattle.sph_num.specs.Totals.{component, total_by}
use Rattle.sph_num.proofs.Forces.{force_factor_out_of_reach, force_from_self}
use Rattle.sph_num.proofs.Meetings.{meets-decides}
use Rattle.sph_bins.specs.Kick.{ghost_at}
use Rattle.cell_block.specs.declared.scene.Scene.{Scene}
use Rattle.cell_block.specs.declared.scene.TaskLine.{TaskLine}
use Rattle.cell_block.specs.Blocks.{AreDoneWith}
use Rattle.cell_block.specs.Content.{met}
use Rattle.cell_block.specs.Scene.{IsGoodScene, LineMeets, group_of, is_due_at, line_at, particle_at, place_of}
use Rattle.cell_block.proofs.Done.{Contains-from_list_any, list_any-with, same_kind_itself}
use Rattle.cell_block.proofs.Others.{AreOthers}
use Rattle.cell_block.proofs.SplitSums.{IsSum, Splits, total_distinct, total_split}

-- a task of this kind that wasn't done is done
pub record IsNewlyDone (scene : Scene) (kind : Kind) (task : ℕ) (done done' : List ℕ) : Type 0 where
  pub good : IsGoodScene scene
  pub same : (line_at scene task).kind ≡ kind
  pub not_done : Contains done task → ⊥
  pub more : AreDoneWith done task done'

-- a task of the kind brings two particles together
abbrev pub brings : Scene → Kind → ℕ → ℕ → ℕ → Bool
brings scene kind i j task = same_kind (line_at scene task).kind kind && meets kind i j (group_of scene (line_at scene task))

pub kind_of_same : (a b : Kind) → same_kind a b ≡ true → a ≡ b
kind_of_same Drift Drift t = refl
kind_of_same Density Density t = refl
kind_of_same Ghost Ghost t = refl
kind_of_same Force Force t = refl
kind_of_same Kick Kick t = refl
kind_of_same _ _ t = absurd (both_ways false refl t)

pub both_tests : (a b : Bool) → (a && b) ≡ true → (a ≡ true) × (b ≡ true)
both_tests true b t = (refl, t)
both_tests false b t = absurd (both_ways false refl t)

-- no drift brings particles together
no_drift : (kind : Kind) (i j : ℕ) (group : Group) → (same_kind Drift kind && meets kind i j group) ≡ true → ⊥
no_drift Drift i j group t = both_ways false refl t
no_drift Density i j group t = both_ways false refl t
no_drift Ghost i j group t = both_ways false refl t
no_drift Force i j group t = both_ways false refl t
no_drift Kick i j group t = both_ways false refl t

pub brings_inside : (scene : Scene) (kind : Kind) (i j task : ℕ) → brings scene kind i j task ≡ true → task < length scene.tasks
brings_inside scene kind i j task t =
    elim (cases_lt task (length scene.tasks)) [
      | inl inside ↦ inside
      | inr past ↦
          let line : line_at scene task ≡ record { kind = Drift; first = (0, 0); second = _ } = get_or_past scene.tasks task _ past in
          absurd (no_drift kind i j (group_of scene (line_at scene task)) (ap (λ (l : TaskLine). same_kind l.kind kind && meets kind i j (group_of scene (line_at scene task))) (sym line) ∙ t))
    ]

pub LineMeets-from_brings : (scene : Scene) (kind : Kind) (i j task : ℕ) → brings scene kind i j task ≡ true → LineMeets scene kind i j (line_at scene task)
LineMeets-from_brings scene kind i j task t =
    let line = line_at scene task in
    let both = both_tests (same_kind line.kind kind) (meets kind i j (group_of scene line)) t in
    (kind_of_same line.kind kind both.0, (meets-decides kind i j (group_of scene line)).0 both.1)

-- where just one task meets a pair, two that bring it together are one
same_task : (scene : Scene) (kind : Kind) (i j a b : ℕ) → JustOne scene.tasks (LineMeets scene kind i j) → brings scene kind i j a ≡ true → brings scene kind i j b ≡ true → a ≡ b
same_task scene kind i j a b one brings_a brings_b =
    one.no_other a (line_at scene a) (slice_get-get_or scene.tasks a _ (brings_inside scene kind i j a brings_a)) (LineMeets-from_brings scene kind i j a brings_a)
    ∙ sym (one.no_other b (line_at scene b) (slice_get-get_or scene.tasks b _ (brings_inside scene kind i j b brings_b)) (LineMeets-from_brings scene kind i j b brings_b))

-- a pair counts for nothing, or the task meets it just where the other is among the others, and no other task does
abbrev Counts : Scene → Kind → ℕ → ℕ → Bool → ℕ → {X : Type 0} → X → X → Type 0
Counts scene kind i j among task none value =
    (value ≡ none) ⊎ ((among ≡ meets kind i j (group_of scene (line_at scene task))) × JustOne scene.tasks (LineMeets scene kind i j))

pair_splits : {X : Type 0} (none value : X) (scene : Scene) (kind : Kind) (i j task : ℕ) (done done' : List ℕ) (among : Bool) → IsNewlyDone scene kind task done done'
    → Counts scene kind i j among task none value → Splits none value (list_any (brings scene kind i j) done') (list_any (brings scene kind i j) done) among
pair_splits none value scene kind i j task done done' among new counts =
    elim counts [
      | inl e ↦ inl e
      | inr both ↦
          let p = brings scene kind i j in
          let meeting = meets kind i j (group_of scene (line_at scene task)) in
          let is : p task ≡ among = ap (λ k. same_kind k kind && meeting) new.same ∙ ap (λ b. b && meeting) (same_kind_itself kind) ∙ sym both.0 in
          inr (
            list_any-with p done done' task new.more ∙ ap (λ b. list_any p done || b) is,
            λ was. elim (cases_Bool among) [
              | inl t ↦
                  let some = Contains-from_list_any p done was in
                  absurd (new.not_done (rw (same_task scene kind i j some.0 task both.1 some.2 (is ∙ t)) at some.1))
              | inr f ↦ f
            ],
          )
    ]

-- what a line adds to any sum over whom the done tasks bring together with a particle
line_more : {X : Type 0} (plus : X → X → X) (none : X) (total : (ℕ → X) → List ℕ → X) → IsSum plus none total
    → (f : ℕ → X) (scene : Scene) (kind : Kind) (i task : ℕ) (done done' others : List ℕ) → IsNewlyDone scene kind task done done' → AreOthers scene (line_at scene task) i others
    → ((j : ℕ) → j < length scene.start → Counts scene kind i j (is_member others j) task none (f j))
    → total f (filter (λ j. list_any (brings scene kind i j) done') (range_with_len 0 (length scene.start)))
    ≡ plus (total f (filter (λ j. list_any (brings scene kind i j) done) (range_with_len 0 (length scene.start)))) (total f others)
line_more plus none total is f scene kind i task done done' others new are counts =
    let n = length scene.start in
    let before = λ (j : ℕ). list_any (brings scene kind i j) done in
    total_split plus none total is f (λ j. list_any (brings scene kind i j) done') before (is_member others) (range_with_len 0 n)
    (λ j at. pair_splits none (f j) scene kind i j task done done' (is_member others j) new (counts j (below_from_numbers n j at)))
    ∙ ap (plus (total f (filter before (range_with_len 0 n)))) (total_distinct plus none total is f n others are.distinct are.inside)

-- the sums of numbers, and of signed ones
pub IsSum-sum_by : IsSum ◌+◌ 0 (λ f xs. sum_by f xs)
IsSum-sum_by = record {
  nil = λ f. refl;
  cons = λ f x xs. sum_by-cons f x xs;
  zero = λ x. omega arith;
  turned = λ x y. omega arith;
  joined = λ x y z. omega arith;
}

pub IsSum-total_by : IsSum ◌+ℤ◌ (pos 0) (λ f xs. total_by f xs)
IsSum-total_by = record {
  nil = λ f. refl;
  cons = λ f x xs. refl;
  zero = λ x. omega (arith, ints);
  turned = λ x y. omega (arith, ints);
  joined = λ x y z. omega (arith, ints);
}

-- the part of each pair
abbrev pub density_term : Scene → ℕ → ℕ → ℕ
density_term scene i j =
    let p = particle_at scene i in
    let q = particle_at scene j in
    density_within q.mass (dist2 (place_of scene p) (place_of scene q)) p.h

abbrev pub force_term : Scene → ℕ → ℕ → ℕ → ℤ
force_term scene axis i j = force_from (place_of scene) (ghost_at scene.params scene.tick scene.start) axis (particle_at scene i) (particle_at scene j)

-- out of reach it is nothing
density_far : (mass r2 h h' : ℕ) → max h h' * max h h' ≤ r2 → density_within mass r2 h ≡ 0
density_far mass r2 h h' far =
    let wide = mul-le h h (max h h') (max h h') (omega arith) (omega arith) in
    let beyond : h * h ≤ r2 = omega arith in
    grind (arith, nat_tests)

force_far : (scene : Scene) (axis i j : ℕ) → max (particle_at scene i).h (particle_at scene j).h * max (particle_at scene i).h (particle_at scene j).h ≤ dist2 (place_of scene (particle_at scene i)) (place_of scene (particle_at scene j))
    → force_term scene axis i j ≡ pos 0
force_far scene axis i j far =
    let p = particle_at scene i in
    let q = particle_at scene j in
    let g = ghost_at scene.params scene.tick scene.start in
    let none = force_factor_out_of_reach p.mass q.mass p.h q.h (g p) (g q) (dist2 (place_of scene p) (place_of scene q)) far in
    let offset = minimal (get_or (place_of scene p) axis 0) (get_or (place_of scene q) axis 0) in
    let zero_times : pos 0 *ℤ offset ≡ pos 0 = omega (arith, ints) in
    ap (λ n. pos n *ℤ offset) none ∙ zero_times

-- a sum over particles as one over their indices
sum_by_indices : (g : Particle → ℕ) (scene : Scene) (indices : List ℕ) → sum_by g (map (particle_at scene) indices) ≡ sum_by (λ j. g (particle_at scene j)) indices
sum_by_indices g scene indices = fold-map (λ a x. a + g x) (particle_at scene) 0 indices

total_by_indices : (g : Particle → ℤ) (scene : Scene) (indices : List ℕ) → total_by g (map (particle_at scene) indices) ≡ total_by (λ j. g (particle_at scene j)) indices
total_by_indices g scene [] = refl
total_by_indices g scene (i ∷ indices) = ap (λ z. g (particle_at scene i) +ℤ z) (total_by_indices g scene indices)

pub density_by_indices : (scene : Scene) (i : ℕ) (indices : List ℕ) → density_of (place_of scene) (map (particle_at scene) indices) (particle_at scene i) ≡ sum_by (density_term scene i) indices
density_by_indices scene i indices =
    let p = particle_at scene i in
    sum_by_indices (λ q. density_within q.mass (dist2 (place_of scene p) (place_of scene q)) p.h) scene indices

pub force_by_indices : (scene : Scene) (axis i : ℕ) (indices : List ℕ)
    → total_by (λ q. force_from (place_of scene) (ghost_at scene.params scene.tick scene.start) axis (particle_at scene i) q) (map (particle_at scene) indices) ≡ total_by (force_term scene axis i) indices
force_by_indices scene axis i indices = total_by_indices (λ q. force_from (place_of scene) (ghost_at scene.params scene.tick scene.start) axis (particle_at scene i) q) scene indices

-- which pairs of a due particle count, and are met just once
pub density_counts : (scene : Scene) (i j : ℕ) → IsGoodScene scene → i < length scene.start → j < length scene.start → is_due_at scene i ≡ true
    → (density_term scene i j ≡ 0) ⊎ JustOne scene.tasks (LineMeets scene Density i j)
density_counts scene i j good inside inside' due =
    let p = particle_at scene i in
    let q = particle_at scene j in
    let r2 = dist2 (place_of scene p) (place_of scene q) in
    elim (cases_eq i j) [
      | inl same ↦ inr (rw (sym same) (good.covers.selves i inside due))
      | inr other ↦ elim (cases_lt r2 (max p.h q.h * max p.h q.h)) [
        | inl near ↦ inr (good.covers.densities i j inside inside' other near (inl due))
        | inr far ↦ inl (density_far q.mass r2 p.h q.h far)
      ]
    ]

pub force_counts : (scene : Scene) (axis i j : ℕ) → IsGoodScene scene → i < length scene.start → j < length scene.start → is_due_at scene i ≡ true
    → (force_term scene axis i j ≡ pos 0) ⊎ ((i ≢ j) × JustOne scene.tasks (LineMeets scene Force i j))
force_counts scene axis i j good inside inside' due =
    let p = particle_at scene i in
    let q = particle_at scene j in
    let r2 = dist2 (place_of scene p) (place_of scene q) in
    let g = ghost_at scene.params scene.tick scene.start in
    elim (cases_eq i j) [
      | inl same ↦ inl (ap (λ k. force_term scene axis i k) (sym same) ∙ force_from_self (place_of scene) g axis p)
      | inr other ↦ elim (cases_lt r2 (max p.h q.h * max p.h q.h)) [
        | inl near ↦ inr (other, good.covers.forces i j inside inside' other near (inl due))
        | inr far ↦ inl (force_far scene axis i j far)
      ]
    ]

-- what the line adds to the density of a due member
pub density_more : (scene : Scene) (task i : ℕ) (done done' others : List ℕ) → IsNewlyDone scene Density task done done' → is_due_at scene i ≡ true
    → AreOthers scene (line_at scene task) i others
    → density_of (place_of scene) (met scene Density done' i) (particle_at scene i)
    ≡ density_of (place_of scene) (met scene Density done i) (particle_at scene i) + density_of (place_of scene) (map (particle_at scene) others) (particle_at scene i)
density_more scene task i done done' others new due are =
    let indices = λ (tasks : List ℕ). filter (λ j. list_any (brings scene Density i j) tasks) (range_with_len 0 (length scene.start)) in
    rw (density_by_indices scene i (indices done'), density_by_indices scene i (indices done), density_by_indices scene i others)
    (line_more ◌+◌ 0 (λ f xs. sum_by f xs) IsSum-sum_by (density_term scene i) scene Density i task done done' others new are
    (λ j inside. elim (density_counts scene i j new.good are.member inside due) [ inl e ↦ inl e | inr one ↦ inr (are.density j, one) ]))

force_more_on : (scene : Scene) (task i axis : ℕ) (done done' others : List ℕ) → IsNewlyDone scene Force task done done' → is_due_at scene i ≡ true
    → AreOthers scene (line_at scene task) i others
    → total_by (λ q. force_from (place_of scene) (ghost_at scene.params scene.tick scene.start) axis (particle_at scene i) q) (met scene Force done' i)
    ≡ total_by (λ q. force_from (place_of scene) (ghost_at scene.params scene.tick scene.start) axis (particle_at scene i) q) (met scene Force done i)
    +ℤ total_by (λ q. force_from (place_of scene) (ghost_at scene.params scene.tick scene.start) axis (particle_at scene i) q) (map (particle_at scene) others)
force_more_on scene task i axis done done' others new due are =
    let indices = λ (tasks : List ℕ). filter (λ j. list_any (brings scene Force i j) tasks) (range_with_len 0 (length scene.start)) in
    rw (force_by_indices scene axis i (indices done'), force_by_indices scene axis i (indices done), force_by_indices scene axis i others)
    (line_more ◌+ℤ◌ (pos 0) (λ f xs. total_by f xs) IsSum-total_by (force_term scene axis i) scene Force i task done done' others new are
    (λ j inside. elim (force_counts scene axis i j new.good are.member inside due) [ inl e ↦ inl e | inr one ↦ inr (are.force j one.0, one.1) ]))

-- what it adds to the force on it, on each axis
pub force_more : (scene : Scene) (task i axis : ℕ) (done done' others : List ℕ) → IsNewlyDone scene Force task done done' → is_due_at scene i ≡ true
    → AreOthers scene (line_at scene task) i others
    → component (force_of (place_of scene) (ghost_at scene.params scene.tick scene.start) (met scene Force done' i) (particle_at scene i)) axis
    ≡ component (force_of (place_of scene) (ghost_at scene.params scene.tick scene.start) (met scene Force done i) (particle_at scene i)) axis
    +ℤ component (force_of (place_of scene) (ghost_at scene.params scene.tick scene.start) (map (particle_at scene) others) (particle_at scene i)) axis
force_more scene task i zero done done' others new due are = force_more_on scene task i 0 done done' others new due are
force_more scene task i (suc zero) done done' others new due are = force_more_on scene task i 1 done done' others new due are
force_more scene task i (suc (suc zero)) done done' others new due are = force_more_on scene task i 2 done done' others new due are
force_more scene task i (suc (suc (suc axis))) done done' others new due are = omega (arith, ints)
