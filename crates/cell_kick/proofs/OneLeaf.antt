-- A scene whose particles stand in one leaf is good, with the tasks of the one span of that leaf.
use Rattle.std.proofs.Common.{◌≡◌, ℕ, zero, suc, ◌^◌, ◌<◌, Bool, true, false, cond, List, [], ◌∷◌, ◌++◌, map, length, inl, inr, refl, ap, sym, subst, ◌∙◌, arith}
use Rattle.std.specs.Prelude.{Some, None, slice_get}
use Rattle.std.specs.List.{All, Contains, list_any, range_with_len}
use Rattle.std.specs.List.Sorted.{IsStrictlyIncreasing}
use Rattle.std.proofs.lemmas.Bool.{both_ways}
use Rattle.std.proofs.lemmas.List.Elements.{All-cons, All-nil}
use Rattle.lists.proofs.Elements.{All-from_Contains}
use Rattle.lists.proofs.Ranges.{Contains-numbers, below_from_numbers, numbers_rise}
use Rattle.sph_num.specs.declared.kind.Kind.{Kind}
use Rattle.sph_num.specs.declared.kind.Kind.TheVariants.{Drift, Density, Ghost, Force, Kick}
use Rattle.sph_num.specs.Cover.{JustOne, MeetsAs}
use Rattle.sph_num.specs.Kinds.{same_kind}
use Rattle.sph_bins.specs.Bins.{IsStepTick}
use Rattle.sph_bins.specs.InBounds.{InBounds}
use Rattle.cell_block.specs.declared.scene.Scene.{Scene}
use Rattle.cell_block.specs.declared.scene.TaskLine.{TaskLine}
use Rattle.cell_block.specs.Scene.{AreLeaves, IsGoodScene, IsRangeSpan, group_of, is_due_at, leaf_line, lines_of, members_in, members_of, span_line}
use Rattle.cell_kick.specs.inner.OneLeaf.{four_lines, one_leaf_lines, only_span}
use Rattle.cell_block.proofs.Done.{same_kind_of}
use Rattle.cell_block.proofs.LeafMembers.{Contains-members_in}

-- a line of another kind is none that has this one
pub other_kind : (kind : Kind) (line x : TaskLine) → same_kind line.kind kind ≡ false → Some line ≡ Some x → x.kind ≡ kind → ⊥
other_kind kind line x differs is same =
    let e : line ≡ x = cc in
    both_ways (same_kind line.kind kind) differs (same_kind_of line.kind kind (ap (λ (l : TaskLine). l.kind) e ∙ same))

pub nothing : (x : TaskLine) → None ≡ Some x → ⊥
nothing x e = cc

-- which of these lines is a density, and which a force
density_of_four : (other : ℕ) (x : TaskLine) → slice_get four_lines other ≡ Some x → x.kind ≡ Density → other ≡ 0
density_of_four zero x stands is = refl
density_of_four (suc zero) x stands is = absurd (other_kind Density (leaf_line Ghost 0) x refl stands is)
density_of_four (suc (suc zero)) x stands is = absurd (other_kind Density (span_line Force only_span) x refl stands is)
density_of_four (suc (suc (suc zero))) x stands is = absurd (other_kind Density (leaf_line Kick 0) x refl stands is)
density_of_four (suc (suc (suc (suc other)))) x stands is = absurd (nothing x stands)

force_of_four : (other : ℕ) (x : TaskLine) → slice_get four_lines other ≡ Some x → x.kind ≡ Force → other ≡ 2
force_of_four zero x stands is = absurd (other_kind Force (span_line Density only_span) x refl stands is)
force_of_four (suc zero) x stands is = absurd (other_kind Force (leaf_line Ghost 0) x refl stands is)
force_of_four (suc (suc zero)) x stands is = refl
force_of_four (suc (suc (suc zero))) x stands is = absurd (other_kind Force (leaf_line Kick 0) x refl stands is)
force_of_four (suc (suc (suc (suc other)))) x stands is = absurd (nothing x stands)

-- behind a drift
behind_drift : (kind : Kind) (index : ℕ) → same_kind Drift kind ≡ false → ((other : ℕ) (x : TaskLine) → slice_get four_lines other ≡ Some x → x.kind ≡ kind → other ≡ index)
    → (other : ℕ) (x : TaskLine) → slice_get (one_leaf_lines true) other ≡ Some x → x.kind ≡ kind → other ≡ suc index
behind_drift kind index differs only zero x stands is = absurd (other_kind kind (leaf_line Drift 0) x differs stands is)
behind_drift kind index differs only (suc other) x stands is = ap suc (only other x stands is)

just_density : (drift : Bool) (does : TaskLine → Type 0) → does (span_line Density only_span) → JustOne (one_leaf_lines drift) (λ line. (line.kind ≡ Density) × does line)
just_density true does it =
    record { index = 1; element = span_line Density only_span; stands = refl; it_does = (refl, it); no_other = λ other x stands is. behind_drift Density 0 refl density_of_four other x stands is.0 }
just_density false does it =
    record { index = 0; element = span_line Density only_span; stands = refl; it_does = (refl, it); no_other = λ other x stands is. density_of_four other x stands is.0 }

just_force : (drift : Bool) (does : TaskLine → Type 0) → does (span_line Force only_span) → JustOne (one_leaf_lines drift) (λ line. (line.kind ≡ Force) × does line)
just_force true does it =
    record { index = 3; element = span_line Force only_span; stands = refl; it_does = (refl, it); no_other = λ other x stands is. behind_drift Force 2 refl force_of_four other x stands is.0 }
just_force false does it =
    record { index = 2; element = span_line Force only_span; stands = refl; it_does = (refl, it); no_other = λ other x stands is. force_of_four other x stands is.0 }

-- the one leaf has each index once
no_list : (x : List ℕ) → None ≡ Some x → ⊥
no_list x e = cc

first_alone : (members : List ℕ) (i other : ℕ) (x : List ℕ) → slice_get (members ∷ []) other ≡ Some x → Contains x i → other ≡ 0
first_alone members i zero x stands at = refl
first_alone members i (suc other) x stands at = absurd (no_list x stands)

only_leaf : (leaves : List (List ℕ)) (members : List ℕ) (i : ℕ) → leaves ≡ members ∷ [] → Contains members i → JustOne leaves (λ ms. Contains ms i)
only_leaf leaves members i is at = rw is (record { index = 0; element = members; stands = refl; it_does = at; no_other = first_alone members i })

AreLeaves-one : (scene : Scene) → scene.leaves ≡ range_with_len 0 (length scene.start) ∷ [] → AreLeaves scene
AreLeaves-one scene leaves =
    let n = length scene.start in
    let members = range_with_len 0 n in
    record {
      one_leaf = λ i inside. only_leaf scene.leaves members i leaves (Contains-numbers n i inside);
      members = rw leaves (All-cons (All (λ i. i < n)) members [] (All-from_Contains (λ i. i < n) members (λ i at. below_from_numbers n i at)) (All-nil (All (λ i. i < n))));
      rising = rw leaves (All-cons IsStrictlyIncreasing members [] (numbers_rise n) (All-nil IsStrictlyIncreasing));
    }

-- the tasks of its span
lines_by : (drift some : Bool) → some ≡ true
    → map (leaf_line Drift) (cond drift (0 ∷ []) []) ++ (span_line Density only_span ∷ []) ++ map (leaf_line Ghost) (cond some (0 ∷ []) []) ++ (span_line Force only_span ∷ []) ++ map (leaf_line Kick) (cond some (0 ∷ []) [])
    ≡ one_leaf_lines drift
lines_by true true e = refl
lines_by false true e = refl
lines_by drift false e = absurd (both_ways false refl e)

lines_are : (scene : Scene) → scene.leaves ≡ range_with_len 0 (length scene.start) ∷ [] → list_any (is_due_at scene) (range_with_len 0 (length scene.start)) ≡ true
    → lines_of scene (only_span ∷ []) ≡ one_leaf_lines scene.drift
lines_are scene leaves some =
    let members = range_with_len 0 (length scene.start) in
    ap (λ ls. lines_of (record scene { leaves = ls }) (only_span ∷ [])) leaves
    ∙ lines_by scene.drift (list_any (is_due_at scene) members) some

few : (tasks : List TaskLine) (drift : Bool) → tasks ≡ one_leaf_lines drift → length tasks < 2 ^ 32
few tasks true are = omega (arith, ap length are)
few tasks false are = omega (arith, ap length are)

pub IsGoodScene-one_leaf : (scene : Scene) → IsStepTick scene.params scene.tick → InBounds scene.params scene.bounds scene.tick scene.start → scene.leaves ≡ range_with_len 0 (length scene.start) ∷ []
    → list_any (is_due_at scene) (range_with_len 0 (length scene.start)) ≡ true → scene.tasks ≡ one_leaf_lines scene.drift → IsGoodScene scene
IsGoodScene-one_leaf scene tick in_bounds leaves some tasks =
    let n = length scene.start in
    let member : (i : ℕ) → i < n → Contains (members_in scene (0, 1)) i =
    λ i inside. Contains-members_in scene (0, 1) 0 i refl (subst (λ (ls : List (List ℕ)). Contains (members_of (record scene { leaves = ls }) 0) i) (sym leaves) (Contains-numbers n i inside)) in
    record {
      tick = tick;
      in_bounds = in_bounds;
      leaves = AreLeaves-one scene leaves;
      spans = only_span ∷ [];
      ranges = rw leaves (All-cons (IsRangeSpan 1) only_span [] (record { first = record { some = omega arith; within = omega arith }; second = tt }) (All-nil (IsRangeSpan 1)));
      lines = tasks ∙ sym (lines_are scene leaves some);
      few_lines = few scene.tasks scene.drift tasks;
      covers = record {
        densities = λ i j inside inside' other reach due.
            rw tasks (just_density scene.drift (λ line. MeetsAs Density i j (group_of scene line)) (inl (other, (member i inside, member j inside'))));
        forces = λ i j inside inside' other reach due.
            rw tasks (just_force scene.drift (λ line. MeetsAs Force i j (group_of scene line)) (other, (member i inside, member j inside')));
        selves = λ i inside due.
            rw tasks (just_density scene.drift (λ line. MeetsAs Density i i (group_of scene line)) (inr (refl, record { one_cell = refl; member = member i inside })));
      };
    }
