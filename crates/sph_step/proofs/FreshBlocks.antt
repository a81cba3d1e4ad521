-- The blocks of ranges of leaves: where the parts of all leaves begin, and how the blocks of two ranges are joined.
use Rattle.std.proofs.Common.{◌≡◌, ℕ, ◌+◌, ◌-◌, ◌*◌, ◌<◌, ◌≤◌, List, [], ◌∷◌, ◌++◌, length, map, get_or, sym, ap, ◌∙◌, subst, inl, inr, arith}
use Rattle.std.proofs.lemmas.Bool.{cases_lt}
use Rattle.std.proofs.lemmas.List.{get_or-append_right, get_or-map, get_or_append_left, length-append, length-map}
use Rattle.std.proofs.lemmas.List.FromFn.{length-range_with_len}
use Rattle.std.proofs.lemmas.Nat.{div-mul-add, mul-le}
use Rattle.lists.proofs.Ranges.{number_at}
use Rattle.sph_num.proofs.Divisions.{div-le}
use Rattle.cell_block.specs.declared.rows.BlockRows.{BlockRows}
use Rattle.cell_block.specs.declared.scene.Scene.{Scene}
use Rattle.cell_block.specs.Blocks.{done_of, tasks_at}
use Rattle.cell_block.specs.Scene.{leaf_numbers}
use Rattle.qs_core.specs.Blocks.{AreFresh}
use Rattle.sph_step.specs.declared.stage.StagePlan.{StagePlan}
use Rattle.sph_step.specs.Stage.{fits_in, shape_of}
use Rattle.sph_step.specs.inner.Fresh.{AreFreshIn, IsFreshAt, start_of}
use Rattle.sph_step.specs.inner.Told.{AreFilled}
use Rattle.sph_step.proofs.Filled.{filled_next}

-- the tasks of each leaf, by its number
pub as_many : (scene : Scene) (lists : List (List ℕ)) → lists ≡ map (tasks_at scene) (leaf_numbers scene) → length lists ≡ length scene.leaves
as_many scene lists are = ap length are ∙ length-map (leaf_numbers scene) (tasks_at scene) ∙ length-range_with_len 0 (length scene.leaves)

pub tasks_of : (scene : Scene) (lists : List (List ℕ)) (leaf : ℕ) (d : List ℕ) → lists ≡ map (tasks_at scene) (leaf_numbers scene) → leaf < length scene.leaves → get_or lists leaf d ≡ tasks_at scene leaf
tasks_of scene lists leaf d are inside =
    let n = length scene.leaves in
    ap (λ ls. get_or ls leaf d) are ∙ get_or-map (tasks_at scene) (leaf_numbers scene) leaf 0 d (omega (arith, length-range_with_len 0 n)) ∙ ap (tasks_at scene) (number_at n leaf 0 inside)

-- a part begins no later than the next, and the one past the last where the leaves end
pub start_rises : (leaves parts part : ℕ) → 0 < parts → start_of leaves parts part ≤ start_of leaves parts (part + 1)
start_rises leaves parts part some = div-le (part * leaves) parts ((part + 1) * leaves) parts some (omega arith) (omega arith)

pub start_past : (leaves parts : ℕ) → 0 < parts → start_of leaves parts parts ≡ leaves
start_past leaves parts some =
    let turned : parts * leaves ≡ leaves * parts + 0 = omega arith in
    rw turned (div-mul-add leaves parts 0 some)

pub start_within : (leaves parts part : ℕ) → 0 < parts → part ≤ parts → start_of leaves parts part ≤ leaves
start_within leaves parts part some within =
    let below = div-le (part * leaves) parts (parts * leaves) parts some (mul-le part leaves parts leaves within (omega arith)) (omega arith) in
    omega (arith, below, start_past leaves parts some)

-- the block of the next leaf
pub leaf_more : (scene : Scene) (from leaf : ℕ) (blocks : List BlockRows) (block : BlockRows) → from ≤ leaf → AreFreshIn scene from leaf blocks → IsFreshAt scene leaf block → AreFreshIn scene from (leaf + 1) (blocks ++ block ∷ [])
leaf_more scene from leaf blocks block low are next =
    let fact : ℕ → BlockRows → Type 0 = λ k b. IsFreshAt scene (from + k) b in
    let here : leaf ≡ from + (leaf - from) = omega arith in
    let more : leaf - from + 1 ≡ leaf + 1 - from = omega arith in
    subst (λ n. AreFilled fact n (blocks ++ block ∷ [])) more (filled_next fact (leaf - from) blocks block are (subst (λ n. IsFreshAt scene n block) here next))

-- the blocks of two ranges, of which the one ends where the other begins
pub ranges_joined : (scene : Scene) (from mid upto : ℕ) (xs ys : List BlockRows) → from ≤ mid → mid ≤ upto → AreFreshIn scene from mid xs → AreFreshIn scene mid upto ys → AreFreshIn scene from upto (xs ++ ys)
ranges_joined scene from mid upto xs ys low high first second =
    let long = first.one_each in
    record {
      one_each = omega (arith, length-append xs ys, first.one_each, second.one_each);
      each = λ k d inside. elim (cases_lt k (mid - from)) [
        | inl before ↦ subst (IsFreshAt scene (from + k)) (sym (get_or_append_left xs ys d k (omega arith))) (first.each k d before)
        | inr late ↦
            let here : mid + (k - (mid - from)) ≡ from + k = omega arith in
            subst (IsFreshAt scene (from + k)) (sym (get_or-append_right xs ys (mid - from) k d long (omega arith)))
            (subst (λ leaf. IsFreshAt scene leaf (get_or ys (k - (mid - from)) d)) here (second.each (k - (mid - from)) d (omega arith)))
      ];
    }

-- blocks for all leaves, with nothing done
pub all_fresh : (plan : StagePlan) (blocks : List BlockRows) → AreFreshIn plan.scene 0 (length plan.scene.leaves) blocks → AreFresh (shape_of plan) (fits_in plan) done_of blocks
all_fresh plan blocks are =
    let each : (leaf : ℕ) (d : BlockRows) → leaf < length plan.scene.leaves → IsFreshAt plan.scene leaf (get_or blocks leaf d) =
    λ leaf d low.
    let here : 0 + leaf ≡ leaf = omega arith in
    subst (λ n. IsFreshAt plan.scene n (get_or blocks leaf d)) here (are.each leaf d (omega arith))
    in
    record {
      fitting = record { one_each = omega (arith, are.one_each); each = λ leaf d low. (each leaf d low).0 };
      none_done = λ leaf d low. (each leaf d low).1;
    }
