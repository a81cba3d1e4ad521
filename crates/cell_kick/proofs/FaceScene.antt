-- The scene across the face is good.
use Rattle.std.proofs.Common.{◌≡◌, ◌≢◌, ℕ, zero, suc, ◌+◌, ◌<◌, true, false, List, [], ◌∷◌, length, get_or, All, Contains, inl, inr, subst, refl, sym, ap, ◌∙◌, arith}
use Rattle.std.specs.Prelude.{◌⊎◌, slice_get, Some, None}
use Rattle.std.specs.List.Sorted.{IsStrictlyIncreasing}
use Rattle.std.proofs.lemmas.Bool.{both_ways}
use Rattle.std.proofs.lemmas.List.Elements.{All-cons, All-nil}
use Rattle.lists.proofs.Elements.{Contains-head, only}
use Rattle.lists.proofs.Ranges.{numbers_rise}
use Rattle.lists.proofs.Rising.{IsStrictlyIncreasing-from_Rises, Rises-range}
use Rattle.sph_num.specs.declared.kind.Kind.{Kind}
use Rattle.sph_num.specs.declared.kind.Kind.TheVariants.{Density, Ghost, Force, Kick}
use Rattle.sph_num.specs.Cover.{JustOne, MeetIn}
use Rattle.sph_bins.specs.InBounds.{InBounds, IsAt, IsWithin}
use Rattle.cell_block.specs.declared.rows.BlockRows.{BlockRows}
use Rattle.cell_block.specs.declared.scene.Scene.{Scene}
use Rattle.cell_block.specs.declared.scene.TaskLine.{TaskLine}
use Rattle.cell_block.specs.Blocks.{AreAdded, AreReady}
use Rattle.cell_block.specs.Scene.{AreLeaves, IsGoodScene, IsRangeSpan, LineMeets, is_due_at, leaf_line, line_at, span_line, touches}
use Rattle.cell_block.specs.Tasks.{IsTask}
use Rattle.cell_kick.specs.inner.FirstTasks.{HasFirst}
use Rattle.cell_kick.proofs.InOrder.{range_added, range_ready, skip_first}
use Rattle.cell_kick.proofs.OneLeaf.{nothing, other_kind}
use Rattle.cell_kick.proofs.TwoBins.{All-two, at_x, on_x, two_in_bounds}
use Rattle.cell_kern.specs.Tasks.{second_of}
use Rattle.cell_kick.specs.inner.Face.{across_face, both_span, bounds, due_one, own_span, params, six_lines, waiting_one}

-- its particles are in bounds
due_within : IsWithin params bounds due_one
due_within = let place = at_x 1048320 (omega arith) in grind (arith, place)

waiting_within : IsWithin params bounds waiting_one
waiting_within = let place = at_x 256 (omega arith) in grind (arith, place)

due_at : IsAt params bounds 1 due_one
due_at = record { bin = omega arith; began = refl; since = omega arith; until = omega arith; room = on_x 0 _ (omega arith) }

waiting_at : IsAt params bounds 1 waiting_one
waiting_at = record { bin = omega arith; began = refl; since = omega arith; until = omega arith; room = on_x 0 _ (omega arith) }

are_in_bounds : InBounds params bounds 1 (due_one ∷ waiting_one ∷ [])
are_in_bounds = two_in_bounds params bounds 1 due_one waiting_one (grind arith) (omega arith) (grind arith) refl due_within waiting_within due_at waiting_at

-- each index stands in its own leaf
some_same : {X : Type 0} (x y : X) → Some x ≡ Some y → x ≡ y
some_same x y e = cc

no_some : (x : List ℕ) → None ≡ Some x → ⊥
no_some x e = cc

in_list : (i j : ℕ) (x : List ℕ) → Some (j ∷ []) ≡ Some x → Contains x i → j ≡ i
in_list i j x stands at = only j i (subst (λ (ys : List ℕ). Contains ys i) (sym (some_same (j ∷ []) x stands)) at)

first_leaf : (other : ℕ) (x : List ℕ) → slice_get across_face.leaves other ≡ Some x → Contains x 0 → other ≡ 0
first_leaf zero x stands at = refl
first_leaf (suc zero) x stands at = let e = in_list 0 1 x stands at in absurd (omega (arith, e))
first_leaf (suc (suc other)) x stands at = absurd (no_some x stands)

second_leaf : (other : ℕ) (x : List ℕ) → slice_get across_face.leaves other ≡ Some x → Contains x 1 → other ≡ 1
second_leaf zero x stands at = let e = in_list 1 0 x stands at in absurd (omega (arith, e))
second_leaf (suc zero) x stands at = refl
second_leaf (suc (suc other)) x stands at = absurd (no_some x stands)

one_leaf : (i : ℕ) → i < 2 → JustOne across_face.leaves (λ members. Contains members i)
one_leaf zero low = record { index = 0; element = 0 ∷ []; stands = refl; it_does = Contains-head 0 []; no_other = λ other x stands at. first_leaf other x stands at }
one_leaf (suc zero) low = record { index = 1; element = 1 ∷ []; stands = refl; it_does = Contains-head 1 []; no_other = λ other x stands at. second_leaf other x stands at }
one_leaf (suc (suc i)) low = absurd (omega arith)

are_leaves : AreLeaves across_face
are_leaves =
    let below = λ (i : ℕ). i < 2 in
    record {
      one_leaf = one_leaf;
      members = All-two (All below) (0 ∷ []) (1 ∷ []) (All-cons below 0 [] (omega arith) (All-nil below)) (All-cons below 1 [] (omega arith) (All-nil below));
      rising = All-two IsStrictlyIncreasing (0 ∷ []) (1 ∷ []) (numbers_rise 1) (IsStrictlyIncreasing-from_Rises (1 ∷ []) (Rises-range 1 1));
    }

-- which of the tasks are densities, and which forces
densities : (other : ℕ) (x : TaskLine) → slice_get six_lines other ≡ Some x → x.kind ≡ Density → ((other ≡ 0) × (x ≡ span_line Density own_span)) ⊎ ((other ≡ 1) × (x ≡ span_line Density both_span))
densities zero x stands is = inl (refl, sym (some_same (span_line Density own_span) x stands))
densities (suc zero) x stands is = inr (refl, sym (some_same (span_line Density both_span) x stands))
densities (suc (suc zero)) x stands is = absurd (other_kind Density (leaf_line Ghost 0) x refl stands is)
densities (suc (suc (suc zero))) x stands is = absurd (other_kind Density (span_line Force own_span) x refl stands is)
densities (suc (suc (suc (suc zero)))) x stands is = absurd (other_kind Density (span_line Force both_span) x refl stands is)
densities (suc (suc (suc (suc (suc zero))))) x stands is = absurd (other_kind Density (leaf_line Kick 0) x refl stands is)
densities (suc (suc (suc (suc (suc (suc other)))))) x stands is = absurd (nothing x stands)

forces : (other : ℕ) (x : TaskLine) → slice_get six_lines other ≡ Some x → x.kind ≡ Force → ((other ≡ 3) × (x ≡ span_line Force own_span)) ⊎ ((other ≡ 4) × (x ≡ span_line Force both_span))
forces zero x stands is = absurd (other_kind Force (span_line Density own_span) x refl stands is)
forces (suc zero) x stands is = absurd (other_kind Force (span_line Density both_span) x refl stands is)
forces (suc (suc zero)) x stands is = absurd (other_kind Force (leaf_line Ghost 0) x refl stands is)
forces (suc (suc (suc zero))) x stands is = inl (refl, sym (some_same (span_line Force own_span) x stands))
forces (suc (suc (suc (suc zero)))) x stands is = inr (refl, sym (some_same (span_line Force both_span) x stands))
forces (suc (suc (suc (suc (suc zero))))) x stands is = absurd (other_kind Force (leaf_line Kick 0) x refl stands is)
forces (suc (suc (suc (suc (suc (suc other)))))) x stands is = absurd (nothing x stands)

-- two different particles meet across the face alone
across : (i j : ℕ) → i < 2 → j < 2 → i ≢ j → MeetIn (0 ∷ []) (Some (1 ∷ [])) i j
across zero zero low low' other = absurd (other refl)
across zero (suc zero) low low' other = inl (Contains-head 0 [], Contains-head 1 [])
across (suc zero) zero low low' other = inr (Contains-head 0 [], Contains-head 1 [])
across (suc zero) (suc zero) low low' other = absurd (other refl)
across (suc (suc i)) j low low' other = absurd (omega arith)
across i (suc (suc j)) low low' other = absurd (omega arith)

not_in_one : (i j : ℕ) → i ≢ j → MeetIn (0 ∷ []) None i j → ⊥
not_in_one i j other both = other (sym (only 0 i both.0) ∙ only 0 j both.1)

densities_meet : (i j : ℕ) → i < 2 → j < 2 → i ≢ j → JustOne six_lines (LineMeets across_face Density i j)
densities_meet i j low low' other = record {
  index = 1;
  element = span_line Density both_span;
  stands = refl;
  it_does = (refl, inl (other, across i j low low' other));
  no_other = λ task x stands does. elim (densities task x stands does.0) [
    | inr both ↦ both.0
    | inl own ↦
        let meets = subst (λ (line : TaskLine). LineMeets across_face Density i j line) own.1 does in
        elim meets.1 [ inl two ↦ absurd (not_in_one i j other two.1) | inr one ↦ absurd (other one.0) ]
  ];
}

forces_meet : (i j : ℕ) → i < 2 → j < 2 → i ≢ j → JustOne six_lines (LineMeets across_face Force i j)
forces_meet i j low low' other = record {
  index = 4;
  element = span_line Force both_span;
  stands = refl;
  it_does = (refl, (other, across i j low low' other));
  no_other = λ task x stands does. elim (forces task x stands does.0) [
    | inr both ↦ both.0
    | inl own ↦ let meets = subst (λ (line : TaskLine). LineMeets across_face Force i j line) own.1 does in absurd (not_in_one i j other meets.1.1)
  ];
}

two_cells : (second : List ℕ) → Some second ≡ None → ⊥
two_cells second e = cc

self_meets : (i : ℕ) → i < 2 → is_due_at across_face i ≡ true → JustOne six_lines (LineMeets across_face Density i i)
self_meets zero low due = record {
  index = 0;
  element = span_line Density own_span;
  stands = refl;
  it_does = (refl, inr (refl, record { one_cell = refl; member = Contains-head 0 [] }));
  no_other = λ task x stands does. elim (densities task x stands does.0) [
    | inl own ↦ own.0
    | inr both ↦
        let meets = subst (λ (line : TaskLine). LineMeets across_face Density 0 0 line) both.1 does in
        elim meets.1 [ inl two ↦ absurd (two.0 refl) | inr one ↦ absurd (two_cells (1 ∷ []) one.1.one_cell) ]
  ];
}
self_meets (suc zero) low due = absurd (both_ways false refl due)
self_meets (suc (suc i)) low due = absurd (omega arith)

pub across_face_is_good : IsGoodScene across_face
across_face_is_good = record {
  tick = record { due = refl; within = omega arith };
  in_bounds = are_in_bounds;
  leaves = are_leaves;
  spans = own_span ∷ both_span ∷ [];
  ranges = All-two (IsRangeSpan 2) own_span both_span (record { first = record { some = omega arith; within = omega arith }; second = tt })
      (record { first = record { some = omega arith; within = omega arith }; second = (record { some = omega arith; within = omega arith }, inl (omega arith)) });
  lines = refl;
  few_lines = omega arith;
  covers = record {
    densities = λ i j low low' other reach due. densities_meet i j low low' other;
    forces = λ i j low low' other reach due. forces_meet i j low low' other;
    selves = λ i low due. self_meets i low due;
  };
}

-- its tasks
pub leaf_line_of : (scene : Scene) (kind : Kind) (task : ℕ) → scene ≡ across_face → line_at across_face task ≡ leaf_line kind 0 → line_at scene task ≡ leaf_line kind 0
leaf_line_of scene kind task is line = ap (λ (s : Scene). line_at s task) is ∙ line

pub number_of : (scene : Scene) (task : ℕ) → scene ≡ across_face → task < 6 → task < length scene.tasks
number_of scene task is low = let six = ap (λ (s : Scene). length s.tasks) is in omega (arith, six, low)

-- a task on both leaves, on blocks on which the first tasks are done
pub both_task : (scene : Scene) (kind : Kind) (task : ℕ) → scene ≡ across_face → task < 6 → line_at across_face task ≡ span_line kind both_span → IsTask scene kind task
both_task scene kind task is low line = record { number = number_of scene task is low; is_kind = ap (λ (l : TaskLine). l.kind) (ap (λ (s : Scene). line_at s task) is ∙ line) }

pub both_second : (scene : Scene) (kind : Kind) (task : ℕ) → scene ≡ across_face → line_at across_face task ≡ span_line kind both_span → (line_at scene task).second ≡ Some (second_of (line_at scene task))
both_second scene kind task is line =
    let same = ap (λ (s : Scene). line_at s task) is ∙ line in
    ap (λ (l : TaskLine). l.second) same ∙ sym (ap (λ (l : TaskLine). Some (second_of l)) same)

pub first_ready : (scene : Scene) (kind : Kind) (task : ℕ) (block : BlockRows) → scene ≡ across_face → line_at across_face task ≡ span_line kind both_span → HasFirst scene task 0 block → AreReady scene task (line_at scene task).first (block ∷ [])
first_ready scene kind task block is line first =
    range_ready scene task 0 (line_at scene task).first block (ap (λ (l : TaskLine). l.first) (ap (λ (s : Scene). line_at s task) is ∙ line)) (rw is across_face_is_good) first

pub second_ready : (scene : Scene) (kind : Kind) (task : ℕ) (block : BlockRows) → scene ≡ across_face → line_at across_face task ≡ span_line kind both_span → HasFirst scene task 1 block → AreReady scene task (second_of (line_at scene task)) (block ∷ [])
second_ready scene kind task block is line first =
    range_ready scene task 1 (second_of (line_at scene task)) block (ap second_of (ap (λ (s : Scene). line_at s task) is ∙ line)) (rw is across_face_is_good) first

pub first_added : (scene : Scene) (kind : Kind) (task : ℕ) (before : BlockRows) (after : List BlockRows) → scene ≡ across_face → line_at across_face task ≡ span_line kind both_span → HasFirst scene task 0 before → AreAdded scene task (line_at scene task).first (before ∷ []) after → HasFirst scene (task + 1) 0 (get_or after 0 before)
first_added scene kind task before after is line first are = range_added scene task 0 (line_at scene task).first before after (ap (λ (l : TaskLine). l.first) (ap (λ (s : Scene). line_at s task) is ∙ line)) first are

pub second_added : (scene : Scene) (kind : Kind) (task : ℕ) (before : BlockRows) (after : List BlockRows) → scene ≡ across_face → line_at across_face task ≡ span_line kind both_span → HasFirst scene task 1 before → AreAdded scene task (second_of (line_at scene task)) (before ∷ []) after
    → HasFirst scene (task + 1) 1 (get_or after 0 before)
second_added scene kind task before after is line first are = range_added scene task 1 (second_of (line_at scene task)) before after (ap second_of (ap (λ (s : Scene). line_at s task) is ∙ line)) first are

-- the second leaf is left by the others
pub second_skips : (scene : Scene) (task : ℕ) (block : BlockRows) → scene ≡ across_face → touches (line_at across_face task) 1 ≡ false → HasFirst scene task 1 block → HasFirst scene (task + 1) 1 block
second_skips scene task block is apart first = skip_first scene task 1 block first (ap (λ (s : Scene). touches (line_at s task) 1) is ∙ apart)
