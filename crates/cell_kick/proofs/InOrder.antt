-- The tasks stand in the order of their kinds, so one comes before another only where its number is lower; a block on which the first
-- tasks are done is ready for the next.
use Rattle.std.proofs.Common.{◌≡◌, ℕ, zero, suc, ◌+◌, ◌<◌, ◌≤◌, true, false, List, [], ◌∷◌, ◌++◌, length, get_or, Contains, inl, inr, subst, refl, sym, ap, ◌∙◌, arith}
use Rattle.std.specs.Prelude.{⊤, None}
use Rattle.std.proofs.lemmas.Bool.{both_ways, cases_eq, cases_lt}
use Rattle.std.proofs.lemmas.List.{get_or_default}
use Rattle.std.proofs.lemmas.List.Elements.{Contains-append_cases}
use Rattle.lists.proofs.Elements.{Contains-head, Contains-later, Contains-nil}
use Rattle.sph_num.specs.declared.kind.Kind.{Kind}
use Rattle.sph_num.specs.declared.kind.Kind.TheVariants.{Drift, Density, Ghost, Force, Kick}
use Rattle.sph_num.specs.Kinds.{waits_for}
use Rattle.cell_block.specs.declared.rows.BlockRows.{BlockRows}
use Rattle.cell_block.specs.declared.scene.Scene.{Scene}
use Rattle.cell_block.specs.declared.scene.TaskLine.{TaskLine}
use Rattle.cell_block.specs.Blocks.{Agrees, AreAdded, AreReady, IsAdded, IsReady, done_of}
use Rattle.cell_block.specs.Scene.{IsGoodScene, IsLineEdge, IsLinePath, RangeSpan, drifting_leaves, due_leaves, leaf_line, line_at, lines_of, touches}
use Rattle.cell_block.specs.Tasks.{IsTask}
use Rattle.cell_kick.specs.inner.FirstTasks.{HasFirst}
use Rattle.cell_block.proofs.Order.{of_leaf, of_span, part_of}

-- the kinds in their order
abbrev rank : Kind → ℕ
rank Drift = 0
rank Density = 1
rank Ghost = 2
rank Force = 3
rank Kick = 4

rank_below : (kind kind' : Kind) → waits_for kind kind' ≡ true → rank kind' < rank kind
rank_below Density Drift waits = omega arith
rank_below Ghost Density waits = omega arith
rank_below Force Ghost waits = omega arith
rank_below Kick Force waits = omega arith
rank_below _ _ waits = absurd (both_ways false refl waits)

-- lines in the order of their kinds
abbrev AreInOrder : List TaskLine → Type 0
AreInOrder [] = ⊤
AreInOrder (line ∷ lines) = ((later : TaskLine) → Contains lines later → rank line.kind ≤ rank later.kind) × AreInOrder lines

AreInOrder-append : (xs ys : List TaskLine) → AreInOrder xs → AreInOrder ys → ((x y : TaskLine) → Contains xs x → Contains ys y → rank x.kind ≤ rank y.kind) → AreInOrder (xs ++ ys)
AreInOrder-append [] ys first second between = second
AreInOrder-append (x ∷ xs) ys first second between = (
  λ later at. elim (Contains-append_cases xs ys later at) [ inl here ↦ first.0 later here | inr there ↦ between x later (Contains-head x xs) there ],
  AreInOrder-append xs ys first.1 second (λ y z c d. between y z (Contains-later x xs y c) d),
)

abbrev AreOfKind : Kind → List TaskLine → Type 0
AreOfKind kind lines = (line : TaskLine) → Contains lines line → kind ≡ line.kind

AreInOrder-one : (kind : Kind) (lines : List TaskLine) → AreOfKind kind lines → AreInOrder lines
AreInOrder-one kind [] are = tt
AreInOrder-one kind (x ∷ xs) are = (
  λ later at. let first = ap rank (are x (Contains-head x xs)) in let second = ap rank (are later (Contains-later x xs later at)) in omega (arith, first, second),
  AreInOrder-one kind xs (λ y at. are y (Contains-later x xs y at)),
)

-- and none of them behind a kind
record AreUpTo (highest : ℕ) (lines : List TaskLine) : Type 0 where
  in_order : AreInOrder lines
  high : (line : TaskLine) → Contains lines line → rank line.kind ≤ highest

up_to_one : (kind : Kind) (lines : List TaskLine) → AreOfKind kind lines → AreUpTo (rank kind) lines
up_to_one kind lines are = record { in_order = AreInOrder-one kind lines are; high = λ line at. let same = ap rank (are line at) in omega (arith, same) }

up_to_more : (highest : ℕ) (kind : Kind) (xs ys : List TaskLine) → highest ≤ rank kind → AreUpTo highest xs → AreOfKind kind ys → AreUpTo (rank kind) (xs ++ ys)
up_to_more highest kind xs ys below first are = record {
  in_order = AreInOrder-append xs ys first.in_order (AreInOrder-one kind ys are) (λ x y c d. let low = first.high x c in let same = ap rank (are y d) in omega (arith, low, same, below));
  high = λ line at. elim (Contains-append_cases xs ys line at) [ inl here ↦ let low = first.high line here in omega (arith, low, below) | inr there ↦ let same = ap rank (are line there) in omega (arith, same) ];
}

lines_in_order : (scene : Scene) (spans : List RangeSpan) → AreInOrder (lines_of scene spans)
lines_in_order scene spans =
    let drifts = part_of scene spans Drift in
    let densities = part_of scene spans Density in
    let ghosts = part_of scene spans Ghost in
    let forces = part_of scene spans Force in
    let kicks = part_of scene spans Kick in
    let one = up_to_one Drift drifts (of_leaf Drift (drifting_leaves scene spans)) in
    let two = up_to_more 0 Density drifts densities (omega arith) one (of_span Density spans) in
    let three = up_to_more 1 Ghost (drifts ++ densities) ghosts (omega arith) two (of_leaf Ghost (due_leaves scene)) in
    let four = up_to_more 2 Force (drifts ++ densities ++ ghosts) forces (omega arith) three (of_span Force spans) in
    (up_to_more 3 Kick (drifts ++ densities ++ ghosts ++ forces) kicks (omega arith) four (of_leaf Kick (due_leaves scene))).in_order

rank_at : (lines : List TaskLine) → AreInOrder lines → (a b : ℕ) (d : TaskLine) → a ≤ b → b < length lines → rank (get_or lines a d).kind ≤ rank (get_or lines b d).kind
rank_at [] are a b d low inside = absurd (omega arith)
rank_at (x ∷ xs) are zero zero d low inside = omega arith
rank_at (x ∷ xs) are zero (suc b) d low inside = let within : b < length xs = omega arith in are.0 (get_or xs b d) (b, within, get_or_default xs b (get_or xs b d) d within)
rank_at (x ∷ xs) are (suc a) zero d low inside = absurd (omega arith)
rank_at (x ∷ xs) are (suc a) (suc b) d low inside = rank_at xs are.1 a b d (omega arith) (omega arith)

edge_rises : (scene : Scene) (before after : ℕ) → IsGoodScene scene → IsLineEdge scene before after → before < after
edge_rises scene before after good edge =
    elim (cases_lt before after) [
      | inl rises ↦ rises
      | inr falls ↦
          let are = subst AreInOrder (sym good.lines) (lines_in_order scene good.spans) in
          let high = rank_at scene.tasks are after before (record { kind = Drift; first = (0, 0); second = None }) falls edge.before_within in
          let low = rank_below (line_at scene after).kind (line_at scene before).kind edge.waits in
          absurd (omega (arith, high, low))
    ]

pub path_rises : (scene : Scene) (before : ℕ) (path : List ℕ) (after : ℕ) → IsGoodScene scene → IsLinePath scene before path after → before < after
path_rises scene before [] after good edge = edge_rises scene before after good edge
path_rises scene before (task ∷ path) after good steps = omega (arith, edge_rises scene before task good steps.0, path_rises scene task path after good steps.1)

-- a block on which nothing is done, and one on which the next task is done, or which this doesn't touch
pub none_first : (scene : Scene) (leaf : ℕ) (block : BlockRows) → Agrees scene leaf block → done_of block ≡ [] → HasFirst scene 0 leaf block
none_first scene leaf block agrees none = record { agrees = agrees; below = λ t at. absurd (Contains-nil t (rw none at at)); done = λ t low touched. absurd (omega arith) }

pub next_first : (scene : Scene) (task leaf : ℕ) (before after : BlockRows) → HasFirst scene task leaf before → IsAdded scene task leaf before after → HasFirst scene (task + 1) leaf after
next_first scene task leaf before after first added = record {
  agrees = added.agrees;
  below = λ t at. elim ((added.tasks t).0 at) [ inl old ↦ let low = first.below t old in omega (arith, low) | inr new ↦ omega (arith, new) ];
  done = λ t low touched. (added.tasks t).1 (elim (cases_eq t task) [ inl same ↦ inr same | inr other ↦ inl (first.done t (omega arith) touched) ]);
}

pub skip_first : (scene : Scene) (task leaf : ℕ) (block : BlockRows) → HasFirst scene task leaf block → touches (line_at scene task) leaf ≡ false → HasFirst scene (task + 1) leaf block
skip_first scene task leaf block first apart = record {
  agrees = first.agrees;
  below = λ t at. let low = first.below t at in omega (arith, low);
  done = λ t low touched. elim (cases_eq t task) [
    | inl same ↦ absurd (both_ways (touches (line_at scene task) leaf) apart (ap (λ n. touches (line_at scene n) leaf) (sym same) ∙ touched))
    | inr other ↦ first.done t (omega arith) touched
  ];
}

-- it is ready for the next
pub ready_first : (scene : Scene) (task leaf : ℕ) (block : BlockRows) → IsGoodScene scene → HasFirst scene task leaf block → IsReady scene task leaf block
ready_first scene task leaf block good first = record {
  agrees = first.agrees;
  not_done = λ at. let low = first.below task at in absurd (omega (arith, low));
  before = λ earlier precedes touched. first.done earlier (path_rises scene earlier precedes.0 task good precedes.1) touched;
}

-- a range of one leaf
at_one : (scene : Scene) (task leaf : ℕ) (block : BlockRows) → IsReady scene task leaf block → (k : ℕ) (d : BlockRows) → k < length (block ∷ []) → IsReady scene task (leaf + k) (get_or (block ∷ []) k d)
at_one scene task leaf block ready zero d low = let same : leaf ≡ leaf + 0 = omega arith in subst (λ (n : ℕ). IsReady scene task n block) same ready
at_one scene task leaf block ready (suc k) d low = absurd (omega arith)

pub range_ready : (scene : Scene) (task leaf : ℕ) (range : ℕ × ℕ) (block : BlockRows) → range ≡ (leaf, leaf + 1) → IsGoodScene scene → HasFirst scene task leaf block → AreReady scene task range (block ∷ [])
range_ready scene task leaf range block is good first = rw is (record { one_each = omega arith; ready = at_one scene task leaf block (ready_first scene task leaf block good first) })

pub range_added : (scene : Scene) (task leaf : ℕ) (range : ℕ × ℕ) (before : BlockRows) (after : List BlockRows) → range ≡ (leaf, leaf + 1) → HasFirst scene task leaf before → AreAdded scene task range (before ∷ []) after → HasFirst scene (task + 1) leaf (get_or after 0 before)
range_added scene task leaf range before after is first are =
    let same : range.0 + 0 ≡ leaf = ap (λ (r : ℕ × ℕ). r.0 + 0) is ∙ omega arith in
    next_first scene task leaf before (get_or after 0 before) first (subst (λ (n : ℕ). IsAdded scene task n before (get_or after 0 before)) same (are.added 0 before (omega arith)))

-- a task on one leaf alone
pub leaf_task : (scene : Scene) (kind : Kind) (task leaf : ℕ) → task < length scene.tasks → line_at scene task ≡ leaf_line kind leaf → IsTask scene kind task
leaf_task scene kind task leaf low is = record { number = low; is_kind = ap (λ (line : TaskLine). line.kind) is }

pub leaf_ready : (scene : Scene) (kind : Kind) (task leaf : ℕ) (block : BlockRows) → line_at scene task ≡ leaf_line kind leaf → IsGoodScene scene → HasFirst scene task leaf block → IsReady scene task (line_at scene task).first.0 block
leaf_ready scene kind task leaf block is good first =
    let same : (line_at scene task).first.0 ≡ leaf = ap (λ (line : TaskLine). line.first.0) is in rw same (ready_first scene task leaf block good first)

pub leaf_added : (scene : Scene) (kind : Kind) (task leaf : ℕ) (before after : BlockRows) → line_at scene task ≡ leaf_line kind leaf → HasFirst scene task leaf before → IsAdded scene task (line_at scene task).first.0 before after → HasFirst scene (task + 1) leaf after
leaf_added scene kind task leaf before after is first added =
    let same : (line_at scene task).first.0 ≡ leaf = ap (λ (line : TaskLine). line.first.0) is in
    next_first scene task leaf before after first (subst (λ (n : ℕ). IsAdded scene task n before after) same added)
