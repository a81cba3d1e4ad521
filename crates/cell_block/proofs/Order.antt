-- The tasks by their kinds, the edges between them, and what is done on a block before a task.
use Rattle.std.proofs.Common.{◌≡◌, ℕ, ◌+◌, ◌<◌, ◌&&◌, true, false, List, [], ◌++◌, length, map, Contains, inl, inr, subst, refl, sym, ap, ◌∙◌, arith}
use Rattle.std.specs.Prelude.{Option, Some, None}
use Rattle.std.specs.List.{list_any}
use Rattle.std.proofs.lemmas.Bool.{both_ways}
use Rattle.std.proofs.lemmas.List.{get_or_default}
use Rattle.std.proofs.lemmas.List.Elements.{All-contains, Contains-append_cases, Contains-append_left, Contains-append_right}
use Rattle.lists.proofs.Elements.{Contains-filter, Contains-map}
use Rattle.lists.proofs.Ranges.{Contains-numbers}
use Rattle.sph_num.specs.declared.kind.Kind.{Kind}
use Rattle.sph_num.specs.declared.kind.Kind.TheVariants.{Drift, Density, Ghost, Force, Kick}
use Rattle.sph_num.specs.Kinds.{same_kind, waits_for}
use Rattle.cell_block.specs.declared.rows.BlockRows.{BlockRows}
use Rattle.cell_block.specs.declared.scene.Scene.{Scene}
use Rattle.cell_block.specs.declared.scene.TaskLine.{TaskLine}
use Rattle.cell_block.specs.Blocks.{IsReady, done_of}
use Rattle.cell_block.specs.Content.{is_done_on}
use Rattle.cell_block.specs.Laws.{AllDone}
use Rattle.cell_block.specs.Scene.{IsGoodScene, IsLineEdge, IsOtherRange, IsRangeSpan, LinePrecedes, RangeSpan, drifting_leaves, due_leaves, is_due_at, is_in, is_in_second, leaf_line, leaf_numbers, line_at, lines_of, members_of, span_line, touches}
use Rattle.cell_block.specs.Tasks.{IsTask}
use Rattle.cell_block.proofs.Done.{both_true, either_true, list_any-from_Contains, same_kind_of, which_true}
use Rattle.cell_block.proofs.DoneMarks.{Contains-from_map}
use Rattle.cell_block.proofs.LeafMembers.{in_range, leaf_of_member, within_range}

-- the lines of a kind
abbrev pub part_of : Scene → List RangeSpan → Kind → List TaskLine
part_of scene spans Drift = map (leaf_line Drift) (drifting_leaves scene spans)
part_of scene spans Density = map (span_line Density) spans
part_of scene spans Ghost = map (leaf_line Ghost) (due_leaves scene)
part_of scene spans Force = map (span_line Force) spans
part_of scene spans Kick = map (leaf_line Kick) (due_leaves scene)

pub of_leaf : (kind : Kind) (leaves : List ℕ) (line : TaskLine) → Contains (map (leaf_line kind) leaves) line → kind ≡ line.kind
of_leaf kind leaves line at = let some = Contains-from_map (leaf_line kind) leaves line at in ap (λ (l : TaskLine). l.kind) some.2

pub of_span : (kind : Kind) (spans : List RangeSpan) (line : TaskLine) → Contains (map (span_line kind) spans) line → kind ≡ line.kind
of_span kind spans line at = let some = Contains-from_map (span_line kind) spans line at in ap (λ (l : TaskLine). l.kind) some.2

-- each line stands in the part of its kind
pub in_part : (scene : Scene) (spans : List RangeSpan) (line : TaskLine) → Contains (lines_of scene spans) line → Contains (part_of scene spans line.kind) line
in_part scene spans line at =
    let drifts = part_of scene spans Drift in
    let densities = part_of scene spans Density in
    let ghosts = part_of scene spans Ghost in
    let forces = part_of scene spans Force in
    let kicks = part_of scene spans Kick in
    let by = λ (k : Kind). Contains (part_of scene spans k) line in
    elim (Contains-append_cases (drifts ++ densities ++ ghosts ++ forces) kicks line at) [
      | inr kick ↦ subst by (of_leaf Kick (due_leaves scene) line kick) kick
      | inl four ↦ elim (Contains-append_cases (drifts ++ densities ++ ghosts) forces line four) [
        | inr force ↦ subst by (of_span Force spans line force) force
        | inl three ↦ elim (Contains-append_cases (drifts ++ densities) ghosts line three) [
          | inr made ↦ subst by (of_leaf Ghost (due_leaves scene) line made) made
          | inl two ↦ elim (Contains-append_cases drifts densities line two) [
            | inl drift ↦ subst by (of_leaf Drift (drifting_leaves scene spans) line drift) drift
            | inr density ↦ subst by (of_span Density spans line density) density
          ]
        ]
      ]
    ]

-- and the lines of a part among all
from_part : (scene : Scene) (spans : List RangeSpan) (kind : Kind) (line : TaskLine) → Contains (part_of scene spans kind) line → Contains (lines_of scene spans) line
from_part scene spans kind line at = from kind at
  where
    part : Kind → List TaskLine
    part = part_of scene spans

    among_four : Contains (part Drift ++ part Density ++ part Ghost ++ part Force) line → Contains (lines_of scene spans) line
    among_four here = Contains-append_left (part Drift ++ part Density ++ part Ghost ++ part Force) (part Kick) line here

    among_three : Contains (part Drift ++ part Density ++ part Ghost) line → Contains (lines_of scene spans) line
    among_three here = among_four (Contains-append_left (part Drift ++ part Density ++ part Ghost) (part Force) line here)

    among_two : Contains (part Drift ++ part Density) line → Contains (lines_of scene spans) line
    among_two here = among_three (Contains-append_left (part Drift ++ part Density) (part Ghost) line here)

    from : (k : Kind) → Contains (part k) line → Contains (lines_of scene spans) line
    from Drift here = among_two (Contains-append_left (part Drift) (part Density) line here)
    from Density here = among_two (Contains-append_right (part Drift) (part Density) line here)
    from Ghost here = among_three (Contains-append_right (part Drift ++ part Density) (part Ghost) line here)
    from Force here = among_four (Contains-append_right (part Drift ++ part Density ++ part Ghost) (part Force) line here)
    from Kick here = Contains-append_right (part Drift ++ part Density ++ part Ghost ++ part Force) (part Kick) line here

-- a line among the tasks has a number
pub record IsNumbered (scene : Scene) (line : TaskLine) : Type 0 where
  pub task : ℕ
  pub within : task < length scene.tasks
  pub is : line_at scene task ≡ line

pub numbered : (scene : Scene) (good : IsGoodScene scene) (kind : Kind) (line : TaskLine) → Contains (part_of scene good.spans kind) line → IsNumbered scene line
numbered scene good kind line at =
    let some = subst (λ (lines : List TaskLine). Contains lines line) (sym good.lines) (from_part scene good.spans kind line at) in
    record { task = some.0; within = some.1; is = get_or_default scene.tasks some.0 (record { kind = Drift; first = (0, 0); second = None }) line some.1 ∙ some.2 }

pub touched_by : (scene : Scene) (line : TaskLine) (leaf : ℕ) (is : IsNumbered scene line) → touches line leaf ≡ true → touches (line_at scene is.task) leaf ≡ true
touched_by scene line leaf is touched = ap (λ (l : TaskLine). touches l leaf) is.is ∙ touched

pub kind_by : (scene : Scene) (line : TaskLine) (is : IsNumbered scene line) → (line_at scene is.task).kind ≡ line.kind
kind_by scene line is = ap (λ (l : TaskLine). l.kind) is.is

-- the line of a task stands among the lines of its kind
pub task_part : (scene : Scene) (good : IsGoodScene scene) (kind : Kind) (task : ℕ) → IsTask scene kind task → Contains (part_of scene good.spans kind) (line_at scene task)
task_part scene good kind task is =
    let line = line_at scene task in
    subst (λ k. Contains (part_of scene good.spans k) line) is.is_kind
    (in_part scene good.spans line
    (subst (λ (lines : List TaskLine). Contains lines line) good.lines (task, is.number, get_or_default scene.tasks task line (record { kind = Drift; first = (0, 0); second = None }) is.number)))

-- a line on one leaf: the leaf is its first, and it touches it
pub record IsOnLeaf (kind : Kind) (leaves : List ℕ) (line : TaskLine) : Type 0 where
  pub is : line ≡ leaf_line kind line.first.0
  pub leaf : Contains leaves line.first.0

pub touches_own : (kind : Kind) (leaf : ℕ) → touches (leaf_line kind leaf) leaf ≡ true
touches_own kind leaf = either_true (is_in (leaf, leaf + 1) leaf) false (inl (in_range (leaf, leaf + 1) leaf (omega arith) (omega arith)))

pub on_leaf : (kind : Kind) (leaves : List ℕ) (line : TaskLine) → Contains (map (leaf_line kind) leaves) line → IsOnLeaf kind leaves line
on_leaf kind leaves line at =
    let some = Contains-from_map (leaf_line kind) leaves line at in
    let same : some.0 ≡ line.first.0 = ap (λ (l : TaskLine). l.first.0) some.2 in
    record { is = sym some.2 ∙ ap (leaf_line kind) same; leaf = subst (Contains leaves) same some.1 }

pub touches_first : (kind : Kind) (leaves : List ℕ) (line : TaskLine) → IsOnLeaf kind leaves line → touches line line.first.0 ≡ true
touches_first kind leaves line on = ap (λ (l : TaskLine). touches l line.first.0) on.is ∙ touches_own kind line.first.0

-- a leaf that a span touches is one of the scene's
second_inside : (leaves leaf : ℕ) (first : ℕ × ℕ) (second : Option (ℕ × ℕ)) → IsOtherRange leaves first second → is_in_second second leaf ≡ true → leaf < leaves
second_inside leaves leaf first None other touched = absurd (both_ways false refl touched)
second_inside leaves leaf first (Some second) other touched = omega (arith, (within_range second leaf touched).1, other.0.within)

span_inside : (leaves leaf : ℕ) (span : RangeSpan) → IsRangeSpan leaves span → touches (span_line Density span) leaf ≡ true → leaf < leaves
span_inside leaves leaf span is touched =
    elim (which_true (is_in span.first leaf) (is_in_second span.second leaf) touched) [
      | inl here ↦ omega (arith, (within_range span.first leaf here).1, is.first.within)
      | inr there ↦ second_inside leaves leaf span.first span.second is.second there
    ]

-- an edge by a leaf
pub edge : (scene : Scene) (before after leaf : ℕ) (kind kind' : Kind) → IsTask scene kind before → IsTask scene kind' after → waits_for kind' kind ≡ true
    → touches (line_at scene before) leaf ≡ true → touches (line_at scene after) leaf ≡ true → IsLineEdge scene before after
edge scene before after leaf kind kind' is is' waits first second = record {
  before_within = is.number;
  after_within = is'.number;
  waits = ap (λ k. waits_for k (line_at scene before).kind) is'.is_kind ∙ ap (waits_for kind') is.is_kind ∙ waits;
  leaf = leaf;
  touched_before = first;
  touched_after = second;
}

-- the task of a line that has a number
pub task_by : (scene : Scene) (line : TaskLine) (is : IsNumbered scene line) → IsTask scene line.kind is.task
task_by scene line is = record { number = is.within; is_kind = kind_by scene line is }

-- every task of a kind for which this one waits is done on its leaf
pub all_done : (scene : Scene) (kind kind' : Kind) (task leaf : ℕ) (block : BlockRows) → IsTask scene kind' task → waits_for kind' kind ≡ true → touches (line_at scene task) leaf ≡ true → IsReady scene task leaf block → AllDone scene kind leaf (done_of block)
all_done scene kind kind' task leaf block is waits touched ready =
    λ earlier within same here. ready.before earlier ([], edge scene earlier task leaf kind kind' (record { number = within; is_kind = same }) is waits here touched) here

-- the drift of a leaf that a span touches, and the ghost of one with a due member, stand among the tasks
pub drift_line : (scene : Scene) (good : IsGoodScene scene) (leaf : ℕ) (span : RangeSpan) → Contains good.spans span → scene.drift ≡ true → touches (span_line Density span) leaf ≡ true → IsNumbered scene (leaf_line Drift leaf)
drift_line scene good leaf span at drifts touched =
    let inside = span_inside (length scene.leaves) leaf span (All-contains (IsRangeSpan (length scene.leaves)) good.spans span good.ranges at) touched in
    let below = λ (l : ℕ). list_any (λ span. touches (span_line Density span) l) good.spans in
    let some = list_any-from_Contains (λ span. touches (span_line Density span) leaf) good.spans span at touched in
    let leaves : Contains (drifting_leaves scene good.spans) leaf = rw drifts (Contains-filter below (leaf_numbers scene) leaf some (Contains-numbers (length scene.leaves) leaf inside)) in
    numbered scene good Drift (leaf_line Drift leaf) (Contains-map (leaf_line Drift) (drifting_leaves scene good.spans) leaf leaves)

pub ghost_line : (scene : Scene) (good : IsGoodScene scene) (leaf i : ℕ) → Contains (members_of scene leaf) i → is_due_at scene i ≡ true → IsNumbered scene (leaf_line Ghost leaf)
ghost_line scene good leaf i at due =
    let some = list_any-from_Contains (is_due_at scene) (members_of scene leaf) i at due in
    let leaves = Contains-filter (λ l. list_any (is_due_at scene) (members_of scene l)) (leaf_numbers scene) leaf some (Contains-numbers (length scene.leaves) leaf (leaf_of_member scene leaf i at)) in
    numbered scene good Ghost (leaf_line Ghost leaf) (Contains-map (leaf_line Ghost) (due_leaves scene) leaf leaves)

-- and the density and the force of a span
pub density_line : (scene : Scene) (good : IsGoodScene scene) (span : RangeSpan) → Contains good.spans span → IsNumbered scene (span_line Density span)
density_line scene good span at = numbered scene good Density (span_line Density span) (Contains-map (span_line Density) good.spans span at)

pub force_line : (scene : Scene) (good : IsGoodScene scene) (span : RangeSpan) → Contains good.spans span → IsNumbered scene (span_line Force span)
force_line scene good span at = numbered scene good Force (span_line Force span) (Contains-map (span_line Force) good.spans span at)

-- a task on the leaf that comes before another
pub record IsBefore (scene : Scene) (kind : Kind) (leaf task : ℕ) : Type 0 where
  pub earlier : ℕ
  pub is : line_at scene earlier ≡ leaf_line kind leaf
  pub precedes : LinePrecedes scene earlier task

-- so it is done on the block
pub done_before : (scene : Scene) (kind : Kind) (leaf task : ℕ) (block : BlockRows) → IsBefore scene kind leaf task → IsReady scene task leaf block → is_done_on scene kind leaf (done_of block) ≡ true
done_before scene kind leaf task block before ready =
    let line = line_at scene before.earlier in
    let touched : touches line leaf ≡ true = ap (λ (l : TaskLine). touches l leaf) before.is ∙ touches_own kind leaf in
    list_any-from_Contains (λ t. same_kind (line_at scene t).kind kind && touches (line_at scene t) leaf) (done_of block) before.earlier (ready.before before.earlier before.precedes touched)
    (both_true (same_kind line.kind kind) (touches line leaf) (same_kind_of line.kind kind (ap (λ (l : TaskLine). l.kind) before.is)) touched)
