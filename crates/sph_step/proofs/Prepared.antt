-- What a stage is made of is what its plan has to be.
use Rattle.std.proofs.Common.{◌≡◌, ℕ, ◌+◌, ◌*◌, ◌^◌, ◌<◌, ◌≤◌, Bool, false, List, length, map, get_or, refl, sym, ap, ◌∙◌, subst, arith}
use Rattle.std.specs.Prelude.{IfOk, Option, Some, None, Result, Ok, Err, option_map}
use Rattle.std.specs.List.{All}
use Rattle.std.proofs.lemmas.List.{length-map}
use Rattle.std.proofs.lemmas.Nat.{mul-le}
use Rattle.std.proofs.lemmas.Option.{unwrap_or-slice_get}
use Rattle.sph_num.specs.declared.kind.Kind.{Kind}
use Rattle.sph_num.specs.declared.particle.Bounds.{Bounds}
use Rattle.sph_num.specs.declared.particle.Params.{Params}
use Rattle.sph_num.specs.declared.particle.Particle.{Particle}
use Rattle.sph_bins.specs.Bins.{is_due}
use Rattle.sph_bins.specs.Kick.{place_at}
use Rattle.cell_block.specs.declared.scene.Scene.{Scene}
use Rattle.cell_block.specs.declared.scene.TaskLine.{TaskLine}
use Rattle.cell_tree.specs.declared.tree.Span.{Span}
use Rattle.cell_tree.specs.Spans.{IsOtherCell}
use Rattle.cell_tree.specs.Tree.{Made, cells_of, made_of}
use Rattle.pair_cover.specs.Looks.{spans_of}
use Rattle.task_graph.specs.declared.task.Task.{Task}
use Rattle.task_graph.specs.Graph.{Plan, WaitAtLeaves, graph_of}
use Rattle.task_graph.specs.Meeting.{MeetOnce}
use Rattle.task_graph.specs.Tasks.{IsOnSpan}
use Rattle.task_weight.specs.Edges.{AreForward, AreRising}
use Rattle.sph_step.specs.declared.stage.StagePlan.{StagePlan}
use Rattle.sph_step.specs.Made.{IsParentOf, IsRangeOf, IsStageOf, TellsCells, dues_at, leaves_in, limits_of, made_at, spans_at}
use Rattle.sph_step.specs.Stage.{line_in, line_of, range_in}
use Rattle.sph_step.specs.inner.Graphs.{IsGraphOn}
use Rattle.sph_step.specs.inner.Told.{AreParents, AreRanges, IsAmong, IsAmongSome}

-- a task on a span of the tree is on two of so many cells
other_among : (made : Made) (first cells : ℕ) (second : Option ℕ) → length (cells_of made) ≡ cells → IsOtherCell made first second → IsAmongSome cells second
other_among made first cells None long is = tt
other_among made first cells (Some cell) long is = let low = is.0 in omega arith

pub among : (made : Made) (cells : ℕ) (tasks : List Task) → length (cells_of made) ≡ cells → All (IsOnSpan made) tasks → All (IsAmong cells) tasks
among made cells tasks long on = λ k d low.
    let task = get_or tasks k d in
    let span = on k d low in
    record { first = let inside = span.first in omega arith; second = other_among made task.first cells task.second long span.second }

-- a line by its parts
abbrev line_with : Kind → ℕ × ℕ → Option (ℕ × ℕ) → TaskLine
line_with kind first second = record { kind = kind; first = first; second = second }

pub line_made : (ranges : List (ℕ × ℕ)) (task : Task) (kind : Kind) (cells : ℕ × Option ℕ) (second : Option (ℕ × ℕ)) → kind ≡ task.kind → cells ≡ (task.first, task.second) → second ≡ option_map (range_in ranges) cells.1
    → line_with kind (get_or ranges cells.0 (0, 0)) second ≡ line_in ranges task
line_made ranges task kind cells second kind_is cells_are second_is =
    ap (λ k. line_with k (get_or ranges cells.0 (0, 0)) second) kind_is ∙ ap (line_with task.kind (get_or ranges cells.0 (0, 0))) second_is
    ∙ ap (λ (c : ℕ × Option ℕ). line_with task.kind (get_or ranges c.0 (0, 0)) (option_map (range_in ranges) c.1)) cells_are
    ∙ ap (λ r. line_with task.kind r (option_map (range_in ranges) task.second)) (sym (unwrap_or-slice_get ranges task.first (0, 0)))

-- the cells are told
pub told : (made : Made) (plan : StagePlan) → AreParents made plan.parents.items → AreRanges made plan.ranges.items → TellsCells made plan
told made plan parents ranges = record {
  one_parent_each = parents.one_each;
  one_range_each = ranges.one_each;
  parents = λ cell low. subst (IsParentOf made cell) (sym (unwrap_or-slice_get plan.parents.items cell None)) (parents.each cell None low);
  ranges = λ cell low. subst (IsRangeOf made cell) (sym (unwrap_or-slice_get plan.ranges.items cell (0, 0))) (ranges.each cell (0, 0) low);
}

-- a scene by its parts
abbrev scene_with : Params → ℕ → Bounds → List Particle → List (List ℕ) → List TaskLine → Scene
scene_with params t bounds start leaves tasks = record { tick = t; params = params; bounds = bounds; start = start; leaves = leaves; tasks = tasks; drift = false }

pub same_scene : (params : Params) (t : ℕ) (bounds bounds' : Bounds) (start start' : List Particle) (leaves leaves' : List (List ℕ)) (tasks tasks' : List TaskLine)
    → bounds ≡ bounds' → start ≡ start' → leaves ≡ leaves' → tasks ≡ tasks' → scene_with params t bounds start leaves tasks ≡ scene_with params t bounds' start' leaves' tasks'
same_scene params t bounds bounds' start start' leaves leaves' tasks tasks' a b c d = rw (a, b, c, d) refl

-- the tree of some places and lengths is that of the list at the tick
pub made_is : (params : Params) (t : ℕ) (list : List Particle) (points : List (List ℕ)) (lengths : List ℕ) → points ≡ map (place_at params t) list → lengths ≡ map (λ (p : Particle). p.h) list
    → made_of points lengths params.leaf ≡ made_at params t list
made_is params t list points lengths points_are lengths_are =
    ap (λ ps. made_of ps lengths params.leaf) points_are ∙ ap (λ hs. made_of (map (place_at params t) list) hs params.leaf) lengths_are

-- the plan that these parts make is the one of the list at the tick
pub stage_is : (params : Params) (bounds : Bounds) (t : ℕ) (list : List Particle) (made : Made) (plan : StagePlan) (found : Bounds) (start : List Particle) (leaves : List (List ℕ)) (tasks : List TaskLine)
    → made ≡ made_at params t list → plan.scene ≡ scene_with params t found start leaves tasks
    → found ≡ bounds → start ≡ list → leaves ≡ leaves_in made → tasks ≡ map (line_in plan.ranges.items) plan.graph.tasks
    → AreParents made plan.parents.items → AreRanges made plan.ranges.items → plan.graph ≡ graph_of made (spans_at params t list) (dues_at t list) false
    → IsStageOf params bounds t list plan
stage_is params bounds t list made plan found start leaves tasks made_is scene_is bounds_are start_is leaves_are tasks_are parents ranges graph_is = record {
  scene = scene_is ∙ same_scene params t found bounds start list leaves (leaves_in (made_at params t list)) tasks (map (line_of plan) plan.graph.tasks) bounds_are start_is (leaves_are ∙ ap leaves_in made_is) tasks_are;
  cells = subst (λ m. TellsCells m plan) made_is (told made plan parents ranges);
  graph = graph_is ∙ ap (λ m. graph_of m (spans_at params t list) (dues_at t list) false) made_is;
}

-- a point for each particle, and a flag for each point
pub points_count : (params : Params) (t : ℕ) (list : List Particle) (made : Made) → made ≡ made_at params t list → length made.points ≡ length list
points_count params t list made made_is = ap (λ (m : Made). length m.points) made_is ∙ length-map list (place_at params t)

pub flags : (params : Params) (t : ℕ) (list : List Particle) (made : Made) (dues : List Bool) → made ≡ made_at params t list → dues ≡ dues_at t list → length dues ≡ length made.points
flags params t list made dues made_is dues_are = ap length dues_are ∙ length-map list (λ (p : Particle). is_due t p.bin) ∙ sym (points_count params t list made made_is)

-- the cover of the tree is that of the list at the tick
pub spans_are : (params : Params) (t : ℕ) (list : List Particle) (made : Made) (dues : List Bool) (spans : List Span) → made ≡ made_at params t list → dues ≡ dues_at t list → spans ≡ spans_of made dues (limits_of params)
    → spans ≡ spans_at params t list
spans_are params t list made dues spans made_is dues_are spans_is =
    spans_is ∙ ap (λ m. spans_of m dues (limits_of params)) made_is ∙ ap (λ ds. spans_of (made_at params t list) ds (limits_of params)) dues_are

-- a cover of at most so many points has few spans
pub spans_few : (spans points : ℕ) → points ≤ 32768 → 2 * spans ≤ points * (points + 1) → spans < 2 ^ 30
spans_few spans points few most = omega (arith, mul-le points (points + 1) 32768 32769 few (omega arith))

-- a graph, once it is built, is one on the spans
pub graph_on : {E : Type 0} (r : Result Plan E) (made : Made) (spans : List Span) → IfOk r (λ (plan : Plan). length plan.tasks < 2 ^ 32) → IfOk r (λ (plan : Plan). All (IsOnSpan made) plan.tasks)
    → IfOk r (λ (plan : Plan). MeetOnce made spans plan.tasks) → IfOk r (λ (plan : Plan). WaitAtLeaves made plan.tasks plan.successors) → IfOk r (λ (plan : Plan). AreForward plan.successors)
    → IfOk r (λ (plan : Plan). AreRising plan.successors) → IfOk r (IsGraphOn made spans)
graph_on (Ok plan) made spans few on_spans meet_once wait_at_leaves forward rising = record {
  few = few;
  on_spans = on_spans;
  meet_once = meet_once;
  wait_at_leaves = wait_at_leaves;
  forward = forward;
  rising = rising;
}
graph_on (Err e) made spans few on_spans meet_once wait_at_leaves forward rising = tt
