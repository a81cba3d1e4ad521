-- From what the work asks of the blocks of a task, and leaves of them, to what the scene says of its line, and back.
use Rattle.std.proofs.Common.{◌≡◌, ℕ, ◌+◌, ◌-◌, ◌<◌, List, [], ◌∷◌, length, get_or, refl, sym, subst, ap, ◌∙◌, add-zero, arith}
use Rattle.std.specs.Prelude.{Option, Some, None, option_map, slice_set, unwrap_or}
use Rattle.std.specs.List.{range_with_len}
use Rattle.std.proofs.lemmas.List.{get_or-set_same, get_or_default, length-map, length-set}
use Rattle.std.proofs.lemmas.List.FromFn.{length-range_with_len, get_or-range_with_len}
use Rattle.sph_num.specs.declared.kind.Kind.{Kind}
use Rattle.sph_num.specs.declared.kind.Kind.TheVariants.{Drift, Density, Ghost, Force, Kick}
use Rattle.cell_block.specs.declared.rows.BlockRows.{BlockRows}
use Rattle.cell_block.specs.declared.scene.Scene.{Scene}
use Rattle.cell_block.specs.declared.scene.TaskLine.{TaskLine}
use Rattle.cell_block.specs.Blocks.{Agrees, AreAdded, AreReady, IsAdded, IsReady, done_of}
use Rattle.cell_block.specs.Scene.{IsGoodScene, IsLinePath, leaf_line, line_at}
use Rattle.cell_kern.specs.Tasks.{second_of}
use Rattle.cell_kick.proofs.Added.{IsOfLeaves}
use Rattle.cell_block.proofs.Order.{on_leaf, task_part}
use Rattle.qs_core.specs.Blocks as work
use Rattle.qs_core.specs.Blocks.{first_leaves, second_leaves}
use Rattle.qs_core.specs.Shape.{Shape, TaskShape, leaves_below, leaves_of_other, range_of}
use Rattle.qs_core.specs.Shape.{task_at as shape_task_at}
use Rattle.task_graph.specs.Graph.{task_at}
use Rattle.sph_step.specs.declared.stage.StagePlan.{StagePlan}
use Rattle.sph_step.specs.Stage.{IsStage, fits_in, line_of, shape_of, task_shape}
use Rattle.sph_step.proofs.Preceding.{Precedes-from_line}
use Rattle.sph_step.proofs.Touched.{Touches-from_line, length-shape_tasks, line_is, shape_task_is}

-- the leaves of a range, in order
abbrev pub leaves_between : ℕ × ℕ → List ℕ
leaves_between range = range_with_len range.0 (range.1 - range.0)

-- what comes before a task is one
path_within : (scene : Scene) (before : ℕ) (path : List ℕ) (after : ℕ) → IsLinePath scene before path after → before < length scene.tasks
path_within scene before [] after edge = edge.before_within
path_within scene before (task ∷ path) after along = along.0.before_within

-- the leaves of a second cell, by its range
two_leaves : (shape : Shape) (other : Option ℕ) (range : ℕ × ℕ) → option_map (range_of shape) other ≡ Some range → leaves_of_other shape other ≡ leaves_between range
two_leaves shape None range is = cc
two_leaves shape (Some cell) range is = let same : range_of shape cell ≡ range = cc in ap leaves_between same

no_leaves : (shape : Shape) (other : Option ℕ) → option_map (range_of shape) other ≡ None → leaves_of_other shape other ≡ []
no_leaves shape None is = cc
no_leaves shape (Some cell) is = cc

module _ (plan : StagePlan) (is : IsStage plan) where
  -- there is a line for each task
  pub lines_long : length plan.scene.tasks ≡ length plan.graph.tasks
  lines_long = ap length is.lines ∙ length-map plan.graph.tasks (line_of plan)

  module _ (task : ℕ) (within : task < length plan.graph.tasks) where
    -- the leaves of a task are those of its line's ranges
    pub first_between : first_leaves (shape_of plan) task ≡ leaves_between (line_at plan.scene task).first
    first_between =
        let shape = shape_of plan in
        ap (λ (s : TaskShape). leaves_below shape s.first) (shape_task_is plan task within)
        ∙ ap (λ (l : TaskLine). leaves_between l.first) (sym (line_is plan is.lines task within))

    pub second_between : (range : ℕ × ℕ) → (line_at plan.scene task).second ≡ Some range → second_leaves (shape_of plan) task ≡ leaves_between range
    second_between range two =
        let shape = shape_of plan in
        ap (λ (s : TaskShape). leaves_of_other shape s.second) (shape_task_is plan task within)
        ∙ two_leaves shape (task_at plan.graph.tasks task).second range (ap (λ (l : TaskLine). l.second) (sym (line_is plan is.lines task within)) ∙ two)

    pub second_none : (line_at plan.scene task).second ≡ None → second_leaves (shape_of plan) task ≡ []
    second_none one =
        let shape = shape_of plan in
        ap (λ (s : TaskShape). leaves_of_other shape s.second) (shape_task_is plan task within)
        ∙ no_leaves shape (task_at plan.graph.tasks task).second (ap (λ (l : TaskLine). l.second) (sym (line_is plan is.lines task within)) ∙ one)

    -- a block that is ready for the work is so for the scene
    ready_block : (leaf : ℕ) (block : BlockRows) → work.IsApplicable (shape_of plan) task leaf (Agrees plan.scene leaf block) (done_of block) → IsReady plan.scene task leaf block
    ready_block leaf block ready = record {
      agrees = ready.fitting;
      not_done = ready.not_done;
      before = λ earlier precedes touched.
          ready.before earlier (Precedes-from_line plan is.edges earlier task precedes)
          (Touches-from_line plan is.lines earlier leaf (subst (λ n. earlier < n) lines_long (path_within plan.scene earlier precedes.0 task precedes.1)) touched);
    }

    module _ (range : ℕ × ℕ) (leaves : List ℕ) (are : leaves ≡ leaves_between range) (blocks : List BlockRows) (ready : work.AreApplicable (shape_of plan) task (fits_in plan) done_of leaves blocks) where
      count_is : length leaves ≡ range.1 - range.0
      count_is = ap length are ∙ length-range_with_len range.0 (range.1 - range.0)

      leaf_at : (k : ℕ) → k < length leaves → get_or leaves k 0 ≡ range.0 + k
      leaf_at k low = let counted = count_is in ap (λ (ls : List ℕ). get_or ls k 0) are ∙ get_or-range_with_len range.0 (range.1 - range.0) k 0 (omega arith)

      -- blocks that are ready for the work are so for the scene
      pub ready_blocks : AreReady plan.scene task range blocks
      ready_blocks = record {
        one_each = ready.one_each ∙ count_is;
        ready = λ k d low.
            let inside : k < length leaves = let long = ready.one_each in omega arith in
            subst (λ leaf. IsReady plan.scene task leaf (get_or blocks k d)) (leaf_at k inside) (ready_block (get_or leaves k 0) (get_or blocks k d) (ready.ready k d inside));
      }

      -- and what was added for the scene was added for the work
      pub added_blocks : (after : List BlockRows) → AreAdded plan.scene task range blocks after → work.AreApplied (shape_of plan) task (fits_in plan) done_of leaves blocks after
      added_blocks after added = record {
        one_each = added.one_each;
        added = λ k d low.
            let inside : k < length blocks = let long = ready.one_each in omega arith in
            let one = added.added k d inside in
            record { fitting = subst (λ leaf. Agrees plan.scene leaf (get_or after k d)) (sym (leaf_at k low)) one.agrees; tasks = one.tasks };
      }

    -- where there is no leaf there is nothing to add
    pub none_added : (leaves : List ℕ) (blocks : List BlockRows) → leaves ≡ [] → work.AreApplied (shape_of plan) task (fits_in plan) done_of leaves blocks blocks
    none_added leaves blocks none = record { one_each = refl; added = λ k d low. absurd (omega (arith, ap length none)) }

-- what the work tells of a task is what the graph tells
pub task_within : (plan now : StagePlan) (task : ℕ) → plan ≡ now → task < length (shape_of now).tasks → task < length plan.graph.tasks
task_within plan now task same low = subst (λ n. task < n) (length-shape_tasks plan) (subst (λ (p : StagePlan). task < length (shape_of p).tasks) (sym same) low)

pub told_task : {X : Type 0} (f : TaskShape → X) (plan now : StagePlan) (task : ℕ) → plan ≡ now → task < length (shape_of now).tasks → f (task_shape plan.graph task) ≡ f (shape_task_at (shape_of now) task)
told_task f plan now task same low =
    sym (ap f (shape_task_is plan task (task_within plan now task same low))) ∙ ap (λ (p : StagePlan). f (shape_task_at (shape_of p) task)) same

-- a second range is the one that the line tells
pub second_is : (line : TaskLine) (range : ℕ × ℕ) → line.second ≡ Some range → line.second ≡ Some (second_of line)
second_is line range two = two ∙ ap (λ (o : Option (ℕ × ℕ)). Some (unwrap_or o (0, 0))) (sym two)

-- the blocks of a task's leaves as the work sees them, and as the scene does
module _ (plan now : StagePlan) (same : plan ≡ now) (is : IsStage plan) (task : ℕ) (low : task < length (shape_of now).tasks) where
  pub line_within : task < length plan.scene.tasks
  line_within = subst (λ n. task < n) (sym (lines_long plan is)) (task_within plan now task same low)

  module _ (blocks : List BlockRows) (ready : work.AreApplicable (shape_of now) task (fits_in now) done_of (first_leaves (shape_of now) task) blocks) where
    first_of_plan : work.AreApplicable (shape_of plan) task (fits_in plan) done_of (first_leaves (shape_of plan) task) blocks
    first_of_plan = subst (λ (p : StagePlan). work.AreApplicable (shape_of p) task (fits_in p) done_of (first_leaves (shape_of p) task) blocks) (sym same) ready

    pub first_ready : AreReady plan.scene task (line_at plan.scene task).first blocks
    first_ready =
        let within = task_within plan now task same low in
        ready_blocks plan is task within (line_at plan.scene task).first (first_leaves (shape_of plan) task) (first_between plan is task within) blocks first_of_plan

    pub first_added : (after : List BlockRows) → AreAdded plan.scene task (line_at plan.scene task).first blocks after → work.AreApplied (shape_of now) task (fits_in now) done_of (first_leaves (shape_of now) task) blocks after
    first_added after added =
        let within = task_within plan now task same low in
        subst (λ (p : StagePlan). work.AreApplied (shape_of p) task (fits_in p) done_of (first_leaves (shape_of p) task) blocks after) same
        (added_blocks plan is task within (line_at plan.scene task).first (first_leaves (shape_of plan) task) (first_between plan is task within) blocks first_of_plan after added)

  module _ (range : ℕ × ℕ) (two : (line_at plan.scene task).second ≡ Some range) (blocks : List BlockRows) (ready : work.AreApplicable (shape_of now) task (fits_in now) done_of (second_leaves (shape_of now) task) blocks) where
    second_of_plan : work.AreApplicable (shape_of plan) task (fits_in plan) done_of (second_leaves (shape_of plan) task) blocks
    second_of_plan = subst (λ (p : StagePlan). work.AreApplicable (shape_of p) task (fits_in p) done_of (second_leaves (shape_of p) task) blocks) (sym same) ready

    pub second_ready : AreReady plan.scene task range blocks
    second_ready =
        let within = task_within plan now task same low in
        ready_blocks plan is task within range (second_leaves (shape_of plan) task) (second_between plan is task within range two) blocks second_of_plan

    pub second_added : (after : List BlockRows) → AreAdded plan.scene task range blocks after → work.AreApplied (shape_of now) task (fits_in now) done_of (second_leaves (shape_of now) task) blocks after
    second_added after added =
        let within = task_within plan now task same low in
        subst (λ (p : StagePlan). work.AreApplied (shape_of p) task (fits_in p) done_of (second_leaves (shape_of p) task) blocks after) same
        (added_blocks plan is task within range (second_leaves (shape_of plan) task) (second_between plan is task within range two) blocks second_of_plan after added)

  pub second_left : (blocks : List BlockRows) → (line_at plan.scene task).second ≡ None → work.AreApplied (shape_of now) task (fits_in now) done_of (second_leaves (shape_of now) task) blocks blocks
  second_left blocks one =
      let within = task_within plan now task same low in
      subst (λ (p : StagePlan). work.AreApplied (shape_of p) task (fits_in p) done_of (second_leaves (shape_of p) task) blocks blocks) same
      (none_added plan is task within (second_leaves (shape_of plan) task) blocks (second_none plan is task within one))

-- a kind that is neither of a density nor of a force is one of tasks on one leaf each
pub of_leaves : (kind : Kind) → (kind ≡ Density → ⊥) → (kind ≡ Force → ⊥) → IsOfLeaves kind
of_leaves Drift density force = tt
of_leaves Ghost density force = tt
of_leaves Kick density force = tt
of_leaves Density density force = absurd (density refl)
of_leaves Force density force = absurd (force refl)

-- a task on one leaf
leaf_line_is : (scene : Scene) (task : ℕ) (kind : Kind) → IsGoodScene scene → task < length scene.tasks → IsOfLeaves kind → (line_at scene task).kind ≡ kind
    → line_at scene task ≡ leaf_line kind (line_at scene task).first.0
leaf_line_is scene task Drift good within of is = (on_leaf Drift _ (line_at scene task) (task_part scene good Drift task (record { number = within; is_kind = is }))).is
leaf_line_is scene task Ghost good within of is = (on_leaf Ghost _ (line_at scene task) (task_part scene good Ghost task (record { number = within; is_kind = is }))).is
leaf_line_is scene task Kick good within of is = (on_leaf Kick _ (line_at scene task) (task_part scene good Kick task (record { number = within; is_kind = is }))).is
leaf_line_is scene task Density good within of is = absurd of
leaf_line_is scene task Force good within of is = absurd of

-- the one element of a list
only_place : (k n : ℕ) → n ≡ 1 → k < n → k ≡ 0
only_place k n one low = omega arith

module _ (scene : Scene) (task : ℕ) (kind : Kind) (good : IsGoodScene scene) (within : task < length scene.tasks) (of : IsOfLeaves kind) (is : (line_at scene task).kind ≡ kind) where
  -- it has no second range, and one block
  pub no_second : (range : ℕ × ℕ) → (line_at scene task).second ≡ Some range → ⊥
  no_second range two =
      let none : (line_at scene task).second ≡ None = ap (λ (l : TaskLine). l.second) (leaf_line_is scene task kind good within of is) in
      cc

  module _ (blocks : List BlockRows) (ready : AreReady scene task (line_at scene task).first blocks) where
    pub one_block : length blocks ≡ 1
    one_block =
        let line = line_at scene task in
        let leaf = line.first.0 in
        let one : leaf + 1 - leaf ≡ 1 = omega arith in
        ready.one_each ∙ ap (λ (l : TaskLine). l.first.1 - l.first.0) (leaf_line_is scene task kind good within of is) ∙ one

    pub one_ready : (d : BlockRows) → IsReady scene task (line_at scene task).first.0 (get_or blocks 0 d)
    one_ready d =
        let leaf = (line_at scene task).first.0 in
        let here : leaf + 0 ≡ leaf = omega arith in
        let low : 0 < length blocks = let one = one_block in omega arith in
        subst (λ n. IsReady scene task n (get_or blocks 0 d)) here (ready.ready 0 d low)

    pub one_added : (d new : BlockRows) → IsAdded scene task (line_at scene task).first.0 (get_or blocks 0 d) new → AreAdded scene task (line_at scene task).first blocks (slice_set blocks 0 new)
    one_added d new added =
        let leaf = (line_at scene task).first.0 in
        let low : 0 < length blocks = let one = one_block in omega arith in
        record {
          one_each = length-set blocks 0 new;
          added = λ k e here.
              let first : 0 ≡ k = sym (only_place k (length blocks) one_block here) in
              let after = slice_set blocks 0 new in
              let at : IsAdded scene task (leaf + 0) (get_or blocks 0 e) (get_or after 0 e) =
              rw (add-zero, get_or-set_same blocks 0 new e low, get_or_default blocks 0 e d low) added in
              subst (λ n. IsAdded scene task (leaf + n) (get_or blocks n e) (get_or after n e)) first at;
        }
