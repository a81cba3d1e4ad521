-- What is done before a density or a force: the drift of each of its leaves; for a force with a due member also the ghosts.
use Rattle.std.proofs.Common.{◌≡◌, ℕ, true, List, [], ◌∷◌, map, Contains, refl, ap, ◌∙◌}
use Rattle.sph_num.specs.declared.kind.Kind.{Kind}
use Rattle.sph_num.specs.declared.kind.Kind.TheVariants.{Drift, Density, Ghost, Force}
use Rattle.cell_block.specs.declared.rows.BlockRows.{BlockRows}
use Rattle.cell_block.specs.declared.scene.Scene.{Scene}
use Rattle.cell_block.specs.declared.scene.TaskLine.{TaskLine}
use Rattle.cell_block.specs.Blocks.{IsReady, done_of}
use Rattle.cell_block.specs.Content.{is_done_on}
use Rattle.cell_block.specs.Scene.{IsGoodScene, RangeSpan, is_due_at, leaf_line, line_at, members_of, span_line, touches}
use Rattle.cell_block.specs.Tasks.{IsTask}
use Rattle.cell_block.proofs.DoneMarks.{Contains-from_map}
use Rattle.cell_block.proofs.Order.{IsBefore, density_line, done_before, drift_line, edge, ghost_line, task_by, task_part, touched_by, touches_own}

-- the span of a task that adds to sums, with the leaves that it touches
record HasSpan (spans : List RangeSpan) (line : TaskLine) : Type 0 where
  span : RangeSpan
  at : Contains spans span
  touched : (leaf : ℕ) → touches line leaf ≡ true → touches (span_line Density span) leaf ≡ true

from_span : (spans : List RangeSpan) (kind : Kind) (line : TaskLine) → Contains (map (span_line kind) spans) line → HasSpan spans line
from_span spans kind line at =
    let some = Contains-from_map (span_line kind) spans line at in
    record { span = some.0; at = some.1; touched = λ leaf touched. ap (λ (l : TaskLine). touches l leaf) some.2 ∙ touched }

density_span : (scene : Scene) (good : IsGoodScene scene) (task : ℕ) → IsTask scene Density task → HasSpan good.spans (line_at scene task)
density_span scene good task is = from_span good.spans Density (line_at scene task) (task_part scene good Density task is)

force_span : (scene : Scene) (good : IsGoodScene scene) (task : ℕ) → IsTask scene Force task → HasSpan good.spans (line_at scene task)
force_span scene good task is = from_span good.spans Force (line_at scene task) (task_part scene good Force task is)

-- before a density the drift
drift_before_density : (scene : Scene) (leaf task : ℕ) → IsGoodScene scene → IsTask scene Density task → scene.drift ≡ true → touches (line_at scene task) leaf ≡ true → IsBefore scene Drift leaf task
drift_before_density scene leaf task good is drifts touched =
    let has = density_span scene good task is in
    let own = leaf_line Drift leaf in
    let drift = drift_line scene good leaf has.span has.at drifts (has.touched leaf touched) in
    record {
      earlier = drift.task;
      is = drift.is;
      precedes = ([], edge scene drift.task task leaf Drift Density (task_by scene own drift) is refl (touched_by scene own leaf drift (touches_own Drift leaf)) touched);
    }

-- before a force the ghost of a leaf with a due member
ghost_before_force : (scene : Scene) (leaf i task : ℕ) → IsGoodScene scene → IsTask scene Force task → touches (line_at scene task) leaf ≡ true → Contains (members_of scene leaf) i → is_due_at scene i ≡ true → IsBefore scene Ghost leaf task
ghost_before_force scene leaf i task good is touched at due =
    let own = leaf_line Ghost leaf in
    let made = ghost_line scene good leaf i at due in
    record {
      earlier = made.task;
      is = made.is;
      precedes = ([], edge scene made.task task leaf Ghost Force (task_by scene own made) is refl (touched_by scene own leaf made (touches_own Ghost leaf)) touched);
    }

-- and the drift of any of its leaves, through the density of its span and that ghost
drift_before_force : (scene : Scene) (leaf there i task : ℕ) → IsGoodScene scene → IsTask scene Force task → scene.drift ≡ true → touches (line_at scene task) leaf ≡ true → touches (line_at scene task) there ≡ true
    → Contains (members_of scene there) i → is_due_at scene i ≡ true → IsBefore scene Drift leaf task
drift_before_force scene leaf there i task good is drifts touched touched_there at due =
    let has = force_span scene good task is in
    let first = leaf_line Drift leaf in
    let second = span_line Density has.span in
    let third = leaf_line Ghost there in
    let drift = drift_line scene good leaf has.span has.at drifts (has.touched leaf touched) in
    let density = density_line scene good has.span has.at in
    let made = ghost_line scene good there i at due in
    let at_leaf = touched_by scene second leaf density (has.touched leaf touched) in
    let at_there = touched_by scene second there density (has.touched there touched_there) in
    let made_there = touched_by scene third there made (touches_own Ghost there) in
    record {
      earlier = drift.task;
      is = drift.is;
      precedes = (
        density.task ∷ made.task ∷ [],
        (
          edge scene drift.task density.task leaf Drift Density (task_by scene first drift) (task_by scene second density) refl (touched_by scene first leaf drift (touches_own Drift leaf)) at_leaf,
          (
            edge scene density.task made.task there Density Ghost (task_by scene second density) (task_by scene third made) refl at_there made_there,
            edge scene made.task task there Ghost Force (task_by scene third made) is refl made_there touched_there,
          ),
        ),
      );
    }

-- so these are done on a block that is ready
pub density_drifted : (scene : Scene) (leaf task : ℕ) (block : BlockRows) → IsGoodScene scene → IsTask scene Density task → touches (line_at scene task) leaf ≡ true → IsReady scene task leaf block → scene.drift ≡ true → is_done_on scene Drift leaf (done_of block) ≡ true
density_drifted scene leaf task block good is touched ready drifts = done_before scene Drift leaf task block (drift_before_density scene leaf task good is drifts touched) ready

pub force_drifted : (scene : Scene) (leaf there i task : ℕ) (block : BlockRows) → IsGoodScene scene → IsTask scene Force task → touches (line_at scene task) leaf ≡ true → touches (line_at scene task) there ≡ true
    → Contains (members_of scene there) i → is_due_at scene i ≡ true → IsReady scene task leaf block → scene.drift ≡ true → is_done_on scene Drift leaf (done_of block) ≡ true
force_drifted scene leaf there i task block good is touched touched_there at due ready drifts = done_before scene Drift leaf task block (drift_before_force scene leaf there i task good is drifts touched touched_there at due) ready

pub force_ghosted : (scene : Scene) (leaf i task : ℕ) (block : BlockRows) → IsGoodScene scene → IsTask scene Force task → touches (line_at scene task) leaf ≡ true → Contains (members_of scene leaf) i → is_due_at scene i ≡ true
    → IsReady scene task leaf block → is_done_on scene Ghost leaf (done_of block) ≡ true
force_ghosted scene leaf i task block good is touched at due ready = done_before scene Ghost leaf task block (ghost_before_force scene leaf i task good is touched at due) ready
