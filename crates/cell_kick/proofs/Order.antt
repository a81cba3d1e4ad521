-- The drift of a leaf with a due member is done before its kick.
use Rattle.std.proofs.Common.{◌≡◌, ℕ, true, List, [], ◌∷◌, Contains, subst, refl, ap, ◌∙◌}
use Rattle.lists.proofs.Places.{Contains-from_slice_get}
use Rattle.sph_num.specs.declared.kind.Kind.TheVariants.{Drift, Density, Ghost, Force, Kick}
use Rattle.cell_block.specs.declared.rows.BlockRows.{BlockRows}
use Rattle.cell_block.specs.declared.scene.Scene.{Scene}
use Rattle.cell_block.specs.declared.scene.TaskLine.{TaskLine}
use Rattle.cell_block.specs.Blocks.{IsReady, done_of}
use Rattle.cell_block.specs.Content.{is_done_on}
use Rattle.cell_block.specs.Scene.{IsGoodScene, RangeSpan, is_due_at, leaf_line, line_at, members_of, span_line, touches}
use Rattle.cell_block.specs.Tasks.{IsTask}
use Rattle.cell_block.proofs.DoneMarks.{Contains-from_map}
use Rattle.cell_block.proofs.LeafMembers.{member_inside}
use Rattle.cell_block.proofs.Order.{IsBefore, density_line, done_before, drift_line, edge, force_line, ghost_line, in_part, part_of, task_by, touched_by, touches_own}
use Rattle.cell_block.proofs.WholeSums.{touches_met}

-- a due member meets itself in a density, which is one of a span at the leaf
record HasSpan (scene : Scene) (spans : List RangeSpan) (leaf : ℕ) : Type 0 where
  span : RangeSpan
  at : Contains spans span
  touched : touches (span_line Density span) leaf ≡ true

due_span : (scene : Scene) (good : IsGoodScene scene) (leaf i : ℕ) → Contains (members_of scene leaf) i → is_due_at scene i ≡ true → HasSpan scene good.spans leaf
due_span scene good leaf i at due =
    let one = good.covers.selves i (member_inside scene leaf i good.leaves at) due in
    let line = one.element in
    let touched = touches_met scene Density line leaf i i good.leaves at one.it_does.1 in
    let stands = subst (λ (lines : List TaskLine). Contains lines line) good.lines (Contains-from_slice_get scene.tasks one.index line one.stands) in
    let part = subst (λ k. Contains (part_of scene good.spans k) line) one.it_does.0 (in_part scene good.spans line stands) in
    let some = Contains-from_map (span_line Density) good.spans line part in
    record { span = some.0; at = some.1; touched = ap (λ (l : TaskLine). touches l leaf) some.2 ∙ touched }

-- so the drift comes before the kick, through a density, the ghost and a force
drift_before_kick : (scene : Scene) (good : IsGoodScene scene) (task leaf i : ℕ) → IsTask scene Kick task → touches (line_at scene task) leaf ≡ true → scene.drift ≡ true → Contains (members_of scene leaf) i → is_due_at scene i ≡ true → IsBefore scene Drift leaf task
drift_before_kick scene good task leaf i is touched drifts at due =
    let has = due_span scene good leaf i at due in
    let first = leaf_line Drift leaf in
    let second = span_line Density has.span in
    let third = leaf_line Ghost leaf in
    let fourth = span_line Force has.span in
    let drift = drift_line scene good leaf has.span has.at drifts has.touched in
    let density = density_line scene good has.span has.at in
    let made = ghost_line scene good leaf i at due in
    let force = force_line scene good has.span has.at in
    let at_density = touched_by scene second leaf density has.touched in
    let at_ghost = touched_by scene third leaf made (touches_own Ghost leaf) in
    let at_force = touched_by scene fourth leaf force has.touched in
    record {
      earlier = drift.task;
      is = drift.is;
      precedes = (
        density.task ∷ made.task ∷ force.task ∷ [],
        (
          edge scene drift.task density.task leaf Drift Density (task_by scene first drift) (task_by scene second density) refl (touched_by scene first leaf drift (touches_own Drift leaf)) at_density,
          (
            edge scene density.task made.task leaf Density Ghost (task_by scene second density) (task_by scene third made) refl at_density at_ghost,
            (
              edge scene made.task force.task leaf Ghost Force (task_by scene third made) (task_by scene fourth force) refl at_ghost at_force,
              edge scene force.task task leaf Force Kick (task_by scene fourth force) is refl at_force touched,
            ),
          ),
        ),
      );
    }

pub drift_done : (scene : Scene) (good : IsGoodScene scene) (task leaf i : ℕ) (block : BlockRows) → IsTask scene Kick task → touches (line_at scene task) leaf ≡ true → IsReady scene task leaf block → scene.drift ≡ true → Contains (members_of scene leaf) i → is_due_at scene i ≡ true
    → is_done_on scene Drift leaf (done_of block) ≡ true
drift_done scene good task leaf i block is touched ready drifts at due = done_before scene Drift leaf task block (drift_before_kick scene good task leaf i is touched drifts at due) ready
