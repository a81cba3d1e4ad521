use Rattle.std.proofs.Common.{◌≡◌, ℕ, ◌<◌, ◌∙◌, List, [], get_or, length, replicate, ap, subst, arith}
use Rattle.std.specs.Prelude.{None}
use Rattle.lists.proofs.Elements.{written_back}
use Rattle.sph_num.specs.declared.kind.Kind.TheVariants.{Drift}
use Rattle.cell_block.specs.declared.scene.TaskLine.{TaskLine}
use Rattle.cell_block.specs.Scene.{touches}
use Rattle.cell_block.specs.inner.TaskLists.{AddsTask}
use Rattle.cell_block.proofs.Others.{HasRanges, good_line}
use Rattle.cell_block.proofs.TaskLists.{AreTasksBelow, AreTasksBelow-all, AreTasksBelow-more, AreTasksBelow-none}
use Rattle.cell_block.proofs.touching.tasks_by_leaf.Goals as goal
use Rattle.cell_block.proofs.touching.tasks_by_leaf.Goals.{After-deref_mut}

-- the ranges of the task at hand
ranges : (c : After-deref_mut) → HasRanges c.args.scene.now (get_or c.args.scene.now.tasks c.loop-task.task (record { kind = Drift; first = (0, 0); second = None }))
ranges c =
    let inside : c.loop-task.task < length c.args.scene.now.tasks = omega (arith, ap length c.as_slice-line-items.ensures, c.loop-task-test.true) in
    good_line c.args.scene.now c.loop-task.task c.requires inside

pub loop-task-init : goal.loop-task-init
loop-task-init c = AreTasksBelow-none c.args.scene.now c.in_ok-lists.lists.items (c.in_ok-lists.ensures ∙ ap (λ n. replicate n []) c.len.ensures)

pub add_line-requires-clause-first : goal.add_line-requires-clause-first
add_line-requires-clause-first c = rw (c.as_slice-line-items.ensures, c.deref_mut.ensures.value, c.loop-task.invariant.one_each) (ranges c).0

pub add_line-requires-clause-second : goal.add_line-requires-clause-second
add_line-requires-clause-second c = rw (c.as_slice-line-items.ensures, c.deref_mut.ensures.value, c.loop-task.invariant.one_each) (ranges c).1

pub loop-task-preserved : goal.loop-task-preserved
loop-task-preserved c =
    let lists = c.loop-task.lists.items in
    let lists' = c.add_line.new.lists in
    let task = c.loop-task.task in
    let at = λ (lines : List TaskLine). get_or lines task (record { kind = Drift; first = (0, 0); second = None }) in
    let kept : length lists' ≡ length lists = c.add_line.auto.lists ∙ ap length c.deref_mut.ensures.value in
    let adds = subst (λ (ls : List (List ℕ)). AddsTask (touches (at c.as_slice-line-items.result.now)) task ls lists') c.deref_mut.ensures.value c.in_ok-add_line.ensures in
    rw (written_back c.loop-task.lists.len lists lists' c.loop-task.lists.ok.0 kept)
    (AreTasksBelow-more c.args.scene.now task lists lists' c.loop-task.invariant (subst (λ lines. AddsTask (touches (at lines)) task lists lists') c.as_slice-line-items.ensures adds) kept)

pub returns : goal.returns
returns c =
    let all : c.loop-task.task ≡ length c.args.scene.now.tasks = omega (arith, ap length c.as_slice-line-items.ensures) in
    let lists = c.loop-task.lists.items in
    AreTasksBelow-all c.args.scene.now lists (subst (λ n. AreTasksBelow c.args.scene.now n lists) all c.loop-task.invariant)
