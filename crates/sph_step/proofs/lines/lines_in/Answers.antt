use Rattle.std.proofs.Common.{◌<◌, ◌≤◌, List, [], ◌∷◌, ◌++◌, length, map, ap, ◌∙◌, arith}
use Rattle.std.proofs.lemmas.List.{take_all}
use Rattle.sph_num.specs.declared.kind.Kind.TheVariants.{Drift}
use Rattle.cell_block.specs.declared.scene.TaskLine.{TaskLine}
use Rattle.task_graph.specs.Tasks.{cell_task}
use Rattle.sph_step.specs.Stage.{line_in}
use Rattle.sph_step.proofs.Filled.{map_next}
use Rattle.sph_step.proofs.lines.lines_in.Goals as goal

pub line-requires-clause-cells : goal.line-requires-clause-cells
line-requires-clause-cells c = c.requires c.loop-task.task (cell_task Drift 0) (omega (arith, c.tasks-task-end.ensures.count))

pub loop-task-init : goal.loop-task-init
loop-task-init c = c.in_ok-lines.ensures.items

pub loop-task-preserved : goal.loop-task-preserved
loop-task-preserved c =
    let tasks = c.args.graph.now.tasks in
    let low : c.loop-task.task < length tasks = omega (arith, c.tasks-task-end.ensures.count) in
    c.in_ok-push.ensures.items ∙ ap (λ (ls : List TaskLine). ls ++ c.line.result ∷ []) c.loop-task.invariant
    ∙ map_next (line_in c.args.ranges.now) tasks c.loop-task.task (cell_task Drift 0) c.line.result low c.line.ensures

pub returns : goal.returns
returns c =
    let tasks = c.args.graph.now.tasks in
    let all : length tasks ≤ c.loop-task.task = omega (arith, c.tasks-task-end.ensures.count) in
    c.from_vec.ensures ∙ c.loop-task.invariant ∙ ap (map (line_in c.args.ranges.now)) (take_all c.loop-task.task tasks all)
