use Rattle.std.proofs.Common.{ap, ◌∙◌}
use Rattle.sph_num.specs.declared.kind.Kind.{Kind}
use Rattle.sph_num.specs.declared.kind.Kind.TheVariants.{Drift, Density, Ghost, Force, Kick}
use Rattle.cell_block.specs.declared.scene.TaskLine.{TaskLine}
use Rattle.cell_block.specs.Scene.{leaf_line, line_at}
use Rattle.cell_kick.proofs.InOrder.{leaf_added, leaf_ready, leaf_task, range_added, range_ready}
use Rattle.cell_kick.proofs.tests.do_task.Goals as goal

pub drift-requires-clause-task : goal.drift-requires-clause-task
drift-requires-clause-task c = leaf_task c.args.scene.now Drift c.args.task 0 c.requires.number (c.requires.line ∙ ap (λ (k : Kind). leaf_line k 0) c.in-Drift.is)

pub drift-requires-clause-block : goal.drift-requires-clause-block
drift-requires-clause-block c = rw c.deref_mut.ensures.value (leaf_ready c.args.scene.now c.args.kind c.args.task 0 c.args.block.now c.requires.line c.requires.good c.requires.first)

pub returns-in-Drift : goal.returns-in-Drift
returns-in-Drift c = leaf_added c.args.scene.now c.args.kind c.args.task 0 c.args.block.now c.drift.new.block c.requires.line c.requires.first (rw c.deref_mut.ensures.value at c.drift.ensures)

pub set_ghosts-requires-clause-task : goal.set_ghosts-requires-clause-task
set_ghosts-requires-clause-task c = leaf_task c.args.scene.now Ghost c.args.task 0 c.requires.number (c.requires.line ∙ ap (λ (k : Kind). leaf_line k 0) c.in-Ghost.is)

pub set_ghosts-requires-clause-block : goal.set_ghosts-requires-clause-block
set_ghosts-requires-clause-block c = rw c.deref_mut-in-Ghost.ensures.value (leaf_ready c.args.scene.now c.args.kind c.args.task 0 c.args.block.now c.requires.line c.requires.good c.requires.first)

pub returns-in-Ghost : goal.returns-in-Ghost
returns-in-Ghost c = leaf_added c.args.scene.now c.args.kind c.args.task 0 c.args.block.now c.set_ghosts.new.block c.requires.line c.requires.first (rw c.deref_mut-in-Ghost.ensures.value at c.set_ghosts.ensures)

pub kick-requires-clause-task : goal.kick-requires-clause-task
kick-requires-clause-task c = leaf_task c.args.scene.now Kick c.args.task 0 c.requires.number (c.requires.line ∙ ap (λ (k : Kind). leaf_line k 0) c.in-Kick.is)

pub kick-requires-clause-block : goal.kick-requires-clause-block
kick-requires-clause-block c = rw c.deref_mut-in-Kick.ensures.value (leaf_ready c.args.scene.now c.args.kind c.args.task 0 c.args.block.now c.requires.line c.requires.good c.requires.first)

pub returns-in-Kick : goal.returns-in-Kick
returns-in-Kick c = leaf_added c.args.scene.now c.args.kind c.args.task 0 c.args.block.now c.kick.new.block c.requires.line c.requires.first (rw c.deref_mut-in-Kick.ensures.value at c.kick.ensures)

pub density_self-requires-clause-task : goal.density_self-requires-clause-task
density_self-requires-clause-task c = leaf_task c.args.scene.now Density c.args.task 0 c.requires.number (c.requires.line ∙ ap (λ (k : Kind). leaf_line k 0) c.in-Density.is)

pub density_self-requires-clause-one_cell : goal.density_self-requires-clause-one_cell
density_self-requires-clause-one_cell c = ap (λ (line : TaskLine). line.second) c.requires.line

pub density_self-requires-clause-ready : goal.density_self-requires-clause-ready
density_self-requires-clause-ready c =
    let scene = c.args.scene.now in
    rw c.from_mut.ensures.value (range_ready scene c.args.task 0 (line_at scene c.args.task).first c.args.block.now (ap (λ (line : TaskLine). line.first) c.requires.line) c.requires.good c.requires.first)

pub returns-in-Density : goal.returns-in-Density
returns-in-Density c =
    let scene = c.args.scene.now in
    range_added scene c.args.task 0 (line_at scene c.args.task).first c.args.block.now c.density_self.new.blocks (ap (λ (line : TaskLine). line.first) c.requires.line) c.requires.first (rw c.from_mut.ensures.value at c.density_self.ensures)

pub force_self-requires-clause-task : goal.force_self-requires-clause-task
force_self-requires-clause-task c = leaf_task c.args.scene.now Force c.args.task 0 c.requires.number (c.requires.line ∙ ap (λ (k : Kind). leaf_line k 0) c.in-Force.is)

pub force_self-requires-clause-one_cell : goal.force_self-requires-clause-one_cell
force_self-requires-clause-one_cell c = ap (λ (line : TaskLine). line.second) c.requires.line

pub force_self-requires-clause-ready : goal.force_self-requires-clause-ready
force_self-requires-clause-ready c =
    let scene = c.args.scene.now in
    rw c.from_mut-in-Force.ensures.value (range_ready scene c.args.task 0 (line_at scene c.args.task).first c.args.block.now (ap (λ (line : TaskLine). line.first) c.requires.line) c.requires.good c.requires.first)

pub returns-in-Force : goal.returns-in-Force
returns-in-Force c =
    let scene = c.args.scene.now in
    range_added scene c.args.task 0 (line_at scene c.args.task).first c.args.block.now c.force_self.new.blocks (ap (λ (line : TaskLine). line.first) c.requires.line) c.requires.first (rw c.from_mut-in-Force.ensures.value at c.force_self.ensures)
