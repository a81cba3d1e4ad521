use Rattle.std.proofs.Common.{◌∙◌, ◌<◌, [], length, arith}
use Rattle.std.proofs.lemmas.List.{get_or_read}
use Rattle.sph_step.proofs.FreshBlocks.{as_many, leaf_more, tasks_of}
use Rattle.sph_step.proofs.blocks.some_blocks.Goals as goal

pub bounds-tasks-leaf : goal.bounds-tasks-leaf
bounds-tasks-leaf c = omega (arith, as_many c.args.scene.now c.args.tasks.now c.requires.tasks, c.requires.within, c.loop-leaf-test.true)

pub with_tasks-requires-clause-tasks : goal.with_tasks-requires-clause-tasks
with_tasks-requires-clause-tasks c =
    let scene = c.args.scene.now in
    let lists = c.args.tasks.now in
    let leaf = c.loop-leaf.leaf in
    let low : leaf < length scene.leaves = omega (arith, c.requires.within, c.loop-leaf-test.true) in
    let inside : leaf < length lists = omega (arith, as_many scene lists c.requires.tasks) in
    c.as_slice.ensures ∙ get_or_read lists leaf c.index-tasks-leaf.result inside c.index-tasks-leaf.is [] ∙ tasks_of scene lists leaf [] c.requires.tasks low

pub loop-leaf-preserved : goal.loop-leaf-preserved
loop-leaf-preserved c =
    rw c.in_ok-push.ensures.items
    (leaf_more c.args.scene.now c.args.from c.loop-leaf.leaf c.loop-leaf.blocks.items c.in_ok-block.block (omega arith) c.loop-leaf.invariant c.in_ok-block.ensures)
