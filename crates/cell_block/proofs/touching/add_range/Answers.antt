use Rattle.std.proofs.Common.{rules}
use Rattle.cell_block.proofs.TaskLists.{AddsTask-none, AddsTask-next}
use Rattle.cell_block.proofs.touching.add_range.Goals as goal

pub loop-leaf-init : goal.loop-leaf-init
loop-leaf-init c = AddsTask-none c.args.range.0 c.args.task c.args.lists.now

pub loop-leaf-preserved : goal.loop-leaf-preserved
loop-leaf-preserved c =
    rw c.in_ok-push.ensures
    (AddsTask-next c.args.range.0 c.loop-leaf.leaf c.args.task c.args.lists.now c.loop-leaf.lists c.index-lists-leaf.result c.loop-leaf.auto.leaf (search rules) c.loop-leaf.invariant)
