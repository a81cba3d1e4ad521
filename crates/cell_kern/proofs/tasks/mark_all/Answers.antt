use Rattle.std.proofs.Common.{refl, subst, arith}
use Rattle.cell_block.specs.declared.rows.BlockRows.{BlockRows}
use Rattle.cell_block.specs.Tasks.{IsMarked}
use Rattle.cell_kern.proofs.Marking.{all_marked, next_keeps, next_marked, none_marked}
use Rattle.cell_kern.proofs.tasks.mark_all.Goals as goal

pub loop-block-init : goal.loop-block-init
loop-block-init c = none_marked c.args.task c.args.blocks.now

pub mark-requires : goal.mark-requires
mark-requires c = rw c.deref_mut.ensures.value (next_keeps c.args.task c.loop-block.block-index c.args.blocks.now c.loop-block.blocks c.block-item.result (omega arith) c.requires c.loop-block.invariant)

pub loop-block-preserved : goal.loop-block-preserved
loop-block-preserved c =
    next_marked c.args.task c.loop-block.block-index c.args.blocks.now c.loop-block.blocks _ c.block-item.result c.mark.new.self (omega arith) c.loop-block.invariant
    (subst (λ (b : BlockRows). IsMarked c.args.task b c.mark.new.self) c.deref_mut.ensures.value (record { marks = c.mark.ensures.marks; unchanged = c.mark.ensures.unchanged; done = c.mark.ensures.done })) refl

pub returns : goal.returns
returns c = all_marked c.args.task c.loop-block.block-index c.args.blocks.now c.loop-block.blocks (omega arith) c.loop-block.invariant
