use Rattle.std.proofs.Common.{take, flat_map, arith}
use Rattle.cell_kern.specs.inner.Taking.{rows_in}
use Rattle.cell_kern.proofs.Range.{all_taken, behind_can, behind_few, mid_can, none_taken, own_can, within_taken}
use Rattle.cell_kern.proofs.blocks.add_within.Goals as goal

pub loop-i-init : goal.loop-i-init
loop-i-init g c = none_taken g.S.BlockSums.sums 0 (flat_map rows_in c.args.blocks.now) c.args.blocks.now c.requires.blocks

pub add_own-requires : goal.add_own-requires
add_own-requires g c =
    let split = c.split_at_mut-head in
    rw c.deref_mut-one.ensures.value (own_can g.S.BlockSums.sums c.loop-i.i c.args.blocks.now c.loop-i.blocks split.result.0.now split.result.1.now c.index-head-i.result c.requires.blocks c.requires.few c.loop-i-test.true split.ensures.value split.ensures.front_len c.loop-i.invariant)

pub add_with-requires-clause-one : goal.add_with-requires-clause-one
add_with-requires-clause-one g c =
    let split = c.split_at_mut-head in
    mid_can g.S.BlockSums.sums c.loop-i.i c.args.blocks.now c.loop-i.blocks split.result.0.now split.result.1.now c.index-head-i.result c.add_own.new.block c.requires.blocks c.requires.few c.loop-i-test.true split.ensures.value split.ensures.front_len c.loop-i.invariant (rw c.deref_mut-one.ensures.value at c.add_own.ensures)

pub add_with-requires-clause-others : goal.add_with-requires-clause-others
add_with-requires-clause-others g c =
    let split = c.split_at_mut-head in
    behind_can g.S.BlockSums.sums c.loop-i.i c.args.blocks.now c.loop-i.blocks split.result.0.now split.result.1.now c.requires.blocks c.requires.few split.ensures.value c.loop-i.invariant

pub add_with-requires-clause-few : goal.add_with-requires-clause-few
add_with-requires-clause-few g c =
    let split = c.split_at_mut-head in
    behind_few g.S.BlockSums.sums c.loop-i.i c.args.blocks.now c.loop-i.blocks split.result.0.now split.result.1.now c.requires.few split.ensures.value c.loop-i.invariant

pub loop-i-preserved : goal.loop-i-preserved
loop-i-preserved g c =
    let split = c.split_at_mut-head in
    within_taken g.S.BlockSums.sums c.loop-i.i c.args.blocks.now c.loop-i.blocks split.result.0.now split.result.1.now c.add_with.new.others c.index-head-i.result c.add_own.new.block c.add_with.new.one
    c.loop-i-test.true split.ensures.value split.ensures.front_len c.loop-i.invariant (rw c.deref_mut-one.ensures.value at c.add_own.ensures) c.add_with.ensures.one c.add_with.ensures.others

pub returns : goal.returns
returns g c =
    let blocks = c.args.blocks.now in
    all_taken g.S.BlockSums.sums (flat_map rows_in blocks) (flat_map rows_in (take c.loop-i.i blocks)) c.loop-i.i blocks c.loop-i.blocks (omega arith) c.loop-i.invariant
