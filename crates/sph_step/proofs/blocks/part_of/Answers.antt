use Rattle.std.proofs.Common.{◌+◌, length, arith}
use Rattle.sph_step.proofs.FreshBlocks.{start_within}
use Rattle.sph_step.proofs.blocks.part_of.Goals as goal

pub some_blocks-requires-clause-within : goal.some_blocks-requires-clause-within
some_blocks-requires-clause-within c =
    let within = start_within (length c.args.scene.now.leaves) c.args.parts (c.args.part + 1) (omega (arith, c.requires.part)) (omega (arith, c.requires.part)) in
    rw (c.start_of-upto.ensures, c.len-leaves.ensures) within
