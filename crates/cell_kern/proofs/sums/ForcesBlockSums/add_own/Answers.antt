use Rattle.std.proofs.Common.{sym, ◌∙◌}
use Rattle.cell_kern.specs.inner.Taking.{Forces, rows_in}
use Rattle.cell_kern.proofs.Forces.{force_laws, force_has_room}
use Rattle.cell_kern.proofs.Taken.{length-rows_in}
use Rattle.cell_kern.proofs.sums.ForcesBlockSums.add_own.Goals as goal

pub within-requires-clause-laws : goal.within-requires-clause-laws
within-requires-clause-laws c = force_laws

pub within-requires-clause-room : goal.within-requires-clause-room
within-requires-clause-room c =
    let block = c.args.block.now in
    rw (c.as_slice.ensures.value, c.as_slice-2.ensures.value, c.as_slice-3.ensures.value, c.as_mut_slice.ensures.value)
    (force_has_room (rows_in block) block.forces.items (c.requires.forces ∙ sym (length-rows_in Forces 2 block c.requires)) c.requires.room)
