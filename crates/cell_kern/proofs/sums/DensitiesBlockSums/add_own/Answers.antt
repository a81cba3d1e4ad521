use Rattle.std.proofs.Common.{sym, ◌∙◌}
use Rattle.cell_kern.specs.inner.Taking.{Densities, rows_in}
use Rattle.cell_kern.proofs.Densities.{rho_laws, rho_has_room}
use Rattle.cell_kern.proofs.Taken.{length-rows_in}
use Rattle.cell_kern.proofs.sums.DensitiesBlockSums.add_own.Goals as goal

pub within-requires-clause-laws : goal.within-requires-clause-laws
within-requires-clause-laws c = rho_laws

pub within-requires-clause-room : goal.within-requires-clause-room
within-requires-clause-room c =
    let block = c.args.block.now in
    rw (c.as_slice.ensures.value, c.as_slice-2.ensures.value, c.as_slice-3.ensures.value, c.as_mut_slice.ensures.value)
    (rho_has_room (rows_in block) block.rhos.items (c.requires.rhos ∙ sym (length-rows_in Densities 2 block c.requires)) c.requires.room)
