use Rattle.std.proofs.Common.{length, refl, sym, ap, ◌∙◌, arith}
use Rattle.lists.proofs.Elements.{written_back}
use Rattle.cell_kern.specs.inner.Taking.{Forces, rows_in}
use Rattle.cell_kern.proofs.Forces.{force_laws, force_has_room}
use Rattle.cell_kern.proofs.Taken.{length-rows_in}
use Rattle.cell_kern.proofs.sums.ForcesBlockSums.add_both.Goals as goal

pub between-requires-clause-laws : goal.between-requires-clause-laws
between-requires-clause-laws c = force_laws

pub between-requires-clause-first_room : goal.between-requires-clause-first_room
between-requires-clause-first_room c =
    let block = c.args.first.now in
    rw (c.as_slice.ensures.value, c.as_slice-2.ensures.value, c.as_slice-3.ensures.value, c.as_mut_slice.ensures.value)
    (force_has_room (rows_in block) block.forces.items (c.requires.first.forces ∙ sym (length-rows_in Forces 2 block c.requires.first)) c.requires.first.room)

pub between-requires-clause-second_room : goal.between-requires-clause-second_room
between-requires-clause-second_room c =
    let block = c.args.second.now in
    rw (c.as_slice-4.ensures.value, c.as_slice-5.ensures.value, c.as_slice-6.ensures.value, c.as_mut_slice-2.ensures.value)
    (force_has_room (rows_in block) block.forces.items (c.requires.second.forces ∙ sym (length-rows_in Forces 2 block c.requires.second)) c.requires.second.room)

pub returns-clause-first : goal.returns-clause-first
returns-clause-first c = record {
  forces = written_back c.args.first.now.forces.len c.args.first.now.forces.items c.between.new.first_sums (omega (arith, c.args.first.now.forces.ok.0)) (c.between.auto.first_sums ∙ ap length c.as_mut_slice.ensures.value)
      ∙ (rw (c.as_slice.ensures.value, c.as_slice-2.ensures.value, c.as_slice-3.ensures.value, c.as_slice-4.ensures.value, c.as_slice-5.ensures.value, c.as_slice-6.ensures.value, c.as_mut_slice.ensures.value) at c.between.ensures.first);
  unchanged = refl;
}

pub returns-clause-second : goal.returns-clause-second
returns-clause-second c = record {
  forces = written_back c.args.second.now.forces.len c.args.second.now.forces.items c.between.new.second_sums (omega (arith, c.args.second.now.forces.ok.0)) (c.between.auto.second_sums ∙ ap length c.as_mut_slice-2.ensures.value)
      ∙ (rw (c.as_slice.ensures.value, c.as_slice-2.ensures.value, c.as_slice-3.ensures.value, c.as_slice-4.ensures.value, c.as_slice-5.ensures.value, c.as_slice-6.ensures.value, c.as_mut_slice-2.ensures.value) at c.between.ensures.second);
  unchanged = refl;
}
