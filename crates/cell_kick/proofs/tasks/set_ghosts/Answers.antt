use Rattle.std.proofs.Common.{length, refl, subst, sym, ap, ◌∙◌, arith}
use Rattle.lists.proofs.Elements.{written_back}
use Rattle.sph_num.specs.declared.kind.Kind.TheVariants.{Ghost}
use Rattle.cell_block.proofs.Added.{keeps_task}
use Rattle.cell_kick.specs.inner.Written.{AreEach, ghosts_at}
use Rattle.cell_kick.proofs.Added.{dense, ghost_added, leaf_of, touches_its_leaf}
use Rattle.cell_kick.proofs.tasks.set_ghosts.Goals as goal

pub make_ghosts-requires-clause-dense : goal.make_ghosts-requires-clause-dense
make_ghosts-requires-clause-dense c =
    rw (c.as_slice.ensures.value, c.as_slice-2.ensures.value, c.as_mut_slice.ensures.value) (dense c.args.scene.now c.args.task c.args.block.now c.requires.scene c.requires.task c.requires.block)

pub mark-requires : goal.mark-requires
mark-requires c =
    let scene = c.args.scene.now in
    keeps_task scene c.args.task (leaf_of scene c.args.task) c.args.block.now c.requires.task.number (touches_its_leaf scene Ghost c.args.task tt c.requires.scene c.requires.task) c.requires.block.agrees

pub returns : goal.returns
returns c =
    let block = c.args.block.now in
    let made = ghosts_at c.args.scene.now.params.sound block.due.items block.rhos.items in
    let back = written_back block.pulls.len block.pulls.items c.make_ghosts.new.pulls (omega (arith, block.pulls.ok.0)) (c.make_ghosts.auto.pulls ∙ ap length c.as_mut_slice.ensures.value) in
    let written : AreEach made block.pulls.items c.make_ghosts.new.pulls = rw (c.as_slice.ensures.value, c.as_slice-2.ensures.value, c.as_mut_slice.ensures.value) at c.make_ghosts.ensures in
    ghost_added c.args.scene.now c.args.task block _ c.mark.new.self c.requires.scene c.requires.task c.requires.block (subst (AreEach made block.pulls.items) (sym back) written) refl
    c.mark.ensures
