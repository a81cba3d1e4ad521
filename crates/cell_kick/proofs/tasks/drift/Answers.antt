use Rattle.std.proofs.Common.{length, refl, subst, sym, ap, ◌∙◌, arith}
use Rattle.lists.proofs.Elements.{written_back}
use Rattle.sph_num.specs.declared.kind.Kind.TheVariants.{Drift}
use Rattle.cell_block.specs.Extents.{AreWithin}
use Rattle.cell_block.proofs.Added.{keeps_task}
use Rattle.cell_kick.specs.inner.Written.{AreEach, spots_at}
use Rattle.cell_kick.proofs.Added.{drift_added, have_places, leaf_of, members_inside, touches_its_leaf}
use Rattle.cell_kick.proofs.tasks.drift.Goals as goal

pub place_members-requires-clause-within : goal.place_members-requires-clause-within
place_members-requires-clause-within c = rw c.as_slice.ensures.value (members_inside c.args.scene.now (leaf_of c.args.scene.now c.args.task) c.args.block.now c.requires.scene c.requires.block.agrees)

pub of-block-requires : goal.of-block-requires
of-block-requires c =
    let block = c.args.block.now in
    let members = block.members.items in
    let back = written_back block.spots.len block.spots.items c.place_members.new.spots (omega (arith, block.spots.ok.0)) (c.place_members.auto.spots ∙ ap length c.as_mut_slice.ensures.value) in
    let written : AreEach (spots_at c.args.scene.now members) block.spots.items c.place_members.new.spots = rw (c.as_slice.ensures.value, c.as_mut_slice.ensures.value) at c.place_members.ensures in
    rw (c.as_slice-2.ensures.value, back) (have_places c.args.scene.now members block.spots.items c.place_members.new.spots written)

pub mark-requires : goal.mark-requires
mark-requires c =
    let scene = c.args.scene.now in
    keeps_task scene c.args.task (leaf_of scene c.args.task) c.args.block.now c.requires.task.number (touches_its_leaf scene Drift c.args.task tt c.requires.scene c.requires.task) c.requires.block.agrees

pub returns : goal.returns
returns c =
    let block = c.args.block.now in
    let made = spots_at c.args.scene.now block.members.items in
    let back = written_back block.spots.len block.spots.items c.place_members.new.spots (omega (arith, block.spots.ok.0)) (c.place_members.auto.spots ∙ ap length c.as_mut_slice.ensures.value) in
    let written : AreEach made block.spots.items c.place_members.new.spots = rw (c.as_slice.ensures.value, c.as_mut_slice.ensures.value) at c.place_members.ensures in
    drift_added c.args.scene.now c.args.task block _ c.mark.new.self c.requires.scene c.requires.task c.requires.block (subst (AreEach made block.spots.items) (sym back) written) refl
    (subst (AreWithin c.of-block.result) c.as_slice-2.ensures.value c.of-block.ensures)
    c.mark.ensures
