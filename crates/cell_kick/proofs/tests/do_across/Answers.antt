use Rattle.std.proofs.Common.{get_or, refl, arith}
use Rattle.sph_num.specs.declared.kind.Kind.TheVariants.{Density, Force}
use Rattle.cell_block.proofs.RowsHeld.{IsWhole-from_agrees}
use Rattle.cell_kick.proofs.FaceScene.{across_face_is_good, both_second, both_task, first_added, first_ready, second_added, second_ready, second_skips}
use Rattle.cell_kick.proofs.tests.do_across.Goals as goal

pub density_pair-requires-clause-scene : goal.density_pair-requires-clause-scene
density_pair-requires-clause-scene c = rw c.requires.scene across_face_is_good

pub density_pair-requires-clause-task : goal.density_pair-requires-clause-task
density_pair-requires-clause-task c = both_task c.args.scene.now Density 1 c.requires.scene (omega arith) refl

pub density_pair-requires-clause-two_cells : goal.density_pair-requires-clause-two_cells
density_pair-requires-clause-two_cells c = both_second c.args.scene.now Density 1 c.requires.scene refl

pub density_pair-requires-clause-first_ready : goal.density_pair-requires-clause-first_ready
density_pair-requires-clause-first_ready c = rw c.from_mut.ensures.value (first_ready c.args.scene.now Density 1 c.do_first.new.block c.requires.scene refl c.do_first.ensures)

pub density_pair-requires-clause-second_ready : goal.density_pair-requires-clause-second_ready
density_pair-requires-clause-second_ready c = rw c.from_mut-2.ensures.value (second_ready c.args.scene.now Density 1 c.args.second.now c.requires.scene refl (second_skips c.args.scene.now 0 c.args.second.now c.requires.scene refl c.requires.second))

pub do_first-requires-2-clause-first : goal.do_first-requires-2-clause-first
do_first-requires-2-clause-first c = first_added c.args.scene.now Density 1 c.do_first.new.block c.density_pair.new.first c.requires.scene refl c.do_first.ensures (rw c.from_mut.ensures.value at c.density_pair.ensures.first)

pub force_pair-requires-clause-scene : goal.force_pair-requires-clause-scene
force_pair-requires-clause-scene c = rw c.requires.scene across_face_is_good

pub force_pair-requires-clause-task : goal.force_pair-requires-clause-task
force_pair-requires-clause-task c = both_task c.args.scene.now Force 4 c.requires.scene (omega arith) refl

pub force_pair-requires-clause-two_cells : goal.force_pair-requires-clause-two_cells
force_pair-requires-clause-two_cells c = both_second c.args.scene.now Force 4 c.requires.scene refl

pub force_pair-requires-clause-first_ready : goal.force_pair-requires-clause-first_ready
force_pair-requires-clause-first_ready c = rw c.from_mut-3.ensures.value (first_ready c.args.scene.now Force 4 c.do_first-3.new.block c.requires.scene refl c.do_first-3.ensures)

pub force_pair-requires-clause-second_ready : goal.force_pair-requires-clause-second_ready
force_pair-requires-clause-second_ready c =
    let scene = c.args.scene.now in
    let is = c.requires.scene in
    let mid = get_or c.density_pair.new.second 0 c.args.second.now in
    let skipped = second_skips scene 0 c.args.second.now is refl c.requires.second in
    let two = second_added scene Density 1 c.args.second.now c.density_pair.new.second is refl skipped (rw c.from_mut-2.ensures.value at c.density_pair.ensures.second) in
    let four = second_skips scene 3 mid is refl (second_skips scene 2 mid is refl two) in
    rw c.from_mut-4.ensures.value (second_ready scene Force 4 mid is refl four)

pub do_first-requires-4-clause-first : goal.do_first-requires-4-clause-first
do_first-requires-4-clause-first c = first_added c.args.scene.now Force 4 c.do_first-3.new.block c.force_pair.new.first c.requires.scene refl c.do_first-3.ensures (rw c.from_mut-3.ensures.value at c.force_pair.ensures.first)

pub returns-clause-first : goal.returns-clause-first
returns-clause-first c = IsWhole-from_agrees c.args.scene.now 0 c.do_first-4.new.block c.do_first-4.ensures.agrees

pub returns-clause-second : goal.returns-clause-second
returns-clause-second c =
    let scene = c.args.scene.now in
    let is = c.requires.scene in
    let mid = get_or c.density_pair.new.second 0 c.args.second.now in
    let skipped = second_skips scene 0 c.args.second.now is refl c.requires.second in
    let two = second_added scene Density 1 c.args.second.now c.density_pair.new.second is refl skipped (rw c.from_mut-2.ensures.value at c.density_pair.ensures.second) in
    let four = second_skips scene 3 mid is refl (second_skips scene 2 mid is refl two) in
    let five = second_added scene Force 4 mid c.force_pair.new.second is refl four (rw c.from_mut-4.ensures.value at c.force_pair.ensures.second) in
    IsWhole-from_agrees scene 1 (get_or c.force_pair.new.second 0 mid) five.agrees
