use Rattle.cell_kick.proofs.FaceScene.{across_face_is_good, leaf_line_of, number_of}
use Rattle.cell_kick.proofs.tests.do_first.Goals as goal

pub do_task-requires-clause-good : goal.do_task-requires-clause-good
do_task-requires-clause-good c = rw c.requires.scene across_face_is_good

pub do_task-requires-clause-number : goal.do_task-requires-clause-number
do_task-requires-clause-number c = number_of c.args.scene.now c.args.task c.requires.scene c.requires.number

pub do_task-requires-clause-line : goal.do_task-requires-clause-line
do_task-requires-clause-line c = leaf_line_of c.args.scene.now c.args.kind c.args.task c.requires.scene c.requires.line
